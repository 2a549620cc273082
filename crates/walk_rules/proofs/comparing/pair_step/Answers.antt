use Rattle.std.proofs.Common.{sym, ◌∙◌}
use Rattle.seq_values.specs.Plain.{plain}
use Rattle.seq_turns.proofs.Taking.{in_ok}
use Rattle.walk_rules.specs.Left.{resolved, walking}
use Rattle.walk_rules.proofs.Equals.{pair_seqs, pair_atoms}
use Rattle.walk_rules.proofs.comparing.pair_step.Goals as goal

pub returns-then-are_collections : goal.returns-then-are_collections
returns-then-are_collections c = in_ok walking c.left_seen.result (λ n h. pair_seqs (plain c.args.left.value) (plain c.args.right.value) (resolved c.args.pending) n (sym c.is_odd_pair.ensures ∙ c.if-is_odd_pair.false) (sym c.are_collections.ensures ∙ c.if-are_collections.true) h) c.left_seen.ensures

pub returns : goal.returns
returns c = in_ok walking c.after_atoms.result (λ n h. pair_atoms (plain c.args.left.value) (plain c.args.right.value) (resolved c.args.pending) n c.same_atoms-same.result (sym c.is_odd_pair.ensures ∙ c.if-is_odd_pair.false) (sym c.are_collections.ensures ∙ c.if-are_collections.false) c.same_atoms-same.ensures h) c.after_atoms.ensures
