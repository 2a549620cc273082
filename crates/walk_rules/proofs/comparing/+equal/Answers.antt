use Rattle.std.proofs.Common.{◌≡◌, ◌<◌, [], ◌∷◌, ◌++◌, length, drop, true, sym, ap, ◌∙◌, rules, arith, length-drop}
use Rattle.seq_turns.specs.Seen.{seen, rested}
use Rattle.seq_turns.proofs.Taking.{in_ok, takes_found}
use Rattle.seq_values.specs.Model as M
use Rattle.seq_values.specs.Plain.{plains}
use Rattle.seq_plan.specs.Plan.{seq}
use Rattle.walk_rules.specs.Left.{args_left, compares, resolved, resolved_by, walking}
use Rattle.walk_rules.proofs.Equals.{both_end, left_ends, args_true, resolved_push}
use Rattle.walk_rules.proofs.Taking.{same}
use Rattle.walk_rules.proofs.comparing.+equal.Goals as goal

pub equal_right-returns-in-Now : goal.equal_right-returns-in-Now
equal_right-returns-in-Now t c = in_ok walking c.equal_at.result (λ n h. takes_found walking (rested c.args.right) (seen c.in-Now.what) (λ s. compares (seen c.args.left) s (resolved c.args.pending)) (rw c.in-Now.is at c.seek_rest.ensures) h) c.equal_at.ensures

pub left_nil-returns-in-Nil : goal.left_nil-returns-in-Nil
left_nil-returns-in-Nil t c = rw c.in-Nil.is (in_ok walking c.resolve.result (λ n h. both_end c.args.pending n h) c.resolve.ensures)

pub left_nil-returns-in-At : goal.left_nil-returns-in-At
left_nil-returns-in-At t c = rw c.in-At.is (left_ends c.in-At.place c.args.pending c.ended.result c.ended.ensures)

pub resolve-returns-in-None : goal.resolve-returns-in-None
resolve-returns-in-None t c =
    let p = c.args.pending in
    let e : p.rests.items ≡ [] = search rules in
    let b : 0 < length (drop p.at p.args.items) = omega (arith, length-drop p.at p.args.items, p.within) in
    in_ok walking c.next_pair.result (λ n h. same (args_true p.negated (drop p.at p.args.items) b ∙ sym (ap (λ rs. resolved_by (args_left p.negated (plains (drop p.at p.args.items))) rs (M.bool true)) e)) h) c.next_pair.ensures

pub resolve-returns-in-Now : goal.resolve-returns-in-Now
resolve-returns-in-Now t c =
    let p = c.args.pending in
    let h0 = args_left p.negated (plains (drop p.at p.args.items)) in
    let e : p.rests.items ≡ c.pop.new.self.items ++ c.in-Some.more ∷ [] = search rules in
    in_ok walking c.equal_right.result (λ n h. same (sym (ap (λ rs. resolved_by h0 rs (M.bool true)) e ∙ resolved_push h0 c.pop.new.self.items c.in-Some.more (M.bool true))) (takes_found walking (rested c.in-Some.more.left) (seen c.in-Now.what) (λ u. seq (rested c.in-Some.more.right) (λ v. compares u v (resolved_by h0 c.pop.new.self.items))) (rw c.in-Now.is at c.seek_rest.ensures) h)) c.equal_right.ensures

pub resolve-returns-in-Ask : goal.resolve-returns-in-Ask
resolve-returns-in-Ask t c =
    let p = c.args.pending in
    let h0 = args_left p.negated (plains (drop p.at p.args.items)) in
    let e : p.rests.items ≡ c.pop.new.self.items ++ c.in-Some.more ∷ [] = search rules in
    let q = rw c.in-Ask.is at c.seek_rest.ensures in
    same (ap (λ v. seq v (λ u. seq (rested c.in-Some.more.right) (λ s. compares u s (resolved_by h0 c.pop.new.self.items)))) q.0 ∙ sym (ap (λ rs. resolved_by h0 rs (M.bool true)) e ∙ resolved_push h0 c.pop.new.self.items c.in-Some.more (M.bool true))) c.asks_seq.ensures
