-- A turn that takes a node takes it of each plan that may be passed on to the node.
use Rattle.std.proofs.Common.{◌≡◌, ℕ, true, List, sym, ap}
use Rattle.seq_values.specs.Model as M
use Rattle.seq_values.specs.Plain.{plain}
use Rattle.seq_plan.specs.Plan.{Plan, Loop, go, seq, give, plan_of}
use Rattle.seq_plan.specs.Nodes.{now, found}
use Rattle.seq_turns.specs.Making.{made, Makes}
use Rattle.seq_turns.specs.declared.made.Made.{Made}
use Rattle.seq_turns.specs.declared.next.Next.{Next}
use Rattle.seq_turns.specs.declared.proper.Proper.{Proper}
use Rattle.seq_turns.proofs.Taking as T
use Rattle.lazy_rows.specs.Table.{walk_round}
use Rattle.walk_rules.specs.Left.{is_walk, walking, Takes}
use Rattle.walk_rules.specs.declared.state.State.{State}

pub same : {p q : Plan ℕ} {r : Next State} → p ≡ q → Takes p r → Takes q r
same e h = T.takes_same walking e h

-- a loop after which nothing comes
pub round : (l : Loop) (xs : List (M.Value ℕ)) {r : Next State} → is_walk l ≡ true → Takes (plan_of (walk_round l xs)) r → Takes (go l xs give) r
round l xs o h = T.takes_round walking l xs o h

-- a `seq` of what is there already
pub found_same : (v w u : M.Value ℕ) (k : M.Value ℕ → Plan ℕ) (r : Next State) → u ≡ v → found u ≡ now w → Takes (k w) r → Takes (seq v k) r
found_same v w u k r e f h = same (ap (λ x. seq x k) e) (T.takes_found walking u w k f h)

pub gives_same : (m : M.Value ℕ) (v : Proper) (r : Next State) → plain v.value ≡ m → Takes (give (plain v.value)) r → Takes (give m) r
gives_same m v r e h = same (ap give e) h

pub made_gives : (plan : (M.Value ℕ → Plan ℕ) → Plan ℕ) (m : Made) (r : Next State) → Makes plan m → Takes (made m give) r → Takes (plan give) r
made_gives plan m r e h = same (sym (e.goes give)) h
