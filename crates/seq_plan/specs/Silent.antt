-- What a rule may pass over between two turns: a loop is written out, and a `seq` of what is there already goes on at once. So a rule that walks a node needs no turn, and no value, for the rest of that node.
use Rattle.std.specs.Prelude.{◌≡◌, List}
use Rattle.seq_values.specs.Model.{Value}
use Rattle.seq_plan.specs.Plan.{Loop, Plan, seq, go, then, plan_of, Round}
use Rattle.seq_plan.specs.Nodes.{now, found}

pub data Silently {C : Type 0} (rounds : Loop → List (Value C) → Round C) : Plan C → Plan C → Type 0 where
  arrives : {p : Plan C} → Silently rounds p p
  opens : {l : Loop} {xs : List (Value C)} {k : Value C → Plan C} {q : Plan C} → Silently rounds (then (plan_of (rounds l xs)) k) q → Silently rounds (go l xs k) q
  finds : {v w : Value C} {k : Value C → Plan C} {q : Plan C} → found v ≡ now w → Silently rounds (k w) q → Silently rounds (seq v k) q
