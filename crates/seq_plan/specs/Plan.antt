-- What a work does, as a finite tree. A call and a loop are nodes that name what is called: whoever walks the plan writes them out in place.
use Rattle.std.specs.Prelude.{List}
use Rattle.seq_base.specs.declared.thrown.Thrown.{Thrown}
use Rattle.seq_values.specs.declared.words.Kind.{Kind}
use Rattle.seq_values.specs.declared.words.Op.{Op}
use Rattle.seq_values.specs.declared.words.Target.{Target}
use Rattle.seq_values.specs.Model.{Value, Term}

-- The loops of the rules. What its variables are is said where a loop's round stands.
pub data Loop : Type 0 where
  nth_from last_from count_from gather_from doall_from every_from some_from : Loop
  equal_from reduce_from enter_from : Loop
  drop_from drop_while_from parts_from pull_from ahead_from : Loop
  print_value print_rest : Loop

pub data Plan (C : Type 0) : Type 0 where
  -- an own step for one element or value
  visit : Plan C → Plan C
  -- Asks a part, which is an own step. An error that it throws ends the work, so the plan goes on by a value alone.
  ask : C → (Value C → Plan C) → Plan C
  -- nil, or a node that isn't empty
  seq : Value C → (Value C → Plan C) → Plan C
  -- calls a value with arguments, which is an own step
  call : Value C → List (Value C) → (Value C → Plan C) → Plan C
  -- a loop, with its variables
  go : Loop → List (Value C) → (Value C → Plan C) → Plan C
  -- makes a part
  make : Kind → Term C → (C → Plan C) → Plan C
  give : Value C → Plan C
  throw : Thrown → Plan C

-- One round of a loop: its end, or an own step and a plan. So a walk that goes round takes own steps.
pub data Round (C : Type 0) : Type 0 where
  ends_with : Value C → Round C
  fails : Thrown → Round C
  visits : Plan C → Round C
  calls_for : Value C → List (Value C) → (Value C → Plan C) → Round C

-- the second plan goes on with what the first gives
abbrev pub then : {C : Type 0} → Plan C → (Value C → Plan C) → Plan C
then (visit p) h = visit (then p h)
then (ask c k) h = ask c (λ v. then (k v) h)
then (seq v k) h = seq v (λ w. then (k w) h)
then (call f xs k) h = call f xs (λ v. then (k v) h)
then (go l xs k) h = go l xs (λ v. then (k v) h)
then (make kind t k) h = make kind t (λ c. then (k c) h)
then (give v) h = h v
then (throw e) h = throw e

-- a round as a plan
abbrev pub plan_of : {C : Type 0} → Round C → Plan C
plan_of (ends_with v) = give v
plan_of (fails e) = throw e
plan_of (visits p) = visit p
plan_of (calls_for f xs k) = call f xs k

-- the rules of the language: what each call, term and loop does
pub record Rules (C : Type 0) : Type 0 where
  -- What a call does after its own step, by what is called, the bound arguments and the arguments. A function of the program has its body, and isn't looked up here.
  pub on_call : Target → List (Value C) → List (Value C) → Plan C
  -- The work of a term. The body of a `lazy-seq` isn't looked up here.
  pub on_term : Op → List (Value C) → Plan C
  pub on_loop : Loop → List (Value C) → Round C
  -- realises a value and gives its text
  pub on_print : Value C → Plan C

-- a plan that begins with a loop begins with its round
abbrev pub opened : {C : Type 0} → (Loop → List (Value C) → Round C) → Plan C → Plan C
opened rounds (go l xs k) = then (plan_of (rounds l xs)) k
opened rounds p = p

-- what a rule that runs by turns is told: to begin, that its step is done, a value, or the part that was made
pub data Told (C : Type 0) : Type 0 where
  begun done : Told C
  got : Value C → Told C
  told_made : C → Told C

-- a plan that waits to be told
abbrev pub Waits : Type 0 → Type 0
Waits C = Told C → Plan C
