-- Each expression that is to be built finds as many values as it takes.
use Rattle.std.proofs.Common.{◌≡◌, ℕ, ◌+◌, ◌-◌, ◌≤◌, suc, List, [], ◌∷◌, ◌++◌, length, take, replicate, Some, None, Result, Ok, Err, refl, sym, ap, subst, arith, append_assoc, length-append}
use Rattle.std.proofs.lemmas.List.{length-take-le}
use Rattle.clj_reader.specs.declared.place.Place.{Place}
use Rattle.clj_script.specs.declared.task.Build.{Build}
use Rattle.clj_script.specs.declared.task.Build.TheVariants.{Vector, Call, Let, And, Or}
use Rattle.clj_script.specs.Trees.{Expr}
use Rattle.clj_script.specs.Sources.{Source, atom, symbol, round, square, listed}
use Rattle.clj_script.specs.Scopes.{Definitions, named}
use Rattle.clj_script.specs.Readings.{Reading, reading, nothing, refused, stands_for, call, let_of, if_of, and_of, or_of, lazy_seq}
use Rattle.clj_script.specs.Machines.{Todo, look, bind, build, Now, taking, front, looks, lets, plan_of_reading, plan_of_name, asked_by, after_plan, asked, after, Enough}
use Rattle.clj_script.proofs.MeaningLemmas.{ends_behind}

pub enough_at : (ts : List Todo) (m n : ℕ) → m ≡ n → Enough ts m → Enough ts n
enough_at ts m n e h = subst (λ (k : ℕ). Enough ts k) e h

enough_of : (ts us : List Todo) (n : ℕ) → us ≡ ts → Enough ts n → Enough us n
enough_of ts us n e h = subst (λ (ws : List Todo). Enough ws n) (sym e) h

-- after one more value
one_more : (ts : List Todo) (vs : List Expr) (e : Expr) → Enough ts (suc (length vs)) → Enough ts (length (vs ++ e ∷ []))
one_more ts vs e h = enough_at ts (suc (length vs)) (length (vs ++ e ∷ [])) (omega (arith, length-append vs (e ∷ []))) h

looked : (ss : List Source) (ts : List Todo) (n : ℕ) → Enough ts (length ss + n) → Enough (looks ss ++ ts) n
looked [] ts n h = enough_at ts (0 + n) n (omega arith) h
looked (s ∷ ss) ts n h = looked ss ts (suc n) (enough_at ts (length (s ∷ ss) + n) (length ss + suc n) (omega arith) h)

built_of : (ts : List Todo) (k : Build) (i n : ℕ) → i ≡ taking k + n → Enough ts (suc n) → Enough (build k ∷ ts) i
built_of ts k i n e h = (omega arith, enough_at ts (suc n) (suc (i - taking k)) (omega arith) h)

-- an expression of several forms
gathered : (ss : List Source) (k : Build) (ts : List Todo) (n : ℕ) → taking k ≡ length ss → Enough ts (suc n) → Enough ((looks ss ++ build k ∷ []) ++ ts) n
gathered ss k ts n e h = enough_of (looks ss ++ build k ∷ ts) ((looks ss ++ build k ∷ []) ++ ts) n (append_assoc (looks ss) (build k ∷ []) ts) (looked ss (build k ∷ ts) n (built_of ts k (length ss + n) n (omega arith) h))

called : (args : List Source) (ts : List Todo) (n : ℕ) → Enough ts (suc n) → Enough ((looks args ++ build (Call (length args)) ∷ []) ++ ts) (suc n)
called args ts n h = enough_of (looks args ++ build (Call (length args)) ∷ ts) ((looks args ++ build (Call (length args)) ∷ []) ++ ts) (suc n) (append_assoc (looks args) (build (Call (length args)) ∷ []) ts) (looked args (build (Call (length args)) ∷ ts) (suc n) (built_of ts (Call (length args)) (length args + suc n) n (omega arith) h))

-- values that are bound for a body
bound_all : (pairs : List (Source × Source)) (body : Source) (ts : List Todo) (n : ℕ) → Enough ts (suc n) → Enough (lets pairs ++ look body ∷ (replicate (length pairs) (build Let) ++ ts)) n
bound_all [] body ts n h = h
bound_all (p ∷ pairs) body ts n h =
    enough_of _ _ (suc n) (ap (λ (us : List Todo). lets pairs ++ look body ∷ us) (ends_behind (length pairs) ts)) (bound_all pairs body (build Let ∷ ts) (suc n) (built_of ts Let (suc (suc n)) n (omega arith) h))

bound_for : (pairs : List (Source × Source)) (body : Source) (ts : List Todo) (n : ℕ) → Enough ts (suc n) → Enough ((lets pairs ++ look body ∷ replicate (length pairs) (build Let)) ++ ts) n
bound_for pairs body ts n h = enough_of (lets pairs ++ look body ∷ (replicate (length pairs) (build Let) ++ ts)) ((lets pairs ++ look body ∷ replicate (length pairs) (build Let)) ++ ts) n (append_assoc (lets pairs) (look body ∷ replicate (length pairs) (build Let)) ts) (bound_all pairs body ts n h)

of_reading : (p : Place) (r : Reading) (m : Now) (ts : List Todo) → Enough ts (suc (length m.values)) → Enough (asked_by (plan_of_reading p r) ++ ts) (length (after_plan (plan_of_reading p r) m).values)
of_reading p nothing m ts h = one_more ts m.values _ h
of_reading p (refused k) m ts h = one_more ts m.values _ h
of_reading p (stands_for s steps) m ts h = h
of_reading p (call head args) m ts h = called args ts (length m.values) h
of_reading p (let_of pairs body) m ts h = bound_for pairs body ts (length m.values) h
of_reading p (if_of test a (Some z)) m ts h = (omega arith, enough_at ts (suc (length m.values)) (suc (suc (suc (suc (length m.values))) - 3)) (omega arith) h)
of_reading p (if_of test a None) m ts h = (omega arith, (omega arith, enough_at ts (suc (length m.values)) (suc (suc (suc (suc (length m.values)) - 0) - 3)) (omega arith) h))
of_reading p (and_of args) m ts h = gathered args (And (length args)) ts (length m.values) refl h
of_reading p (or_of args) m ts h = gathered args (Or (length args)) ts (length m.values) refl h
of_reading p (lazy_seq body) m ts h = (omega arith, enough_at ts (suc (length m.values)) (suc (suc (length m.values) - 1)) (omega arith) h)

of_name : (p : Place) (r : Result Expr ℕ) (m : Now) (ts : List Todo) → Enough ts (suc (length m.values)) → Enough (asked_by (plan_of_name p r) ++ ts) (length (after_plan (plan_of_name p r) m).values)
of_name p (Ok e) m ts h = one_more ts m.values _ h
of_name p (Err k) m ts h = one_more ts m.values _ h

of_built : (k : Build) (vs : List Expr) (e : Expr) → taking k ≤ length vs → suc (length vs - taking k) ≡ length (front (taking k) vs ++ e ∷ [])
of_built k vs e h =
    let f : length (take (length vs - taking k) vs) ≡ length vs - taking k = length-take-le (length vs - taking k) vs (omega arith) in
    omega (arith, f, length-append (take (length vs - taking k) vs) (e ∷ []))

pub step_enough : (d : Definitions) (m : Now) (todo : Todo) (ts : List Todo) → Enough (todo ∷ ts) (length m.values) → Enough (asked d m todo ++ ts) (length (after d m todo).values)
step_enough d m (bind s) ts h = h
step_enough d m (build k) ts h = enough_at ts (suc (length m.values - taking k)) _ (of_built k m.values _ h.0) h.1
step_enough d m (look (atom p l)) ts h = one_more ts m.values _ h
step_enough d m (look (symbol p name)) ts h = of_name p (named d m.locals name) m ts h
step_enough d m (look (square p items)) ts h = gathered (listed items) (Vector (length (listed items))) ts (length m.values) refl h
step_enough d m (look (round p items)) ts h = of_reading p (reading (listed items)) m ts h
