-- What a task is taken apart into is lighter than the task.
use Rattle.std.proofs.Common.{◌≡◌, ℕ, ◌+◌, ◌≤◌, ◌<◌, zero, suc, Bool, true, false, List, [], ◌∷◌, ◌++◌, length, replicate, Option, Some, None, Result, Ok, Err, refl, arith}
use Rattle.clj_reader.specs.declared.place.Place.{Place}
use Rattle.clj_script.specs.declared.task.Build.{Build}
use Rattle.clj_script.specs.declared.task.Build.TheVariants.{Vector, Call, Let, And, Or}
use Rattle.clj_script.specs.declared.words.Special.{Special}
use Rattle.clj_script.specs.declared.words.Special.TheVariants as special
use Rattle.clj_script.specs.declared.words.Reserved.{Reserved}
use Rattle.clj_script.specs.declared.words.Reserved.TheVariants as reserved
use Rattle.clj_script.specs.declared.thread.Way.{Way}
use Rattle.clj_script.specs.declared.thread.Way.TheVariants.{Second, Last}
use Rattle.clj_script.specs.Trees.{Expr}
use Rattle.clj_script.specs.Words.{reserved_of}
use Rattle.clj_script.specs.Sources.{Source, Sources, no_more, before, atom, symbol, round, square, sources, listed}
use Rattle.clj_script.specs.Scopes.{Definitions, named}
use Rattle.clj_script.specs.Threading.{put, written_out}
use Rattle.clj_script.specs.Readings.{Reading, reading, headed, special_reading, elsewhere, threaded, is_top_form, let_with, one_more, paired}
use Rattle.clj_script.specs.Machines.{Todo, look, bind, build, Now, looks, lets, plan_of_reading, plan_of_name, asked_by, asked, weight, weight_all, weight_headed, weight_at_head, weight_of, total}

pub total-join : (ts us : List Todo) → total (ts ++ us) ≡ total ts + total us
total-join [] us = omega arith
total-join (t ∷ ts) us = omega (arith, total-join ts us)

light_at_head : (s : Source) → weight_at_head s ≤ weight s
light_at_head (atom p l) = omega arith
light_at_head (symbol p name) = omega arith
light_at_head (round p ss) = omega arith
light_at_head (square p ss) = omega arith

heavy : (s : Source) → 2 ≤ weight s
heavy (atom p l) = omega arith
heavy (symbol p name) = omega arith
heavy (round p ss) = omega arith
heavy (square p ss) = omega arith

looks_light : (ss : Sources) → total (looks (listed ss)) ≤ weight_all ss
looks_light no_more = omega arith
looks_light (before s ss) = omega (arith, light_at_head s, looks_light ss)

gathered_light : (ss : Sources) (k : Build) → total (looks (listed ss) ++ build k ∷ []) ≤ weight_all ss + 1
gathered_light ss k = omega (arith, total-join (looks (listed ss)) (build k ∷ []), looks_light ss)

-- as many ends of bindings
ends_weight : (n : ℕ) → total (replicate n (build Let)) ≡ n
ends_weight zero = refl
ends_weight (suc n) = omega (arith, ends_weight n)

weight_listed : (ss : Sources) → weight_all (sources (listed ss)) ≡ weight_all ss
weight_listed no_more = refl
weight_listed (before s ss) = omega (arith, weight_listed ss)

weight_with_last : (ss : Sources) (x : Source) → weight_all (sources (listed ss ++ x ∷ [])) ≡ weight_all ss + weight x
weight_with_last no_more x = omega arith
weight_with_last (before s ss) x = omega (arith, weight_with_last ss x)

put_light : (way : Way) (x s : Source) → weight (put way x s) ≤ weight x + weight s
put_light way x (atom p l) = omega arith
put_light way x (square p ss) = omega arith
put_light Second x (symbol p name) = omega arith
put_light Last x (symbol p name) = omega arith
put_light way x (round p no_more) = omega arith
put_light Second x (round p (before s ss)) = omega (arith, weight_listed ss)
put_light Last x (round p (before s ss)) = omega (arith, weight_with_last ss x)

pub written_light : (way : Way) (x : Source) (steps : Sources) → weight (written_out way x (listed steps)) ≤ weight x + weight_all steps
written_light way x no_more = omega arith
written_light way x (before s ss) = omega (arith, put_light way x s, written_light way (put way x s) ss)

-- pairs, where there are some, weigh at most so much
PairsWithin : Option (List (Source × Source)) → ℕ → Type 0
PairsWithin (Some pairs) w = total (lets pairs) + length pairs ≤ w
PairsWithin None w = Unit {0}

more_within : (name value : Source) (o : Option (List (Source × Source))) (w : ℕ) → PairsWithin o w → PairsWithin (one_more (name, value) o) (weight name + (weight value + w))
unfolding PairsWithin
more_within name value (Some pairs) w h = omega (arith, heavy name, light_at_head value)
more_within name value None w h = tt

pairs_within : (bindings : Sources) → PairsWithin (paired (listed bindings)) (weight_all bindings)
unfolding PairsWithin
pairs_within no_more = omega arith
pairs_within (before name no_more) = tt
pairs_within (before name (before value rest)) = more_within name value (paired (listed rest)) (weight_all rest) (pairs_within rest)

module _ (p : Place) where
  -- what is asked for by a reading
  asked_weight : Reading → ℕ
  asked_weight r = total (asked_by (plan_of_reading p r))

  let_light : (o : Option (List (Source × Source))) (body : Source) (w : ℕ) → PairsWithin o w → asked_weight (let_with o body) ≤ w + weight body
  unfolding asked_weight PairsWithin
  let_light (Some pairs) body w h = omega (arith, total-join (lets pairs) (look body ∷ replicate (length pairs) (build Let)), ends_weight (length pairs), light_at_head body)
  let_light None body w h = omega arith

  elsewhere_light : (b : Bool) → asked_weight (elsewhere b) ≡ 0
  unfolding asked_weight
  elsewhere_light true = refl
  elsewhere_light false = refl

  threaded_light : (way : Way) (args : Sources) → asked_weight (threaded way (listed args)) < 3 + weight_all args
  unfolding asked_weight
  threaded_light way no_more = omega arith
  threaded_light way (before x steps) = omega (arith, written_light way x steps, light_at_head (written_out way x (listed steps)))

  let_reading_light : (args : Sources) → asked_weight (special_reading special.Let (listed args)) < 3 + weight_all args
  unfolding asked_weight
  let_reading_light no_more = omega arith
  let_reading_light (before (atom q l) args) = omega arith
  let_reading_light (before (symbol q name) args) = omega arith
  let_reading_light (before (round q ss) args) = omega arith
  let_reading_light (before (square q ss) no_more) = omega arith
  let_reading_light (before (square q ss) (before body no_more)) = omega (arith, let_light (paired (listed ss)) body (weight_all ss) (pairs_within ss))
  let_reading_light (before (square q ss) (before body (before s more))) = omega arith

  if_light : (args : Sources) → asked_weight (special_reading special.If (listed args)) < 3 + weight_all args
  unfolding asked_weight
  if_light no_more = omega arith
  if_light (before t no_more) = omega arith
  if_light (before t (before a no_more)) = omega (arith, light_at_head t, light_at_head a)
  if_light (before t (before a (before z no_more))) = omega (arith, light_at_head t, light_at_head a, light_at_head z)
  if_light (before t (before a (before z (before s more)))) = omega arith

  when_light : (args : Sources) → asked_weight (special_reading special.When (listed args)) < 3 + weight_all args
  unfolding asked_weight
  when_light no_more = omega arith
  when_light (before t no_more) = omega arith
  when_light (before t (before a no_more)) = omega (arith, light_at_head t, light_at_head a)
  when_light (before t (before a (before z more))) = omega arith

  lazy_light : (args : Sources) → asked_weight (special_reading special.LazySeq (listed args)) < 3 + weight_all args
  unfolding asked_weight
  lazy_light no_more = omega arith
  lazy_light (before body no_more) = omega (arith, light_at_head body)
  lazy_light (before body (before s more)) = omega arith

  and_light : (args : Sources) → asked_weight (special_reading special.And (listed args)) < 3 + weight_all args
  unfolding asked_weight
  and_light args = omega (arith, gathered_light args (And (length (listed args))))

  or_light : (args : Sources) → asked_weight (special_reading special.Or (listed args)) < 3 + weight_all args
  unfolding asked_weight
  or_light args = omega (arith, gathered_light args (Or (length (listed args))))

  special_light : (word : Special) (args : Sources) → asked_weight (special_reading word (listed args)) < 3 + weight_all args
  special_light special.Def args = omega (arith, elsewhere_light (is_top_form special.Def (listed args)))
  special_light special.Defn args = omega (arith, elsewhere_light (is_top_form special.Defn (listed args)))
  special_light special.Prn args = omega (arith, elsewhere_light (is_top_form special.Prn (listed args)))
  special_light special.Ledger args = omega (arith, elsewhere_light (is_top_form special.Ledger (listed args)))
  special_light special.Let args = let_reading_light args
  special_light special.If args = if_light args
  special_light special.When args = when_light args
  special_light special.And args = and_light args
  special_light special.Or args = or_light args
  special_light special.LazySeq args = lazy_light args
  special_light special.ThreadSecond args = threaded_light Second args
  special_light special.ThreadLast args = threaded_light Last args

  call_light : (head : Source) (args : Sources) → asked_weight (headed None head (listed args)) < 2 + (weight_at_head head + weight_all args)
  unfolding asked_weight
  call_light head args = omega (arith, gathered_light args (Call (length (listed args))))

  headed_light : (o : Option Reserved) (q : Place) (name : List ℕ) (args : Sources) → asked_weight (headed o (symbol q name) (listed args)) < 3 + weight_all args
  unfolding asked_weight
  headed_light None q name args = omega (arith, call_light (symbol q name) args)
  headed_light (Some reserved.Outside) q name args = omega arith
  headed_light (Some (reserved.Special word)) q name args = special_light word args

  reading_light : (items : Sources) → total (asked_by (plan_of_reading p (reading (listed items)))) < 2 + weight_headed items
  unfolding asked_weight reading
  reading_light no_more = omega arith
  reading_light (before (atom q l) args) = call_light (atom q l) args
  reading_light (before (round q ss) args) = call_light (round q ss) args
  reading_light (before (square q ss) args) = call_light (square q ss) args
  reading_light (before (symbol q name) args) = omega (arith, headed_light (reserved_of name) q name args)

name_light : (p : Place) (r : Result Expr ℕ) → total (asked_by (plan_of_name p r)) < 1
name_light p (Ok e) = omega arith
name_light p (Err n) = omega arith

pub step_lighter : (d : Definitions) (m : Now) (todo : Todo) → total (asked d m todo) < weight_of todo
step_lighter d m (bind s) = omega arith
step_lighter d m (build k) = omega arith
step_lighter d m (look (atom p l)) = omega arith
step_lighter d m (look (symbol p name)) = name_light p (named d m.locals name)
step_lighter d m (look (square p items)) = omega (arith, gathered_light items (Vector (length (listed items))))
step_lighter d m (look (round p items)) = reading_light p items
