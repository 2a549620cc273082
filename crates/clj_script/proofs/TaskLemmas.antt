-- What is pushed on the tasks, as what is to be done.
use Rattle.std.proofs.Common.{◌≡◌, ℕ, ◌+◌, List, [], ◌∷◌, ◌++◌, map, replicate, refl, sym, ◌∙◌, ap, subst, suc, append_assoc, reverse, arith, Result, Ok, Err}
use Rattle.std.specs.Result.{OnOk}
use Rattle.std.proofs.lemmas.List.{reverse-append, reverse-reverse}
use Rattle.std.specs.Borrow.{Bor}
use Rattle.clj_script.specs.declared.source.Entry.{Entry}
use Rattle.clj_script.specs.declared.task.Task.{Task}
use Rattle.clj_script.specs.declared.task.Task.TheVariants as task
use Rattle.clj_script.specs.declared.task.Build.TheVariants.{Let}
use Rattle.clj_script.specs.Arena.{AllBelow}
use Rattle.clj_script.specs.Entries.{form_at}
use Rattle.clj_script.specs.Reads.{pair_at, numbers_of_pairs}
use Rattle.clj_script.specs.Machines.{Todo, build, looks, lets, Pushes, AreWithin, task_numbers, todo_at, todos, stacked}
use Rattle.clj_script.proofs.EntryLemmas.{map-one}

-- one more task is done first
stacked-more : (es : List Entry) (above : List Todo) (ts : List Task) (t : Task) → stacked es above (ts ++ t ∷ []) ≡ todo_at es t ∷ stacked es above ts
stacked-more es above [] t = refl
stacked-more es above (u ∷ ts) t = stacked-more es (todo_at es u ∷ above) ts t

pub todos-more : (es : List Entry) (ts : List Task) (t : Task) → todos es (ts ++ t ∷ []) ≡ todo_at es t ∷ todos es ts
todos-more es ts t = stacked-more es [] ts t

pub within_more : (bound : ℕ) (ts : List Task) (t : Task) → AreWithin bound ts → AllBelow bound (task_numbers t) → AreWithin bound (ts ++ t ∷ [])
within_more bound [] t w b = (b, tt)
within_more bound (u ∷ ts) t w b = (w.0, within_more bound ts t w.1 b)

pub below_parts : (bound : ℕ) (ns ms : List ℕ) → AllBelow bound (ns ++ ms) → AllBelow bound ns × AllBelow bound ms
below_parts bound [] ms b = (tt, b)
below_parts bound (n ∷ ns) ms b =
    let p : AllBelow bound ns × AllBelow bound ms = below_parts bound ns ms b.1 in
    ((b.0, p.0), p.1)

pub pushes_none : (ts : List Task) → Pushes ts ts [] (λ es. [])
pushes_none ts = record { within = λ bound w b. w; stand = λ es. refl }

pub pushes_more : {old mid new : List Task} {ns : List ℕ} {pushed : List Entry → List Todo} (t : Task) → Pushes old mid ns pushed → new ≡ mid ++ t ∷ [] → Pushes old new (task_numbers t ++ ns) (λ es. todo_at es t ∷ pushed es)
pushes_more {old = old} {mid = mid} {ns = ns} t p e = record {
  within = λ bound w b.
      let q : AllBelow bound (task_numbers t) × AllBelow bound ns = below_parts bound (task_numbers t) ns b in
      rw e (within_more bound mid t (p.within bound w q.1) q.0);
  stand = λ es. ap (todos es) e ∙ todos-more es mid t ∙ ap (λ us. todo_at es t ∷ us) (p.stand es);
}

pub pushes_one : {old new : List Task} (t : Task) → new ≡ old ++ t ∷ [] → Pushes old new (task_numbers t ++ []) (λ es. todo_at es t ∷ [])
pushes_one {old = old} t e = pushes_more t (pushes_none old) e

-- the second is done before the first
pub pushes_both : {old mid new : List Task} {ns ms : List ℕ} {first second : List Entry → List Todo} → Pushes old mid ns first → Pushes mid new ms second → Pushes old new (ms ++ ns) (λ es. second es ++ first es)
pushes_both {old = old} {ns = ns} {ms = ms} {first = first} {second = second} p q = record {
  within = λ bound w b.
      let r : AllBelow bound ms × AllBelow bound ns = below_parts bound ms ns b in
      q.within bound (p.within bound w r.1) r.0;
  stand = λ es. q.stand es ∙ ap (λ us. second es ++ us) (p.stand es) ∙ sym (append_assoc (second es) (first es) (todos es old));
}

-- the same where the first names no form
pub pushes_over : {old mid new : List Task} {ms : List ℕ} {first second : List Entry → List Todo} → Pushes old mid [] first → Pushes mid new ms second → Pushes old new ms (λ es. second es ++ first es)
pushes_over {old = old} {first = first} {second = second} p q = record {
  within = λ bound w b. q.within bound (p.within bound w tt) b;
  stand = λ es. q.stand es ∙ ap (λ us. second es ++ us) (p.stand es) ∙ sym (append_assoc (second es) (first es) (todos es old));
}

pub on_ok : {T E P Q : Type 0} (r : Result T E) → (P → Q) → OnOk r P → OnOk r Q
on_ok (Ok x) f p = f p
on_ok (Err e) f p = tt

-- the same in other words
pub pushes_same : {old new : List Task} {ns ms : List ℕ} {pushed wanted : List Entry → List Todo} → Pushes old new ns pushed → ((bound : ℕ) → AllBelow bound ms → AllBelow bound ns) → ((es : List Entry) → pushed es ≡ wanted es) → Pushes old new ms wanted
pushes_same {old = old} p f g = record { within = λ bound w b. p.within bound w (f bound b); stand = λ es. p.stand es ∙ ap (λ us. us ++ todos es old) (g es) }

reverse-more : {X : Type 0} (xs : List X) (x : X) → reverse (xs ++ x ∷ []) ≡ x ∷ reverse xs
reverse-more xs x = reverse-append xs (x ∷ [])

abbrev pub seen_by : {X : Type 0} → List (Bor X) → List X
seen_by ys = map (λ y. y.now) ys

seen_more : {X : Type 0} (ys : List (Bor X)) (y : Bor X) → reverse (seen_by (ys ++ y ∷ [])) ≡ y.now ∷ reverse (seen_by ys)
seen_more ys y = ap reverse (map-one (λ z. z.now) ys y) ∙ reverse-more (seen_by ys) y.now

-- these forms are looked at
abbrev pub PushesLooks : List Task → List Task → List ℕ → Type 0
PushesLooks old new ns = Pushes old new ns (λ es. looks (map (form_at es) ns))

pub looks_more : {old mid new : List Task} (ys : List (Bor ℕ)) (y : Bor ℕ) → PushesLooks old mid (reverse (seen_by ys)) → new ≡ mid ++ task.Look y.now ∷ [] → PushesLooks old new (reverse (seen_by (ys ++ y ∷ [])))
looks_more {old = old} {new = new} ys y p e = subst (PushesLooks old new) (sym (seen_more ys y)) (pushes_more (task.Look y.now) p e)

pub looks_all : {old new : List Task} (ys : List (Bor ℕ)) (ns : List ℕ) → PushesLooks old new (reverse (seen_by ys)) → seen_by ys ≡ reverse ns → PushesLooks old new ns
looks_all {old = old} {new = new} ys ns p e = subst (PushesLooks old new) (ap reverse e ∙ reverse-reverse ns) p

-- these names are bound to their expressions
abbrev pub PushesBindings : List Task → List Task → List (ℕ × ℕ) → Type 0
PushesBindings old new ps = Pushes old new (numbers_of_pairs ps) (λ es. lets (map (pair_at es) ps))

pub bindings_more : {old mid between new : List Task} (ys : List (Bor (ℕ × ℕ))) (y : Bor (ℕ × ℕ)) → PushesBindings old mid (reverse (seen_by ys)) → between ≡ mid ++ task.Bind y.now.0 ∷ [] → new ≡ between ++ task.Look y.now.1 ∷ [] → PushesBindings old new (reverse (seen_by (ys ++ y ∷ [])))
bindings_more {old = old} {new = new} ys y p e f =
    subst (PushesBindings old new) (sym (seen_more ys y)) (pushes_same (pushes_more (task.Look y.now.1) (pushes_more (task.Bind y.now.0) p e) f) (λ bound b. (b.1.0, (b.0, b.1.1))) (λ es. refl))

pub bindings_all : {old new : List Task} (ys : List (Bor (ℕ × ℕ))) (ps : List (ℕ × ℕ)) → PushesBindings old new (reverse (seen_by ys)) → seen_by ys ≡ reverse ps → PushesBindings old new ps
bindings_all {old = old} {new = new} ys ps p e = subst (PushesBindings old new) (ap reverse e ∙ reverse-reverse ps) p

-- so many bindings end
abbrev pub PushesEnds : List Task → List Task → ℕ → Type 0
PushesEnds old new n = Pushes old new [] (λ es. replicate n (build Let))

pub ends_more : {old mid new : List Task} (n m : ℕ) → PushesEnds old mid n → new ≡ mid ++ task.Build Let ∷ [] → m ≡ n + 1 → PushesEnds old new m
ends_more {old = old} {new = new} n m p e f =
    let g : suc n ≡ m = omega arith in
    subst (PushesEnds old new) g (pushes_more (task.Build Let) p e)
