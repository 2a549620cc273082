-- How the compiler's loop goes on until a form is compiled.
use Rattle.std.proofs.Common.{◌≡◌, ℕ, ◌+◌, ◌<◌, List, [], ◌∷◌, ◌++◌, length, map, refl, sym, ◌∙◌, ap, subst, arith, append_assoc, append-nil, length-append}
use Rattle.std.proofs.lemmas.List.{length-map}
use Rattle.std.specs.declared.vec.Vec.{Vec}
use Rattle.std.specs.declared.alloc.Global.{Global}
use Rattle.clj_script.specs.declared.source.Entry.{Entry}
use Rattle.clj_script.specs.declared.task.Task.{Task}
use Rattle.clj_script.specs.declared.task.Task.TheVariants as task
use Rattle.clj_script.specs.declared.machine.Machine.{Machine}
use Rattle.clj_script.specs.Arena.{AllBelow}
use Rattle.clj_script.specs.Trees.{Expr}
use Rattle.clj_script.specs.Nodes.{at}
use Rattle.clj_script.specs.Entries.{IsLower, form_at}
use Rattle.clj_script.specs.Scopes.{Definitions}
use Rattle.clj_script.specs.Judgements.{Judged}
use Rattle.clj_script.specs.Machines.{Todo, look, Now, Done, asked, after, Enough, total, weight_of, todo_at, stacked, todos, task_numbers, AreWithin, HasMore, trees, now_of, IsSound, IsIdle, HasDone, HasJudged, judged_so}
use Rattle.clj_script.proofs.MeaningLemmas.{step_follows}
use Rattle.clj_script.proofs.EnoughLemmas.{step_enough, enough_at}
use Rattle.clj_script.proofs.WeightLemmas.{step_lighter, total-join}

-- the last task is the next to do
stacked-last : (es : List Entry) (above : List Todo) (ts : List Task) (t : Task) → stacked es above (ts ++ t ∷ []) ≡ todo_at es t ∷ stacked es above ts
stacked-last es above [] t = refl
stacked-last es above (x ∷ ts) t = stacked-last es (todo_at es x ∷ above) ts t

pub todos-last : (es : List Entry) (all ts : List Task) (t : Task) → all ≡ ts ++ t ∷ [] → todos es all ≡ todo_at es t ∷ todos es ts
todos-last es all ts t e = ap (todos es) e ∙ stacked-last es [] ts t

within-last : (bound : ℕ) (ts : List Task) (t : Task) → AreWithin bound (ts ++ t ∷ []) → AreWithin bound ts × AllBelow bound (task_numbers t)
within-last bound [] t h = (tt, h.0)
within-last bound (x ∷ ts) t h =
    let k : AreWithin bound ts × AllBelow bound (task_numbers t) = within-last bound ts t h.1 in
    ((h.0, k.0), k.1)

below-last : (bound : ℕ) (ns : List ℕ) (n : ℕ) → AllBelow bound (ns ++ n ∷ []) → AllBelow bound ns × (n < bound)
below-last bound [] n h = (tt, h.0)
below-last bound (k ∷ ns) n h =
    let b : AllBelow bound ns × (n < bound) = below-last bound ns n h.1 in
    ((h.0, b.0), b.1)

pub no_length : {X : Type 0} (xs : List X) → length xs ≡ 0 → xs ≡ []
no_length [] e = refl
no_length (x ∷ xs) e = absurd (omega arith)

more_twice : {X : Type 0} {xs ys zs : List X} → HasMore xs ys → HasMore ys zs → HasMore xs zs
more_twice {xs = xs} h k = record { more = h.more ++ k.more; grown = k.grown ∙ ap (λ us. us ++ k.more) h.grown ∙ append_assoc xs h.more k.more }

pub none_more : {X : Type 0} (xs : List X) → HasMore xs xs
none_more xs = record { more = []; grown = sym (append-nil xs) }

abbrev pub with_tasks : Machine → Vec Task Global → Machine
with_tasks m ts = record { nodes = m.nodes; bodies = m.bodies; locals = m.locals; least = m.least; values = m.values; tasks = ts }

pub sound_still : (m : Machine) (ts : Vec Task Global) → IsSound m → IsSound (with_tasks m ts)
sound_still m ts s = record { lower = s.lower; written = s.written; bodies = s.bodies; values = s.values }

-- While a form is compiled, what it comes to is what the tasks now come to.
pub record IsUnderWay (d : Definitions) (es : List Entry) (old : Machine) (fs : List Entry) (m : Machine) (form : ℕ) : Type 0 where
  pub forms : HasMore es fs
  pub lower : IsLower fs
  pub sound : IsSound m
  pub nodes : HasMore old.nodes.items m.nodes.items
  pub within : AreWithin (length fs) m.tasks.items
  pub enough : Enough (todos fs m.tasks.items) (length m.values.items)
  pub follows : (n : Now) → Done d (now_of m) (todos fs m.tasks.items) n → Done d (now_of old) (look (form_at es form) ∷ []) n

-- at first
pub begun : (d : Definitions) (es : List Entry) (m : Machine) (ts : Vec Task Global) (form : ℕ) → IsSound m → IsIdle m → IsLower es → form < length es → ts.items ≡ m.tasks.items ++ task.Look form ∷ [] → IsUnderWay d es m es (with_tasks m ts) form
begun d es m ts form s i l h e =
    let f : ts.items ≡ task.Look form ∷ [] = e ∙ ap (λ (us : List Task). us ++ task.Look form ∷ []) i.tasks in
    let g : todos es ts.items ≡ look (form_at es form) ∷ [] = ap (todos es) f in
    record {
      forms = none_more es;
      lower = l;
      sound = sound_still m ts s;
      nodes = none_more m.nodes.items;
      within = subst (λ (us : List Task). AreWithin (length es) us) (sym f) ((h, tt), tt);
      enough = subst (λ (us : List Todo). Enough us (length m.values.items)) (sym g) tt;
      follows = λ n. λ k. subst (λ (us : List Todo). Done d (now_of m) us n) g k;
    }

module _ (d : Definitions) (es : List Entry) (old : Machine) (fs : List Entry) (m : Machine) (form : ℕ) (h : IsUnderWay d es old fs m form) where
  module _ (ts : Vec Task Global) (t : Task) (e : m.tasks.items ≡ ts.items ++ t ∷ []) where
    pub next_within : AreWithin (length fs) ts.items × AllBelow (length fs) (task_numbers t)
    next_within = within-last (length fs) ts.items t (subst (λ (us : List Task). AreWithin (length fs) us) e h.within)

    pub next_enough : Enough (todo_at fs t ∷ todos fs ts.items) (length m.values.items)
    next_enough = subst (λ (us : List Todo). Enough us (length m.values.items)) (todos-last fs m.tasks.items ts.items t e) h.enough

    module _ (gs : List Entry) (new : Machine) (done : HasDone d fs (with_tasks m ts) gs new (todo_at fs t)) where
      -- and then
      pub gone_on : IsUnderWay d es old gs new form
      gone_on =
          let now : Now = now_of m in
          let values : length (map (at (trees m)) m.values.items) ≡ length m.values.items = length-map m.values.items (at (trees m)) in
          let values' : length (map (at (trees new)) new.values.items) ≡ length new.values.items = length-map new.values.items (at (trees new)) in
          let enough : Enough (asked d now (todo_at fs t) ++ todos fs ts.items) (length (after d now (todo_at fs t)).values) = step_enough d now (todo_at fs t) (todos fs ts.items) (enough_at (todo_at fs t ∷ todos fs ts.items) _ _ (sym values) next_enough) in
          record {
            forms = more_twice h.forms done.forms;
            lower = done.lower;
            sound = done.sound;
            nodes = more_twice h.nodes done.nodes;
            within = done.within;
            enough = subst (λ (us : List Todo). Enough us (length new.values.items)) (sym done.stand) (enough_at (asked d now (todo_at fs t) ++ todos fs ts.items) _ _ (ap (λ (k : Now). length k.values) (sym done.now) ∙ values') enough);
            follows = λ n. λ k.
                let k' : Done d (after d now (todo_at fs t)) (todos gs new.tasks.items) n = subst (λ (j : Now). Done d j (todos gs new.tasks.items) n) done.now k in
                let l : Done d (after d now (todo_at fs t)) (asked d now (todo_at fs t) ++ todos fs ts.items) n = subst (λ (us : List Todo). Done d (after d now (todo_at fs t)) us n) done.stand k' in
                h.follows n (subst (λ (us : List Todo). Done d now us n) (sym (todos-last fs m.tasks.items ts.items t e)) (step_follows d now (todo_at fs t) (todos fs ts.items) n l));
          }

      -- with less to do
      pub less_to_do : total (todos gs new.tasks.items) < total (todos fs m.tasks.items)
      less_to_do =
          let now : Now = now_of m in
          let f : total (todos gs new.tasks.items) ≡ total (asked d now (todo_at fs t) ++ todos fs ts.items) = ap total done.stand in
          let g : total (todos fs m.tasks.items) ≡ weight_of (todo_at fs t) + total (todos fs ts.items) = ap total (todos-last fs m.tasks.items ts.items t e) in
          omega (arith, f, g, total-join (asked d now (todo_at fs t)) (todos fs ts.items), step_lighter d now (todo_at fs t))

  -- at last
  module _ (idle : IsIdle old) (none : m.tasks.items ≡ []) where
    ended : Done d (now_of old) (look (form_at es form) ∷ []) (now_of m)
    ended = h.follows (now_of m) (subst (λ (us : List Todo). Done d (now_of m) us (now_of m)) (ap (todos fs) (sym none)) refl)

    pub one_value : length m.values.items ≡ 1
    one_value =
        let e : now_of m ≡ judged_so ended.0 ended.1 ended.2 (now_of old) = sym ended.4 in
        let f : map (at (trees m)) m.values.items ≡ map (at (trees old)) old.values.items ++ ended.0 ∷ [] = ap (λ (k : Now). k.values) e in
        let g : map (at (trees old)) old.values.items ≡ [] = ap (map (at (trees old))) idle.values in
        omega (arith, ap length f, ap length g, length-map m.values.items (at (trees m)), length-append (map (at (trees old)) old.values.items) (ended.0 ∷ []))

    module _ (vs : Vec ℕ Global) (ts : Vec Task Global) (number : ℕ) (e : m.values.items ≡ vs.items ++ number ∷ []) (f : ts.items ≡ []) where
      none_left : vs.items ≡ []
      none_left = no_length vs.items (omega (arith, one_value, ap length e, length-append vs.items (number ∷ [])))

      below : AllBelow (length m.nodes.items) vs.items × (number < length m.nodes.items)
      below = below-last (length m.nodes.items) vs.items number (subst (λ (ns : List ℕ). AllBelow (length m.nodes.items) ns) e h.sound.values)

      value_is : ended.0 ≡ at (trees m) number
      value_is =
          let k : map (at (trees old)) old.values.items ++ ended.0 ∷ [] ≡ map (at (trees m)) m.values.items = ap (λ (n : Now). n.values) ended.4 in
          let o : map (at (trees old)) old.values.items ≡ [] = ap (map (at (trees old))) idle.values in
          let v : map (at (trees m)) m.values.items ≡ map (at (trees m)) ([] ++ number ∷ []) = ap (map (at (trees m))) (e ∙ ap (λ (ns : List ℕ). ns ++ number ∷ []) none_left) in
          let w : ended.0 ∷ [] ≡ at (trees m) number ∷ [] = sym (ap (λ (us : List Expr). us ++ ended.0 ∷ []) o) ∙ k ∙ v in
          (cc)

      pub compiled : HasJudged d es old fs (record { nodes = m.nodes; bodies = m.bodies; locals = m.locals; least = m.least; values = vs; tasks = ts }) (form_at es form) number
      compiled = record {
        forms = h.forms;
        lower = h.lower;
        sound = record { lower = h.sound.lower; written = h.sound.written; bodies = h.sound.bodies; values = below.0 };
        values = none_left ∙ sym idle.values;
        tasks = f ∙ sym idle.tasks;
        nodes = h.nodes;
        below = below.1;
        locals = ap (λ (n : Now). n.locals) (sym ended.4);
        refusals = ended.2;
        least = ap (λ (n : Now). n.least) (sym ended.4);
        judged =
            let j : Judged d old.locals (map (at (trees old)) old.bodies.items) (form_at es form) (at (trees m) number) ended.1 ended.2 = subst (λ (t : Expr). Judged d old.locals (map (at (trees old)) old.bodies.items) (form_at es form) t ended.1 ended.2) value_is ended.3 in
            subst (λ (bs : List Expr). Judged d old.locals (map (at (trees old)) old.bodies.items) (form_at es form) (at (trees m) number) bs ended.2) (ap (λ (n : Now). n.bodies) ended.4) j;
      }
