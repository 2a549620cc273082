-- Expressions that are put, and built of the last values.
use Rattle.std.proofs.Common.{◌≡◌, Bool, true, false, ◌&&◌, ℕ, ◌+◌, ◌-◌, List, [], ◌∷◌, ◌++◌, length, map, Option, refl, sym, ◌∙◌, ap, subst, arith, suc, append_assoc, append-nil, length-append}
use Rattle.clj_script.specs.declared.refusal.ScriptRefusal.{ScriptRefusal}
use Rattle.clj_script.specs.declared.expr.Expr.{Expr as Node}
use Rattle.clj_script.specs.declared.machine.Machine.{Machine}
use Rattle.clj_script.specs.declared.task.Build.{Build}
use Rattle.clj_script.specs.declared.task.Build.TheVariants.{Vector, Call, Let, If, And, Or, LazySeq, Nil}
use Rattle.std.proofs.lemmas.List.{length-map, map-append}
use Rattle.std.proofs.Math.Seq.{take-append_seam, drop-append_seam}
use Rattle.seq_values.specs.declared.value.Value as value
use Rattle.clj_script.specs.Literals.{literal_of}
use Rattle.clj_script.specs.Locals.{all_but_last}
use Rattle.clj_script.specs.declared.expr.Expr.TheVariants as node
use Rattle.clj_script.specs.Trees.{Expr}
use Rattle.clj_script.specs.Trees as tree
use Rattle.clj_script.specs.Arena.{AllBelow, LowerFrom, trees_behind}
use Rattle.clj_script.specs.Nodes.{at, tree_over, trees_of, parts_of, is_writable, are_writable}
use Rattle.clj_script.specs.Machines.{Now, IsSound, HasGiven, HasBuilt, Takes, trees, made, taking, front, back, locals_behind, bodies_behind}
use Rattle.clj_script.proofs.ArenaLemmas.{at-last, all_at-kept, below_more, below_both, trees_behind-append, trees_behind-join, trees_keep, lower_more, Keeps}
use Rattle.clj_script.proofs.LiteralLemmas.{nil_is}
use Rattle.clj_script.proofs.SeenLemmas.{nodes-length}
use Rattle.clj_script.proofs.EntryLemmas.{map-one}
use Rattle.clj_script.proofs.TaskLemmas.{below_parts}

-- expressions that come later leave the trees so far
pub trees_stay : (ns more : List Node) → Keeps tree_over parts_of (trees_of ns) (trees_of (ns ++ more))
unfolding trees_of
trees_stay ns more =
    let k : Keeps tree_over parts_of (trees_behind tree_over [] ns) (trees_behind tree_over (trees_behind tree_over [] ns) more) = trees_keep tree_over parts_of (trees_behind tree_over [] ns) more in
    subst (λ (us : List Expr). Keeps tree_over parts_of (trees_behind tree_over [] ns) us) (sym (trees_behind-join tree_over parts_of [] ns more)) k

pub all_trees_stay : (ns more : List Node) (ks : List ℕ) → AllBelow (length ns) ks → map (at (trees_of (ns ++ more))) ks ≡ map (at (trees_of ns)) ks
all_trees_stay ns more ks b =
    let k : Keeps tree_over parts_of (trees_of ns) (trees_of (ns ++ more)) = trees_stay ns more in
    ap (λ (us : List Expr). map (at us) ks) k.kept ∙ all_at-kept (tree.literal tree.nil_literal) (trees_of ns) k.more ks (below_more (length ns) (length (trees_of ns)) ks (omega (arith, nodes-length ns)) b)

-- the tree of the last expression
last_tree : (ns : List Node) (e : Node) (n : ℕ) → n ≡ length ns → at (trees_of (ns ++ e ∷ [])) n ≡ tree_over (trees_of ns) e
unfolding trees_of
last_tree ns e n f =
    let h : trees_of (ns ++ e ∷ []) ≡ trees_of ns ++ tree_over (trees_of ns) e ∷ [] = trees_behind-append tree_over parts_of [] ns e in
    rw h (at-last (tree.literal tree.nil_literal) (trees_of ns) (tree_over (trees_of ns) e) n (omega (arith, f, nodes-length ns)))

abbrev pub now_with : List (List ℕ) → List Expr → List Expr → Option ScriptRefusal → Now
now_with ls bs vs r = record { locals = ls; bodies = bs; values = vs; least = r }

pub now_same : {ls ls' : List (List ℕ)} {bs bs' vs vs' : List Expr} {r r' : Option ScriptRefusal} → ls ≡ ls' → bs ≡ bs' → vs ≡ vs' → r ≡ r' → now_with ls bs vs r ≡ now_with ls' bs' vs' r'
now_same e f g h = (cc)

written_both : (es : List Node) (e : Node) → are_writable es ≡ true → is_writable e ≡ true → are_writable (es ++ e ∷ []) ≡ true
written_both [] e h k = and_true (is_writable e) k where
  and_true : (b : Bool) → b ≡ true → (b && true) ≡ true
  and_true true g = refl
  and_true false g = absurd cc
written_both (x ∷ es) e h k = both_true (is_writable x) h (λ g. written_both es e g k) where
  both_true : (b : Bool) → (b && are_writable es) ≡ true → (are_writable es ≡ true → are_writable (es ++ e ∷ []) ≡ true) → (b && are_writable (es ++ e ∷ [])) ≡ true
  both_true true g f = f g
  both_true false g f = absurd cc

-- one more expression is put and becomes the last value
pub gave : (old new : Machine) (e : Node) (n : ℕ) → IsSound old → AllBelow (length old.nodes.items) (parts_of e) → is_writable e ≡ true → n ≡ length old.nodes.items → new.nodes.items ≡ old.nodes.items ++ e ∷ [] → new.values.items ≡ old.values.items ++ n ∷ [] → new.bodies ≡ old.bodies → new.locals ≡ old.locals → new.least ≡ old.least → new.tasks ≡ old.tasks → HasGiven old new (tree_over (trees old) e)
gave old new e n s b w f nodes values bodies locals least tasks =
    let len : length new.nodes.items ≡ length old.nodes.items + 1 = ap length nodes ∙ length-append old.nodes.items (e ∷ []) in
    let stay : (ks : List ℕ) → AllBelow (length old.nodes.items) ks → map (at (trees new)) ks ≡ map (at (trees old)) ks =
    λ ks h. ap (λ (ns : List Node). map (at (trees_of ns)) ks) nodes ∙ all_trees_stay old.nodes.items (e ∷ []) ks h in
    let last : at (trees new) n ≡ tree_over (trees old) e = ap (λ (ns : List Node). at (trees_of ns) n) nodes ∙ last_tree old.nodes.items e n f in
    record {
      sound = record {
        lower = subst (λ (ns : List Node). LowerFrom parts_of 0 ns) (sym nodes) (lower_more parts_of 0 old.nodes.items e s.lower (subst (λ (m : ℕ). AllBelow m (parts_of e)) (omega arith) b));
        written = ap are_writable nodes ∙ written_both old.nodes.items e s.written w;
        bodies = subst (λ (ks : List ℕ). AllBelow (length new.nodes.items) ks) (sym (ap (λ v. v.items) bodies)) (below_more (length old.nodes.items) (length new.nodes.items) old.bodies.items (omega arith) s.bodies);
        values = subst (λ (ks : List ℕ). AllBelow (length new.nodes.items) ks) (sym values) (below_both (length new.nodes.items) old.values.items n (below_more (length old.nodes.items) (length new.nodes.items) old.values.items (omega arith) s.values) (omega arith));
      };
      nodes = record { more = e ∷ []; grown = nodes };
      tasks = tasks;
      now = now_same locals
          (ap (λ v. map (at (trees new)) v.items) bodies ∙ stay old.bodies.items s.bodies)
          (ap (map (at (trees new))) values ∙ map-one (at (trees new)) old.values.items n ∙ ap (λ (us : List Expr). us ++ at (trees new) n ∷ []) (stay old.values.items s.values) ∙ ap (λ (u : Expr). map (at (trees old)) old.values.items ++ u ∷ []) last)
          (ap (λ l. l.found) least);
    }

below_front : (m : ℕ) (ns ks : List ℕ) → AllBelow m (ns ++ ks) → AllBelow m ns
below_front m ns ks b = (below_parts m ns ks b).0

below_back : (m : ℕ) (ns ks : List ℕ) → AllBelow m (ns ++ ks) → AllBelow m ks
below_back m ns ks b = (below_parts m ns ks b).1

-- the machine is sound without the values that were taken, and they are numbers of its expressions
pub takes_sound : {old new : Machine} {taken : List ℕ} → IsSound old → Takes old new taken → IsSound new
takes_sound {old = old} {new = new} {taken = taken} s t =
    let e : new.nodes ≡ old.nodes = t.nodes in
    let f : new.bodies ≡ old.bodies = t.bodies in
    record {
      lower = rw e s.lower;
      written = rw e s.written;
      bodies = rw (e, f) s.bodies;
      values = rw e (below_front (length old.nodes.items) new.values.items taken (rw t.values at s.values));
    }

pub takes_below : {old new : Machine} {taken : List ℕ} → IsSound old → Takes old new taken → AllBelow (length new.nodes.items) taken
takes_below {old = old} {new = new} {taken = taken} s t =
    let e : new.nodes ≡ old.nodes = t.nodes in
    rw e (below_back (length old.nodes.items) new.values.items taken (rw t.values at s.values))

-- values are taken before those that were taken first
pub takes_both : {old mid new : Machine} {ns ms : List ℕ} → Takes old mid ns → Takes mid new ms → Takes old new (ms ++ ns)
takes_both {new = new} {ns = ns} {ms = ms} t u = record {
  values = t.values ∙ ap (λ vs. vs ++ ns) u.values ∙ append_assoc new.values.items ms ns;
  nodes = u.nodes ∙ t.nodes;
  bodies = u.bodies ∙ t.bodies;
  locals = u.locals ∙ t.locals;
  least = u.least ∙ t.least;
  tasks = u.tasks ∙ t.tasks;
}

front_joined : {X : Type 0} (n : ℕ) (xs ys : List X) → length ys ≡ n → front n (xs ++ ys) ≡ xs
front_joined n xs ys e =
    let f : length (xs ++ ys) - n ≡ length xs = omega (arith, e, length-append xs ys) in
    rw f (take-append_seam xs ys)

back_joined : {X : Type 0} (n : ℕ) (xs ys : List X) → length ys ≡ n → back n (xs ++ ys) ≡ ys
back_joined n xs ys e =
    let f : length (xs ++ ys) - n ≡ length xs = omega (arith, e, length-append xs ys) in
    rw f (drop-append_seam xs ys)

-- an expression is put for the values that were taken, once a binding has ended or a body is kept
pub built_of : (old mid put new : Machine) (k : Build) (taken : List ℕ) (e : Expr) → Takes old mid taken → length taken ≡ taking k → put.nodes ≡ mid.nodes → put.tasks ≡ mid.tasks → put.values ≡ mid.values → put.least ≡ mid.least → put.locals ≡ locals_behind k old.locals → map (at (trees old)) put.bodies.items ≡ bodies_behind k (map (at (trees old)) taken) (map (at (trees old)) old.bodies.items) → e ≡ made k (length old.bodies.items) (map (at (trees old)) taken) → HasGiven put new e → HasBuilt old new k
built_of old mid put new k taken e t len nodes tasks values least locals bodies is g =
    let f : ℕ → Expr = at (trees old) in
    let split : map f old.values.items ≡ map f mid.values.items ++ map f taken = ap (map f) t.values ∙ map-append f mid.values.items taken in
    let size : length (map f taken) ≡ taking k = length-map taken f ∙ len in
    let fronts : front (taking k) (map f old.values.items) ≡ map f mid.values.items = ap (front (taking k)) split ∙ front_joined (taking k) (map f mid.values.items) (map f taken) size in
    let backs : back (taking k) (map f old.values.items) ≡ map f taken = ap (back (taking k)) split ∙ back_joined (taking k) (map f mid.values.items) (map f taken) size in
    let same_nodes : put.nodes ≡ old.nodes = nodes ∙ t.nodes in
    let same_trees : trees put ≡ trees old = ap (λ ns. trees_of ns.items) same_nodes in
    record {
      sound = g.sound;
      nodes = record { more = g.nodes.more; grown = g.nodes.grown ∙ ap (λ ns. ns.items ++ g.nodes.more) same_nodes };
      tasks = g.tasks ∙ tasks ∙ t.tasks;
      now = g.now ∙ now_same locals
          (ap (λ ts. map (at ts) put.bodies.items) same_trees ∙ bodies ∙ ap (λ es. bodies_behind k es (map f old.bodies.items)) (sym backs))
          (ap (λ ts. map (at ts) put.values.items ++ e ∷ []) same_trees ∙ ap (λ vs. map f vs.items ++ e ∷ []) values ∙ ap (λ es. es ++ e ∷ []) (sym fronts) ∙ ap (λ x. front (taking k) (map f old.values.items) ++ x ∷ []) (is ∙ ap (λ n. made k n (map f taken)) (sym (length-map old.bodies.items f)) ∙ ap (made k (length (map f old.bodies.items))) (sym backs)))
          (ap (λ l. l.found) (least ∙ t.least));
    }

-- the same where nothing but values is taken
built_same : (old mid new : Machine) (k : Build) (taken : List ℕ) (e : Node) → Takes old mid taken → length taken ≡ taking k → ((ls : List (List ℕ)) → locals_behind k ls ≡ ls) → ((es bs : List Expr) → bodies_behind k es bs ≡ bs) → ((ts : List Expr) (count : ℕ) → tree_over ts e ≡ made k count (map (at ts) taken)) → HasGiven mid new (tree_over (trees mid) e) → HasBuilt old new k
built_same old mid new k taken e t len locals bodies is g =
    let same_trees : trees mid ≡ trees old = ap (λ ns. trees_of ns.items) t.nodes in
    built_of old mid mid new k taken (tree_over (trees mid) e) t len refl refl refl refl (t.locals ∙ sym (locals old.locals))
    (ap (λ bs. map (at (trees old)) bs.items) t.bodies ∙ sym (bodies (map (at (trees old)) taken) (map (at (trees old)) old.bodies.items)))
    (ap (λ ts. tree_over ts e) same_trees ∙ is (trees old) (length old.bodies.items)) g

module _ {old mid new : Machine} where
  pub built_vector : (taken items : List ℕ) (n : ℕ) → Takes old mid taken → length taken ≡ n → items ≡ taken → HasGiven mid new (tree_over (trees mid) (node.Vector items)) → HasBuilt old new (Vector n)
  unfolding tree_over
  built_vector taken items n t len is g = built_same old mid new (Vector n) taken (node.Vector items) t len (λ ls. refl) (λ es bs. refl) (λ ts count. ap (λ ns. tree.vector_of (tree.exprs (map (at ts) ns))) is) g

  pub built_and : (taken items : List ℕ) (n : ℕ) → Takes old mid taken → length taken ≡ n → items ≡ taken → HasGiven mid new (tree_over (trees mid) (node.And items)) → HasBuilt old new (And n)
  unfolding tree_over
  built_and taken items n t len is g = built_same old mid new (And n) taken (node.And items) t len (λ ls. refl) (λ es bs. refl) (λ ts count. ap (λ ns. tree.and_of (tree.exprs (map (at ts) ns))) is) g

  pub built_or : (taken items : List ℕ) (n : ℕ) → Takes old mid taken → length taken ≡ n → items ≡ taken → HasGiven mid new (tree_over (trees mid) (node.Or items)) → HasBuilt old new (Or n)
  unfolding tree_over
  built_or taken items n t len is g = built_same old mid new (Or n) taken (node.Or items) t len (λ ls. refl) (λ es bs. refl) (λ ts count. ap (λ ns. tree.or_of (tree.exprs (map (at ts) ns))) is) g

  pub built_call : (head : ℕ) (taken items : List ℕ) (n : ℕ) → Takes old mid (head ∷ taken) → length taken ≡ n → items ≡ taken → HasGiven mid new (tree_over (trees mid) (node.Call head items)) → HasBuilt old new (Call n)
  unfolding tree_over
  built_call head taken items n t len is g = built_same old mid new (Call n) (head ∷ taken) (node.Call head items) t (ap suc len) (λ ls. refl) (λ es bs. refl) (λ ts count. ap (λ ns. tree.call_of (at ts head) (tree.exprs (map (at ts) ns))) is) g

  pub built_if : (test a z : ℕ) → Takes old mid (test ∷ a ∷ z ∷ []) → HasGiven mid new (tree_over (trees mid) (node.If test a z)) → HasBuilt old new If
  unfolding tree_over
  built_if test a z t g = built_same old mid new If (test ∷ a ∷ z ∷ []) (node.If test a z) t refl (λ ls. refl) (λ es bs. refl) (λ ts count. refl) g

  -- a binding has ended
  pub built_let : (put : Machine) (value body : ℕ) → Takes old mid (value ∷ body ∷ []) → put.nodes ≡ mid.nodes → put.tasks ≡ mid.tasks → put.values ≡ mid.values → put.least ≡ mid.least → put.bodies ≡ mid.bodies → put.locals ≡ all_but_last mid.locals → HasGiven put new (tree_over (trees put) (node.Let value body)) → HasBuilt old new Let
  unfolding tree_over
  built_let put value body t nodes tasks values least bodies locals g =
      let same_trees : trees put ≡ trees old = ap (λ ns. trees_of ns.items) (nodes ∙ t.nodes) in
      built_of old mid put new Let (value ∷ body ∷ []) (tree_over (trees put) (node.Let value body)) t refl nodes tasks values least (locals ∙ ap all_but_last t.locals)
      (ap (λ bs. map (at (trees old)) bs.items) (bodies ∙ t.bodies))
      (ap (λ ts. tree_over ts (node.Let value body)) same_trees) g

  -- the value is one more body
  pub built_lazy_seq : (put : Machine) (expr body : ℕ) → Takes old mid (expr ∷ []) → put.nodes ≡ mid.nodes → put.tasks ≡ mid.tasks → put.values ≡ mid.values → put.least ≡ mid.least → put.locals ≡ mid.locals → put.bodies.items ≡ mid.bodies.items ++ expr ∷ [] → body ≡ length mid.bodies.items → HasGiven put new (tree_over (trees put) (node.LazySeq body)) → HasBuilt old new LazySeq
  unfolding tree_over
  built_lazy_seq put expr body t nodes tasks values least locals bodies number g =
      built_of old mid put new LazySeq (expr ∷ []) (tree.lazy_seq body) t refl nodes tasks values least (locals ∙ t.locals)
      (ap (map (at (trees old))) (bodies ∙ ap (λ bs. bs.items ++ expr ∷ []) t.bodies) ∙ map-one (at (trees old)) old.bodies.items expr)
      (ap tree.lazy_seq (number ∙ ap (λ bs. length bs.items) t.bodies)) g

-- the literal nil is built of no value
pub built_nil : (old new : Machine) → HasGiven old new (tree_over (trees old) (node.Literal value.Nil)) → HasBuilt old new Nil
unfolding tree_over
built_nil old new g =
    built_of old old old new Nil [] (tree.literal (literal_of value.Nil)) (record { values = sym (append-nil old.values.items); nodes = refl; bodies = refl; locals = refl; least = refl; tasks = refl }) refl refl refl refl refl refl refl (ap tree.literal nil_is.0) g
