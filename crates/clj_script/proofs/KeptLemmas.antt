-- What the forms so far have given stays as forms and expressions are added.
use Rattle.std.proofs.Common.{◌≡◌, ℕ, ◌<◌, ◌≤◌, List, [], ◌∷◌, ◌++◌, length, map, refl, sym, ◌∙◌, ap, subst, arith, length-append, append_assoc, append-nil}
use Rattle.std.specs.declared.vec.Vec.{Vec}
use Rattle.std.specs.declared.alloc.Global.{Global}
use Rattle.clj_script.specs.declared.expr.Expr.{Expr as Node}
use Rattle.clj_script.specs.declared.program.Body.{Body}
use Rattle.clj_script.specs.declared.program.Top.{Top}
use Rattle.clj_script.specs.declared.program.Top.TheVariants.{Def, Defn, Prn, Ledger}
use Rattle.clj_script.specs.declared.source.Entry.{Entry}
use Rattle.clj_script.specs.declared.machine.Machine.{Machine}
use Rattle.clj_script.specs.declared.top.Tops.{Tops}
use Rattle.clj_script.specs.Arena.{AllBelow, LowerFrom}
use Rattle.clj_script.specs.Entries.{IsLower, form_at}
use Rattle.clj_script.specs.Machines.{HasMore, IsSound, trees}
use Rattle.clj_script.specs.Nodes.{at, tree_over, trees_of, parts_of, are_writable}
use Rattle.clj_script.specs.Scripts.{SoFar, with_bodies}
use Rattle.clj_script.specs.Seen.{top_over, body_over}
use Rattle.clj_script.specs.Sources.{Source}
use Rattle.clj_script.specs.Tops.{so_far, lazy_bodies, IsWhole, KeepsGiven, KeepsTrees, HasCompiled}
use Rattle.clj_script.specs.Numbered.{numbers_of_bodies, AreBodiesBelow, number_of_top, AreTopsBelow}
use Rattle.clj_script.specs.Scopes.{Definitions}
use Rattle.clj_script.specs.Trees.{Expr, literal, nil_literal}
use Rattle.clj_script.specs.Trees as tree
use Rattle.clj_script.proofs.ArenaLemmas.{Keeps, at-kept, below_more}
use Rattle.clj_script.proofs.BuildLemmas.{trees_stay}
use Rattle.clj_script.proofs.SeenLemmas.{nodes-length}
use Rattle.clj_script.proofs.EntryLemmas.{form_at-kept}

pub more-length : {X : Type 0} {old new : List X} → HasMore old new → length old ≤ length new
more-length {old = old} m = omega (arith, ap length m.grown, length-append old m.more)

pub more_same : {X : Type 0} {old new : List X} → new ≡ old → HasMore old new
more_same {old = old} e = record { more = []; grown = e ∙ sym (append-nil old) }

pub more_both : {X : Type 0} {old mid new : List X} → HasMore old mid → HasMore mid new → HasMore old new
more_both {old = old} m n = record { more = m.more ++ n.more; grown = n.grown ∙ ap (λ xs. xs ++ n.more) m.grown ∙ append_assoc old m.more n.more }

pub form_stays : (old new : List Entry) (n : ℕ) → HasMore old new → n < length old → form_at new n ≡ form_at old n
form_stays old new n m h = ap (λ (es : List Entry). form_at es n) m.grown ∙ form_at-kept old m.more n h

pub tree_stays : (old new : List Node) (n : ℕ) → HasMore old new → n < length old → at (trees_of new) n ≡ at (trees_of old) n
tree_stays old new n m h =
    let k : Keeps tree_over parts_of (trees_of old) (trees_of (old ++ m.more)) = trees_stay old m.more in
    ap (λ (es : List Node). at (trees_of es) n) m.grown ∙ ap (λ (us : List Expr). at us n) k.kept ∙ at-kept (literal nil_literal) (trees_of old) k.more n (omega (arith, nodes-length old))

pub bodies_stay : (old new : List Node) (bs : List Body) → HasMore old new → AllBelow (length old) (numbers_of_bodies bs) → map (body_over (trees_of new)) bs ≡ map (body_over (trees_of old)) bs
bodies_stay old new [] m b = refl
bodies_stay old new (x ∷ bs) m b =
    let e : at (trees_of new) x.expr ≡ at (trees_of old) x.expr = tree_stays old new x.expr m b.0 in
    let f : map (body_over (trees_of new)) bs ≡ map (body_over (trees_of old)) bs = bodies_stay old new bs m b.1 in
    (cc)

pub functions_stay : (old new : List Node) (fs : List (Vec Body Global)) → HasMore old new → AreBodiesBelow (length old) (λ bodies. bodies.items) fs → map (λ (bodies : Vec Body Global). map (body_over (trees_of new)) bodies.items) fs ≡ map (λ (bodies : Vec Body Global). map (body_over (trees_of old)) bodies.items) fs
functions_stay old new [] m b = refl
functions_stay old new (x ∷ fs) m b =
    let e : map (body_over (trees_of new)) x.items ≡ map (body_over (trees_of old)) x.items = bodies_stay old new x.items m b.0 in
    let f : map (λ (bodies : Vec Body Global). map (body_over (trees_of new)) bodies.items) fs ≡ map (λ (bodies : Vec Body Global). map (body_over (trees_of old)) bodies.items) fs = functions_stay old new fs m b.1 in
    ap (λ y. y ∷ map (λ (bodies : Vec Body Global). map (body_over (trees_of new)) bodies.items) fs) e ∙ ap (λ ys. map (body_over (trees_of old)) x.items ∷ ys) f

top_stays : (old new : List Node) (t : Top) → HasMore old new → AllBelow (length old) (number_of_top t) → top_over (trees_of new) t ≡ top_over (trees_of old) t
top_stays old new (Def name expr) m b = let e : at (trees_of new) expr ≡ at (trees_of old) expr = tree_stays old new expr m b.0 in (cc)
top_stays old new Defn m b = refl
top_stays old new (Prn expr) m b = let e : at (trees_of new) expr ≡ at (trees_of old) expr = tree_stays old new expr m b.0 in (cc)
top_stays old new Ledger m b = refl

pub tops_stay : (old new : List Node) (ts : List Top) → HasMore old new → AreTopsBelow (length old) ts → map (top_over (trees_of new)) ts ≡ map (top_over (trees_of old)) ts
tops_stay old new [] m b = refl
tops_stay old new (t ∷ ts) m b =
    let e : top_over (trees_of new) t ≡ top_over (trees_of old) t = top_stays old new t m b.0 in
    let f : map (top_over (trees_of new)) ts ≡ map (top_over (trees_of old)) ts = tops_stay old new ts m b.1 in
    ap (λ y. y ∷ map (top_over (trees_of new)) ts) e ∙ ap (λ ys. top_over (trees_of old) t ∷ ys) f

pub functions_below : (m n : ℕ) (fs : List (Vec Body Global)) → m ≤ n → AreBodiesBelow m (λ bodies. bodies.items) fs → AreBodiesBelow n (λ bodies. bodies.items) fs
functions_below m n [] h b = tt
functions_below m n (x ∷ fs) h b = (below_more m n (numbers_of_bodies x.items) h b.0, functions_below m n fs h b.1)

pub functions_below_both : (n : ℕ) (fs : List (Vec Body Global)) (x : Vec Body Global) → AreBodiesBelow n (λ bodies. bodies.items) fs → AllBelow n (numbers_of_bodies x.items) → AreBodiesBelow n (λ bodies. bodies.items) (fs ++ x ∷ [])
functions_below_both n [] x b h = (h, tt)
functions_below_both n (y ∷ fs) x b h = (b.0, functions_below_both n fs x b.1 h)

pub tops_below : (m n : ℕ) (ts : List Top) → m ≤ n → AreTopsBelow m ts → AreTopsBelow n ts
tops_below m n [] h b = tt
tops_below m n (t ∷ ts) h b = (below_more m n (number_of_top t) h b.0, tops_below m n ts h b.1)

pub tops_below_both : (n : ℕ) (ts : List Top) (t : Top) → AreTopsBelow n ts → AllBelow n (number_of_top t) → AreTopsBelow n (ts ++ t ∷ [])
tops_below_both n [] t b h = (h, tt)
tops_below_both n (u ∷ ts) t b h = (b.0, tops_below_both n ts t b.1 h)

abbrev given_of : List (List (ℕ × Expr)) → List Expr → Definitions → List tree.Top → SoFar
given_of f b d t = record { functions = f; bodies = b; definitions = d; tops = t }

same_parts : {f f' : List (List (ℕ × Expr))} {b b' : List Expr} {d d' : Definitions} {t t' : List tree.Top} → f ≡ f' → b ≡ b' → d ≡ d' → t ≡ t' → given_of f b d t ≡ given_of f' b' d' t'
same_parts {f = f} {f' = f'} {b = b} {b' = b'} {d = d} {d' = d'} {t = t} {t' = t'} p q r s =
    ap (λ x. given_of x b d t) p ∙ ap (λ x. given_of f' x d t) q ∙ ap (λ x. given_of f' b' x t) r ∙ ap (λ x. given_of f' b' d' x) s

-- what is given is the same for equal parts
pub so_far_of : {x y : SoFar} → x.functions ≡ y.functions → x.bodies ≡ y.bodies → x.definitions ≡ y.definitions → x.tops ≡ y.tops → x ≡ y
so_far_of {x = x} {y = y} e f g h = same_parts e f g h

-- only bodies of `lazy-seq`s are new
pub given_grown : (ls : List (List ℕ)) (old new : Tops) → IsWhole ls old → KeepsGiven old new → HasMore old.machine.nodes.items new.machine.nodes.items → so_far new ≡ with_bodies (lazy_bodies new.machine) (so_far old)
given_grown ls old new w k m = so_far_of
    (ap (map (λ (bodies : Vec Body Global). map (body_over (trees new.machine)) bodies.items)) k.functions ∙ functions_stay old.machine.nodes.items new.machine.nodes.items old.functions.items m w.functions)
    refl
    k.definitions
    (ap (map (top_over (trees new.machine))) k.tops ∙ tops_stay old.machine.nodes.items new.machine.nodes.items old.tops.items m w.tops)

pub lazy_same : (old new : Tops) → KeepsTrees old new → lazy_bodies new.machine ≡ lazy_bodies old.machine
lazy_same old new t = ap (λ (ns : List ℕ). map (at (trees new.machine)) ns) t.bodies ∙ ap (λ (es : List Node). map (at (trees_of es)) old.machine.bodies.items) t.nodes

sound_same : (old new : Machine) → IsSound old → new.nodes.items ≡ old.nodes.items → new.bodies.items ≡ old.bodies.items → new.values.items ≡ old.values.items → IsSound new
sound_same old new s e f g = record {
  lower = subst (λ (es : List Node). LowerFrom parts_of 0 es) (sym e) s.lower;
  written = ap are_writable e ∙ s.written;
  bodies = subst (λ (es : List Node). AllBelow (length es) new.bodies.items) (sym e) (subst (λ (ns : List ℕ). AllBelow (length old.nodes.items) ns) (sym f) s.bodies);
  values = subst (λ (es : List Node). AllBelow (length es) new.values.items) (sym e) (subst (λ (ns : List ℕ). AllBelow (length old.nodes.items) ns) (sym g) s.values);
}

-- what keeps the trees keeps all whole, with the locals that are in scope then
pub whole_same : (ls ms : List (List ℕ)) (old new : Tops) → IsWhole ls old → KeepsTrees old new → new.functions.items ≡ old.functions.items → new.tops.items ≡ old.tops.items → new.machine.locals ≡ ms → IsWhole ms new
whole_same ls ms old new w t f g e = record {
  sound = sound_same old.machine new.machine w.sound t.nodes t.bodies t.values;
  idle = record { values = t.values ∙ w.idle.values; tasks = t.tasks ∙ w.idle.tasks };
  scope = e;
  lower = subst (λ (es : List Entry). IsLower es) (sym t.forms) w.lower;
  functions = subst (λ (es : List Node). AreBodiesBelow (length es) (λ bodies. bodies.items) new.functions.items) (sym t.nodes) (subst (λ (fs : List (Vec Body Global)). AreBodiesBelow (length old.machine.nodes.items) (λ bodies. bodies.items) fs) (sym f) w.functions);
  tops = subst (λ (es : List Node). AreTopsBelow (length es) new.tops.items) (sym t.nodes) (subst (λ (ts : List Top). AreTopsBelow (length old.machine.nodes.items) ts) (sym g) w.tops);
}

-- what is compiled keeps all whole
pub whole_compiled : (ls : List (List ℕ)) (old new : Tops) (s : Source) (n : ℕ) → IsWhole ls old → HasCompiled old new s n → IsWhole ls new
whole_compiled ls old new s n w c =
    let h : length old.machine.nodes.items ≤ length new.machine.nodes.items = more-length c.compiled.nodes in
    record {
      sound = c.compiled.sound;
      idle = record { values = c.compiled.values ∙ w.idle.values; tasks = c.compiled.tasks ∙ w.idle.tasks };
      scope = c.compiled.locals ∙ w.scope;
      lower = c.compiled.lower;
      functions = subst (λ (fs : List (Vec Body Global)). AreBodiesBelow (length new.machine.nodes.items) (λ bodies. bodies.items) fs) (sym c.given.functions) (functions_below _ _ old.functions.items h w.functions);
      tops = subst (λ (ts : List Top). AreTopsBelow (length new.machine.nodes.items) ts) (sym c.given.tops) (tops_below _ _ old.tops.items h w.tops);
    }

pub given_compiled : (ls : List (List ℕ)) (old new : Tops) (s : Source) (n : ℕ) → IsWhole ls old → HasCompiled old new s n → so_far new ≡ with_bodies (lazy_bodies new.machine) (so_far old)
given_compiled ls old new s n w c = given_grown ls old new w c.given c.compiled.nodes
