-- What a `def` and a `defn` give.
use Rattle.std.proofs.Common.{◌≡◌, ℕ, ◌+◌, true, false, Bool, List, [], ◌∷◌, ◌++◌, length, map, Option, Some, None, refl, sym, ◌∙◌, ap, subst, cond}
use Rattle.std.proofs.lemmas.List.{length-map}
use Rattle.std.specs.Prelude.{is_some}
use Rattle.std.specs.declared.vec.Vec.{Vec}
use Rattle.std.specs.declared.alloc.Global.{Global}
use Rattle.clj_script.specs.declared.definitions.Meaning.{Meaning}
use Rattle.clj_script.specs.declared.definitions.Meaning.TheVariants.{Form, Function}
use Rattle.clj_script.specs.declared.expr.Expr.{Expr as Node}
use Rattle.clj_script.specs.declared.machine.Machine.{Machine}
use Rattle.clj_script.specs.declared.program.Body.{Body}
use Rattle.clj_script.specs.declared.program.Top.TheVariants.{Def, Defn}
use Rattle.clj_script.specs.declared.refusal.ScriptRefusal.{ScriptRefusal}
use Rattle.clj_script.specs.declared.top.Tops.{Tops}
use Rattle.clj_script.specs.Arena.{AllBelow}
use Rattle.clj_script.specs.Machines.{trees}
use Rattle.clj_script.specs.Names.{defined}
use Rattle.clj_script.specs.Nodes.{at, trees_of}
use Rattle.clj_script.specs.Readings.{Clause}
use Rattle.clj_script.specs.Refusals.{earliest}
use Rattle.clj_script.specs.Scopes.{Definitions, name_of}
use Rattle.clj_script.specs.Scripts.{SoFar, with_bodies, with_top, with_function, defining, with_own, is_new, after_def, after_defn, name_refusals, def_of, defn_of, of_def, of_defn, JudgedClauses}
use Rattle.clj_script.specs.Seen.{top_over, body_over}
use Rattle.clj_script.specs.Sources.{Source}
use Rattle.clj_script.specs.Tops.{so_far, lazy_bodies, IsWhole, HasCompiled, HasTakenAs, HasDefined, HasClauses}
use Rattle.clj_script.specs.Numbered.{numbers_of_bodies}
use Rattle.clj_script.specs.Trees.{Expr, def, defn}
use Rattle.clj_script.proofs.EntryLemmas.{map-one}
use Rattle.clj_script.proofs.KeptLemmas.{more_same, more_both, so_far_of, lazy_same, whole_same, whole_compiled, given_compiled, given_grown, tops_below_both, functions_below_both}
use Rattle.clj_script.proofs.ThreadLemmas.{earliest-join}
use Rattle.clj_script.proofs.TopLemmas.{AddsTop, whole_with_top, given_with_top, to_given, judged_there}

-- what is given once a name was defined
given_defined : (old new : Tops) (s : Source) (m : Meaning) (o : Option ℕ) → HasDefined old new s m o → so_far new ≡ defining (name_of s) m (so_far old)
given_defined old new s m o h = so_far_of
    (ap (map (λ (bodies : Vec Body Global). map (body_over (trees new.machine)) bodies.items)) h.functions ∙ ap (λ (es : List Node). map (λ (bodies : Vec Body Global). map (body_over (trees_of es)) bodies.items) old.functions.items) h.trees.nodes)
    (lazy_same old new h.trees)
    h.definitions
    (ap (map (top_over (trees new.machine))) h.tops ∙ ap (λ (es : List Node). map (top_over (trees_of es)) old.tops.items) h.trees.nodes)

pub whole_defined : (old new : Tops) (s : Source) (m : Meaning) (o : Option ℕ) → IsWhole [] old → HasDefined old new s m o → IsWhole [] new
whole_defined old new s m o w h = whole_same [] [] old new w h.trees h.functions h.tops (h.locals ∙ w.scope)

-- a name that has a number is new, and one that has none isn't
is_number : (b : Bool) (n k : ℕ) → Some k ≡ cond b (Some n) None → (b ≡ true) × (k ≡ n)
is_number true n k e = (refl, (cc))
is_number false n k e = absurd (cc)

is_no_number : (b : Bool) (n : ℕ) → None ≡ cond b (Some n) None → b ≡ false
is_no_number true n e = absurd (cc)
is_no_number false n e = refl

after_def_new : (name : List ℕ) (e : Expr) (so : SoFar) → is_new so.definitions name ≡ true → after_def name e so ≡ with_top (def (length so.definitions) e) (defining name (Form (length so.tops + 1)) so)
after_def_new name e so h = ap (λ (b : Bool). cond b (with_top (def (length so.definitions) e) (defining name (Form (length so.tops + 1)) so)) so) h

after_def_old : (name : List ℕ) (e : Expr) (so : SoFar) → is_new so.definitions name ≡ false → after_def name e so ≡ so
after_def_old name e so h = ap (λ (b : Bool). cond b (with_top (def (length so.definitions) e) (defining name (Form (length so.tops + 1)) so)) so) h

defining_old : (name : List ℕ) (m : Meaning) (so : SoFar) → is_new so.definitions name ≡ false → defining name m so ≡ so
defining_old name m so h = so_far_of refl refl (ap (λ (b : Bool). cond b (so.definitions ++ (name, m) ∷ []) so.definitions) h) refl

-- what is refused of a `def`
def_least : (old mid new : Tops) (value name : Source) (n : ℕ) (c : HasCompiled old mid value n) → new.machine.least.found ≡ earliest mid.machine.least.found (name_refusals (defined mid.definitions.entries) name) → new.machine.least.found ≡ earliest old.machine.least.found (c.compiled.refusals ++ name_refusals (defined old.definitions.entries) name)
def_least old mid new value name n c e =
    e ∙ ap (λ (d : Definitions). earliest mid.machine.least.found (name_refusals d name)) c.given.definitions
    ∙ ap (λ (o : Option ScriptRefusal). earliest o (name_refusals (defined old.definitions.entries) name)) c.compiled.least
    ∙ sym (earliest-join old.machine.least.found c.compiled.refusals (name_refusals (defined old.definitions.entries) name))

-- a `def` of a name that can be defined
pub taken_def : (old mid dn new : Tops) (s name t value : Source) (n form k : ℕ) → IsWhole [] old → HasCompiled old mid value n → form ≡ length mid.tops.items + 1 → HasDefined mid dn t (Form form) (Some k) → t ≡ name → AddsTop dn new (Def k n) → HasTakenAs old new s (def_of name value)
taken_def old mid dn new s name t value n form k w c f u e a =
    let h : HasDefined mid dn name (Form form) (Some k) = subst (λ (x : Source). HasDefined mid dn x (Form form) (Some k)) e u in
    let v : IsWhole [] mid = whole_compiled [] old mid value n w c in
    let b : (is_new (defined mid.definitions.entries) (name_of name) ≡ true) × (k ≡ length mid.definitions.entries) = is_number (is_new (defined mid.definitions.entries) (name_of name)) (length mid.definitions.entries) k h.number in
    let g : k ≡ length (so_far mid).definitions = b.1 ∙ sym (length-map mid.definitions.entries _) in
    let i : form ≡ length (so_far mid).tops + 1 = f ∙ ap (λ (l : ℕ). l + 1) (sym (length-map mid.tops.items (top_over (trees mid.machine)))) in
    let p : so_far new ≡ with_top (def k (at (trees dn.machine) n)) (so_far dn) = given_with_top dn new (Def k n) a in
    let q : with_top (def k (at (trees dn.machine) n)) (so_far dn) ≡ with_top (def (length (so_far mid).definitions) (at (trees mid.machine) n)) (defining (name_of name) (Form (length (so_far mid).tops + 1)) (so_far mid)) =
    ap (λ (es : List Node). with_top (def k (at (trees_of es) n)) (so_far dn)) h.trees.nodes
    ∙ ap (λ (j : ℕ). with_top (def j (at (trees mid.machine) n)) (so_far dn)) g
    ∙ ap (with_top (def (length (so_far mid).definitions) (at (trees mid.machine) n))) (given_defined mid dn name (Form form) (Some k) h)
    ∙ ap (λ (j : ℕ). with_top (def (length (so_far mid).definitions) (at (trees mid.machine) n)) (defining (name_of name) (Form j) (so_far mid))) i in
    record {
      whole = whole_with_top dn new (Def k n) (whole_defined mid dn name (Form form) (Some k) v h) (subst (λ (es : List Node). AllBelow (length es) (n ∷ [])) (sym h.trees.nodes) (c.compiled.below, tt)) a;
      forms = more_both c.compiled.forms (more_both (more_same h.trees.forms) (more_same a.forms));
      refusals = c.compiled.refusals ++ name_refusals (defined old.definitions.entries) name;
      least = def_least old mid new value name n c (ap (λ (m : Machine). m.least.found) a.machine ∙ h.least);
      judged = to_given (of_def (judged_there old mid value n w c))
          (ap (after_def (name_of name) (at (trees mid.machine) n)) (sym (given_compiled [] old mid value n w c)) ∙ after_def_new (name_of name) (at (trees mid.machine) n) (so_far mid) b.0 ∙ sym q ∙ sym p);
    }

-- a `def` of a name that can't be defined
pub taken_def_refused : (old mid new : Tops) (s name t value : Source) (n form : ℕ) → IsWhole [] old → HasCompiled old mid value n → HasDefined mid new t (Form form) None → t ≡ name → HasTakenAs old new s (def_of name value)
taken_def_refused old mid new s name t value n form w c u e =
    let h : HasDefined mid new name (Form form) None = subst (λ (x : Source). HasDefined mid new x (Form form) None) e u in
    let v : IsWhole [] mid = whole_compiled [] old mid value n w c in
    let b : is_new (defined mid.definitions.entries) (name_of name) ≡ false = is_no_number (is_new (defined mid.definitions.entries) (name_of name)) (length mid.definitions.entries) h.number in
    record {
      whole = whole_defined mid new name (Form form) None v h;
      forms = more_both c.compiled.forms (more_same h.trees.forms);
      refusals = c.compiled.refusals ++ name_refusals (defined old.definitions.entries) name;
      least = def_least old mid new value name n c h.least;
      judged = to_given (of_def (judged_there old mid value n w c))
          (ap (after_def (name_of name) (at (trees mid.machine) n)) (sym (given_compiled [] old mid value n w c)) ∙ after_def_old (name_of name) (at (trees mid.machine) n) (so_far mid) b ∙ sym (defining_old (name_of name) (Form form) (so_far mid) b) ∙ sym (given_defined mid new name (Form form) None h));
    }

-- a function was added, and the form of it
pub record AddsFunction (old new : Tops) (f : Vec Body Global) : Type 0 where
  pub machine : new.machine ≡ old.machine
  pub forms : new.sources.items ≡ old.sources.items
  pub definitions : new.definitions ≡ old.definitions
  pub functions : new.functions.items ≡ old.functions.items ++ f ∷ []
  pub tops : new.tops.items ≡ old.tops.items ++ Defn ∷ []

whole_with_function : (old new : Tops) (f : Vec Body Global) → IsWhole [] old → AllBelow (length old.machine.nodes.items) (numbers_of_bodies f.items) → AddsFunction old new f → IsWhole [] new
whole_with_function old new f w b a = record {
  sound = rw (a.machine) w.sound;
  idle = rw (a.machine) w.idle;
  scope = rw (a.machine) w.scope;
  lower = rw (a.forms) w.lower;
  functions = rw (a.machine, a.functions) (functions_below_both (length old.machine.nodes.items) old.functions.items f w.functions b);
  tops = rw (a.machine, a.tops) (tops_below_both (length old.machine.nodes.items) old.tops.items Defn w.tops tt);
}

given_with_function : (old new : Tops) (f : Vec Body Global) → AddsFunction old new f → so_far new ≡ with_top defn (with_function (map (body_over (trees old.machine)) f.items) (so_far old))
given_with_function old new f a = so_far_of
    (rw (a.machine, a.functions) (map-one (λ (bodies : Vec Body Global). map (body_over (trees old.machine)) bodies.items) old.functions.items f))
    (rw (a.machine) refl)
    (rw (a.definitions) refl)
    (rw (a.machine, a.tops) (map-one (top_over (trees old.machine)) old.tops.items Defn))

-- the clauses of a function whose name was defined, as they are among what the forms so far have given
record TakesClauses (old dn cn : Tops) (name : Source) (cs : List Clause) (bodies : List Body) (refusals : List ScriptRefusal) : Type 0 where
  pub given : so_far cn ≡ with_bodies (lazy_bodies cn.machine) (with_own name (so_far old))
  pub judged : JudgedClauses (with_own name (so_far old)).definitions [] (so_far old).bodies cs (map (body_over (trees cn.machine)) bodies) (lazy_bodies cn.machine) refusals
  pub least : cn.machine.least.found ≡ earliest old.machine.least.found (name_refusals (so_far old).definitions name ++ refusals)

takes_clauses : (old dn cn : Tops) (name : Source) (f : ℕ) (o : Option ℕ) (cs : List Clause) (bodies : List Body) → IsWhole [] old → f ≡ length old.functions.items → HasDefined old dn name (Function f) o → (k : HasClauses dn cn [] cs bodies) → TakesClauses old dn cn name cs bodies k.refusals
takes_clauses old dn cn name f o cs bodies w e h k =
    let i : f ≡ length (so_far old).functions = e ∙ sym (length-map old.functions.items (λ (bs : Vec Body Global). map (body_over (trees old.machine)) bs.items)) in
    let g : so_far dn ≡ with_own name (so_far old) = given_defined old dn name (Function f) o h ∙ ap (λ (j : ℕ). defining (name_of name) (Function j) (so_far old)) i in
    record {
      given = given_grown [] dn cn (whole_defined old dn name (Function f) o w h) k.given k.grown.nodes ∙ ap (with_bodies (lazy_bodies cn.machine)) g;
      judged = subst (λ (so : SoFar). JudgedClauses so.definitions [] so.bodies cs (map (body_over (trees cn.machine)) bodies) (lazy_bodies cn.machine) k.refusals) g k.judged;
      least = k.least ∙ ap (λ (l : Option ScriptRefusal). earliest l k.refusals) h.least ∙ sym (earliest-join old.machine.least.found (name_refusals (so_far old).definitions name) k.refusals);
    }

-- a `defn` of a name that can be defined
taken_defn : (old dn cn new : Tops) (s name : Source) (f k : ℕ) (cs : List Clause) (bodies : Vec Body Global) → IsWhole [] old → f ≡ length old.functions.items → HasDefined old dn name (Function f) (Some k) → HasClauses dn cn [] cs bodies.items → AddsFunction cn new bodies → HasTakenAs old new s (defn_of name cs)
taken_defn old dn cn new s name f k cs bodies w e h c a =
    let t : TakesClauses old dn cn name cs bodies.items c.refusals = takes_clauses old dn cn name f (Some k) cs bodies.items w e h c in
    let b : (is_new (so_far old).definitions (name_of name) ≡ true) × (k ≡ length old.definitions.entries) = is_number (is_new (so_far old).definitions (name_of name)) (length old.definitions.entries) k h.number in
    let fs : List (ℕ × Expr) = map (body_over (trees cn.machine)) bodies.items in
    record {
      whole = whole_with_function cn new bodies c.whole c.below a;
      forms = more_both (more_same h.trees.forms) (more_both c.grown.forms (more_same a.forms));
      refusals = name_refusals (so_far old).definitions name ++ c.refusals;
      least = ap (λ (m : Machine). m.least.found) a.machine ∙ t.least;
      judged = to_given (of_defn t.judged)
          (ap (λ (x : Bool). after_defn x fs (with_bodies (lazy_bodies cn.machine) (with_own name (so_far old)))) b.0 ∙ ap (λ (so : SoFar). with_top defn (with_function fs so)) (sym t.given) ∙ sym (given_with_function cn new bodies a));
    }

-- a `defn` of a name that can't be defined
taken_defn_refused : (old dn new : Tops) (s name : Source) (f : ℕ) (cs : List Clause) (bodies : List Body) → IsWhole [] old → f ≡ length old.functions.items → HasDefined old dn name (Function f) None → HasClauses dn new [] cs bodies → HasTakenAs old new s (defn_of name cs)
taken_defn_refused old dn new s name f cs bodies w e h c =
    let t : TakesClauses old dn new name cs bodies c.refusals = takes_clauses old dn new name f None cs bodies w e h c in
    let b : is_new (so_far old).definitions (name_of name) ≡ false = is_no_number (is_new (so_far old).definitions (name_of name)) (length old.definitions.entries) h.number in
    let fs : List (ℕ × Expr) = map (body_over (trees new.machine)) bodies in
    record {
      whole = c.whole;
      forms = more_both (more_same h.trees.forms) c.grown.forms;
      refusals = name_refusals (so_far old).definitions name ++ c.refusals;
      least = t.least;
      judged = to_given (of_defn t.judged)
          (ap (λ (x : Bool). after_defn x fs (with_bodies (lazy_bodies new.machine) (with_own name (so_far old)))) b ∙ sym t.given);
    }

-- the same by whether the name has a number
pub taken_defn_new : (old dn cn new : Tops) (s name : Source) (f : ℕ) (o : Option ℕ) (cs ds : List Clause) (bodies : Vec Body Global) → IsWhole [] old → f ≡ length old.functions.items → HasDefined old dn name (Function f) o → is_some o ≡ true → HasClauses dn cn [] ds bodies.items → ds ≡ cs → AddsFunction cn new bodies → HasTakenAs old new s (defn_of name cs)
taken_defn_new old dn cn new s name f None cs ds bodies w e h i c q a = absurd (cc)
taken_defn_new old dn cn new s name f (Some k) cs ds bodies w e h i c q a = taken_defn old dn cn new s name f k cs bodies w e h (subst (λ (x : List Clause). HasClauses dn cn [] x bodies.items) q c) a

pub taken_defn_old : (old dn new : Tops) (s name : Source) (f : ℕ) (o : Option ℕ) (cs ds : List Clause) (bodies : List Body) → IsWhole [] old → f ≡ length old.functions.items → HasDefined old dn name (Function f) o → is_some o ≡ false → HasClauses dn new [] ds bodies → ds ≡ cs → HasTakenAs old new s (defn_of name cs)
taken_defn_old old dn new s name f (Some k) cs ds bodies w e h i c q = absurd (cc)
taken_defn_old old dn new s name f None cs ds bodies w e h i c q = taken_defn_refused old dn new s name f cs bodies w e h (subst (λ (x : List Clause). HasClauses dn new [] x bodies) q c)
