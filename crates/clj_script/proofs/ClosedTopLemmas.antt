-- The program that forms mean names only what is there.
use Rattle.std.proofs.Common.{◌≡◌, ℕ, zero, suc, ◌+◌, ◌<◌, ◌≤◌, Bool, true, false, List, [], ◌∷◌, ◌++◌, length, take, map, Some, None, slice_get, refl, ap, sym, subst, ◌∙◌, if◌then◌else◌, ◌⊎◌, inl, inr, arith, length-append}
use Rattle.std.proofs.lemmas.List.{length-map}
use Rattle.std.specs.List.{AllByRecursion}
use Rattle.std.specs.Str.{bytes_eq}
use Rattle.clj_reader.specs.declared.form.Form.{Form as ReadForm}
use Rattle.clj_script.specs.declared.definitions.Meaning.{Meaning}
use Rattle.clj_script.specs.declared.definitions.Meaning.TheVariants.{Form, Function}
use Rattle.clj_script.specs.declared.refusal.ScriptRefusal.{ScriptRefusal}
use Rattle.clj_script.specs.Words.{spelled}
use Rattle.clj_script.specs.Trees.{Expr, Top, def, defn, prn, ledger, Program}
use Rattle.clj_script.specs.Sources.{Source}
use Rattle.clj_script.specs.Scopes.{Definitions, name_of}
use Rattle.clj_script.specs.Readings.{Clause, inside}
use Rattle.clj_script.specs.Scripts.{TopReading, SoFar, nothing_yet, with_bodies, with_top, with_function, is_new, with_definition, defining, after_def, after_defn, with_own, names_of, count_of, JudgedClauses, no_clause, one_more_clause, JudgedTop, of_top, JudgedAtTop, of_stray, of_stray_list, of_wrong, of_threading, of_def, of_defn, of_prn, of_ledger, JudgedTops, no_form, one_more_form, program_of, Means}
use Rattle.clj_script.specs.Closed.{functions_in, IsDefIn, is_def_in, IsClosed, IsClosedBehind, IsClosedBody, IsClosedTop, closed_def, closed_defn, closed_prn, closed_ledger, IsClosedProgram}
use Rattle.clj_script.proofs.ClosedLemmas.{IsFront, front-append, at_end, more_closed, MeansWell, Defines, judged_closed}

-- ## One more form

data Pushed {A : Type 0} (xs : List A) (y : A) (k : ℕ) (x : A) : Type 0 where
  was : slice_get xs k ≡ Some x → take k (xs ++ y ∷ []) ≡ take k xs → Pushed xs y k x
  is_last : x ≡ y → take k (xs ++ y ∷ []) ≡ xs → Pushed xs y k x

pushed : {A : Type 0} (xs : List A) (y : A) (k : ℕ) {x : A} → slice_get (xs ++ y ∷ []) k ≡ Some x → Pushed xs y k x
pushed [] y zero q = is_last (cc) refl
pushed [] y (suc k) q = absurd cc
pushed (z ∷ xs) y zero q = was q refl
pushed (z ∷ xs) y (suc k) {x = x} q = elim (pushed xs y k q) [
  | was p e ↦ was p (ap (λ l. z ∷ l) e)
  | is_last p e ↦ is_last p (ap (λ l. z ∷ l) e)
]

last_def : (tops : List Top) (name : ℕ) (e : Expr) → IsDefIn (tops ++ def name e ∷ []) (length tops + 1)
last_def tops name e = subst (λ n. IsDefIn (tops ++ def name e ∷ []) n) (one (length tops)) (is_def_in (at_end tops (def name e)))
  where
    one : (k : ℕ) → suc k ≡ k + 1
    one k = omega arith

functions_with : (tops : List Top) (t : Top) → functions_in (tops ++ t ∷ []) ≡ functions_in tops + functions_in (t ∷ [])
functions_with [] t = omega arith
functions_with (def n e ∷ tops) t = functions_with tops t
functions_with (defn ∷ tops) t = omega (arith, functions_with tops t)
functions_with (prn e ∷ tops) t = functions_with tops t
functions_with (ledger ∷ tops) t = functions_with tops t

still_closed : (b c : List Expr) → IsFront b c → {f : ℕ} {P : ℕ → Type 0} {n : ℕ} {e : Expr} → IsClosed f b P n e → IsClosed f c P n e
still_closed b c bs h = more_closed (omega arith) bs (λ n p. p) h

still_closed_bodies : (p q : Program) → IsFront p.bodies q.bodies → (before : List Top) (function : List (ℕ × Expr)) → AllByRecursion (IsClosedBody p before) function → AllByRecursion (IsClosedBody q before) function
still_closed_bodies p q bodies before [] h = tt
still_closed_bodies p q bodies before (b ∷ bs) h = (still_closed p.bodies q.bodies bodies h.0, still_closed_bodies p q bodies before bs h.1)

-- a form stays closed as the program goes on
still_closed_top : (p q : Program) → length p.names ≤ length q.names → IsFront p.bodies q.bodies → IsFront p.functions q.functions → (before : List Top) (t : Top) → IsClosedTop p before t → IsClosedTop q before t
still_closed_top p q names bodies functions before t (closed_def n h) = closed_def (omega (arith, n, names)) (still_closed p.bodies q.bodies bodies h)
still_closed_top p q names bodies functions before t (closed_defn {function = f} e h) = closed_defn (functions (functions_in before) f e) (still_closed_bodies p q bodies before f h)
still_closed_top p q names bodies functions before t (closed_prn h) = closed_prn (still_closed p.bodies q.bodies bodies h)
still_closed_top p q names bodies functions before t closed_ledger = closed_ledger

-- ## More forms

functions_behind : (before after : List Top) → functions_in before ≤ functions_in (before ++ after)
functions_behind [] after = omega arith
functions_behind (def n e ∷ tops) after = functions_behind tops after
functions_behind (defn ∷ tops) after = omega (arith, functions_behind tops after)
functions_behind (prn e ∷ tops) after = functions_behind tops after
functions_behind (ledger ∷ tops) after = functions_behind tops after

defs_behind : (before after : List Top) (n : ℕ) → IsDefIn before n → IsDefIn (before ++ after) n
defs_behind before after n (is_def_in {i = i} q) = is_def_in (front-append before after i _ q)

-- What names only what is there does so behind more forms, with more bodies.
pub closed_behind_more : (before after : List Top) (bodies more : List Expr) (n : ℕ) (e : Expr) → IsClosed (functions_in before) bodies (IsDefIn before) n e → IsClosed (functions_in (before ++ after)) (bodies ++ more) (IsDefIn (before ++ after)) n e
closed_behind_more before after bodies more n e h = more_closed (functions_behind before after) (front-append bodies more) (defs_behind before after) h

-- ## Definitions

spelled_more : (d : Definitions) (name x : List ℕ) (m r : Meaning) → spelled (d ++ (name, m) ∷ []) x ≡ Some r → (spelled d x ≡ Some r) ⊎ (r ≡ m)
spelled_more [] name x m r q = go (bytes_eq name x) q
  where
    go : (b : Bool) → (if b then Some m else None) ≡ Some r → (spelled {T = Meaning} [] x ≡ Some r) ⊎ (r ≡ m)
    go true p = inr (cc)
    go false p = absurd cc
spelled_more (l ∷ d) name x m r q = go (λ p. spelled_more d name x m r p) (bytes_eq l.0 x) q
  where
    go : (spelled (d ++ (name, m) ∷ []) x ≡ Some r → (spelled d x ≡ Some r) ⊎ (r ≡ m)) → (b : Bool) → (if b then Some l.1 else spelled (d ++ (name, m) ∷ []) x) ≡ Some r → ((if b then Some l.1 else spelled d x) ≡ Some r) ⊎ (r ≡ m)
    go f true p = inl p
    go f false p = f p

more_meant : {f g : ℕ} {P Q : ℕ → Type 0} → f ≤ g → ((n : ℕ) → P n → Q n) → (m : Meaning) → MeansWell f P m → MeansWell g Q m
more_meant fs ps (Form n) h = ps n h
more_meant fs ps (Function i) h = omega (arith, h, fs)

more_defines : {f g : ℕ} {P Q : ℕ → Type 0} (d : Definitions) → f ≤ g → ((n : ℕ) → P n → Q n) → Defines f P d → Defines g Q d
more_defines d fs ps h x r q = more_meant fs ps r (h x r q)

with_one : {f : ℕ} {P : ℕ → Type 0} (d : Definitions) (name : List ℕ) (m : Meaning) → Defines f P d → MeansWell f P m → Defines f P (d ++ (name, m) ∷ [])
with_one {f = f} {P = P} d name m h w = λ x r q. elim (spelled_more d name x m r q) [
  | inl p ↦ h x r p
  | inr p ↦ subst (λ y. MeansWell f P y) (sym p) w
]

-- ## Forms at the top

-- what the forms so far have given names only what is there
record IsFine (so : SoFar) : Type 0 where
  tops : (i : ℕ) (t : Top) → slice_get so.tops i ≡ Some t → IsClosedTop (program_of so) (take i so.tops) t
  functions : length so.functions ≡ functions_in so.tops
  definitions : Defines (functions_in so.tops) (IsDefIn so.tops) so.definitions

fine_nothing : IsFine nothing_yet
fine_nothing = record { tops = λ i t q. absurd cc; functions = refl; definitions = λ x r q. absurd cc }

fine_bodies : {so : SoFar} {b : List Expr} → IsFine so → IsFront so.bodies b → IsFine (with_bodies b so)
fine_bodies {so = so} {b = b} f bs = record {
  tops = λ i t q. still_closed_top (program_of so) (program_of (with_bodies b so)) (omega arith) bs (λ i x p. p) _ t (f.tops i t q);
  functions = f.functions;
  definitions = f.definitions;
}

-- one more form, behind which the program may have gone on
tops_with : (so so' : SoFar) (t : Top) → IsFine so → so'.tops ≡ so.tops ++ t ∷ [] → length so.definitions ≤ length so'.definitions → IsFront so.bodies so'.bodies → IsFront so.functions so'.functions → IsClosedTop (program_of so') so.tops t → (i : ℕ) (u : Top) → slice_get so'.tops i ≡ Some u → IsClosedTop (program_of so') (take i so'.tops) u
tops_with so so' t f e names bodies functions h i u q = at (pushed so.tops t i (ap (λ (l : List Top). slice_get l i) (sym e) ∙ q))
  where
    as_many : length (program_of so).names ≤ length (program_of so').names
    as_many = omega (arith, names, length-map so.definitions (λ (d : List ℕ × Meaning). d.0), length-map so'.definitions (λ (d : List ℕ × Meaning). d.0))

    at : Pushed so.tops t i u → IsClosedTop (program_of so') (take i so'.tops) u
    at (was p r) = subst (λ l. IsClosedTop (program_of so') l u) (sym (ap (take i) e ∙ r)) (still_closed_top (program_of so) (program_of so') as_many bodies functions (take i so.tops) u (f.tops i u p))
    at (is_last p r) = subst (λ l. IsClosedTop (program_of so') l u) (sym (ap (take i) e ∙ r)) (subst (λ x. IsClosedTop (program_of so') so.tops x) (sym p) h)

-- a form that defines nothing
fine_plain : {so : SoFar} (t : Top) → functions_in (t ∷ []) ≡ 0 → IsFine so → IsClosedTop (program_of so) so.tops t → IsFine (with_top t so)
fine_plain {so = so} t z f h = record {
  tops = tops_with so (with_top t so) t f refl (omega arith) (λ i x p. p) (λ i x p. p) (still_closed_top (program_of so) (program_of (with_top t so)) (omega arith) (λ i x p. p) (λ i x p. p) so.tops t h);
  functions = omega (arith, f.functions, functions_with so.tops t, z);
  definitions = more_defines so.definitions (omega (arith, functions_with so.tops t)) (defs_behind so.tops (t ∷ [])) f.definitions;
}

-- with a `def` of a new name
abbrev with_def : List ℕ → Expr → SoFar → SoFar
with_def name e so = record { functions = so.functions; bodies = so.bodies; definitions = so.definitions ++ (name, Form (length so.tops + 1)) ∷ []; tops = so.tops ++ def (length so.definitions) e ∷ [] }

one_more_name : (d : Definitions) (name : List ℕ) (m : Meaning) → length (d ++ (name, m) ∷ []) ≡ length d + 1
one_more_name d name m = length-append d ((name, m) ∷ [])

fine_def : (name : List ℕ) (e : Expr) (so : SoFar) → IsFine so → IsClosedBehind (program_of so) so.tops 0 e → IsFine (with_def name e so)
fine_def name e so f h =
    let t : Top = def (length so.definitions) e in
    let m : Meaning = Form (length so.tops + 1) in
    let d : Definitions = so.definitions ++ (name, m) ∷ [] in
    let more : length d ≡ length so.definitions + 1 = one_more_name so.definitions name m in
    let named : length so.definitions < length (program_of (with_def name e so)).names = omega (arith, more, length-map d (λ (x : List ℕ × Meaning). x.0)) in
    record {
      tops = tops_with so (with_def name e so) t f refl (omega (arith, more)) (λ i x p. p) (λ i x p. p) (closed_def named h);
      functions = omega (arith, f.functions, functions_with so.tops t);
      definitions = with_one so.definitions name m (more_defines so.definitions (omega (arith, functions_with so.tops t)) (defs_behind so.tops (t ∷ [])) f.definitions) (last_def so.tops (length so.definitions) e);
    }

defined_after : (name : List ℕ) (e : Expr) (so : SoFar) → IsFine so → IsClosedBehind (program_of so) so.tops 0 e → IsFine (after_def name e so)
defined_after name e so f h = go (is_new so.definitions name)
  where
    go : (b : Bool) → IsFine (if b then with_top (def (length so.definitions) e) (record { functions = so.functions; bodies = so.bodies; definitions = if b then so.definitions ++ (name, Form (length so.tops + 1)) ∷ [] else so.definitions; tops = so.tops }) else so)
    go true = fine_def name e so f h
    go false = f

clauses_closed : {f : ℕ} {P : ℕ → Type 0} (d : Definitions) → Defines f P d → {counts : List ℕ} {b b' : List Expr} {cs : List Clause} {fs : List (ℕ × Expr)} {rs : List ScriptRefusal} → JudgedClauses d counts b cs fs b' rs → IsFront b b' × AllByRecursion (λ (body : ℕ × Expr). IsClosed f b' P body.0 body.1) fs
clauses_closed d ok no_clause = (λ i x p. p, tt)
clauses_closed {f = f} {P = P} d ok {b' = c} (one_more_clause {c = clause} {e = e} j js) =
    let r = judged_closed f P d ok j in
    let s = clauses_closed {f = f} {P = P} d ok js in
    let h : IsClosed f c P (length (names_of clause)) e = more_closed (omega arith) s.0 (λ n p. p) r.closed in
    (λ i x p. s.0 i x (r.front i x p), (subst (λ n. IsClosed f c P n e) (length-map (inside clause.parameters) name_of) h, s.1))

-- bodies with their parameters in scope, over one function more
abbrev AreBodies : List Expr → SoFar → List (ℕ × Expr) → Type 0
AreBodies b so fs = AllByRecursion (λ (body : ℕ × Expr). IsClosed (suc (functions_in so.tops)) b (IsDefIn so.tops) body.0 body.1) fs

-- with a `defn` of a new name
abbrev with_defn : List ℕ → List (ℕ × Expr) → List Expr → SoFar → SoFar
with_defn name fs b so = record { functions = so.functions ++ fs ∷ []; bodies = b; definitions = so.definitions ++ (name, Function (length so.functions)) ∷ []; tops = so.tops ++ defn ∷ [] }

fine_defn : (name : List ℕ) (fs : List (ℕ × Expr)) (b : List Expr) (so : SoFar) → IsFine so → IsFront so.bodies b → AreBodies b so fs → IsFine (with_defn name fs b so)
fine_defn name fs b so f bs h =
    let m : Meaning = Function (length so.functions) in
    let more : length (so.definitions ++ (name, m) ∷ []) ≡ length so.definitions + 1 = one_more_name so.definitions name m in
    let at : slice_get (so.functions ++ fs ∷ []) (functions_in so.tops) ≡ Some fs = subst (λ n. slice_get (so.functions ++ fs ∷ []) n ≡ Some fs) f.functions (at_end so.functions fs) in
    record {
      tops = tops_with so (with_defn name fs b so) defn f refl (omega (arith, more)) bs (front-append so.functions (fs ∷ [])) (closed_defn at h);
      functions = omega (arith, f.functions, functions_with so.tops defn, length-append so.functions (fs ∷ []));
      definitions = with_one so.definitions name m (more_defines so.definitions (omega (arith, functions_with so.tops defn)) (defs_behind so.tops (defn ∷ [])) f.definitions) (omega (arith, f.functions, functions_with so.tops defn));
    }

function_after : (name : Source) (fs : List (ℕ × Expr)) (b : List Expr) (so : SoFar) → IsFine so → IsFront so.bodies b → AreBodies b so fs → IsFine (after_defn (is_new so.definitions (name_of name)) fs (with_bodies b (with_own name so)))
function_after name fs b so f bs h = go (is_new so.definitions (name_of name))
  where
    go : (new : Bool) → IsFine (after_defn new fs (record { functions = so.functions; bodies = b; definitions = if new then so.definitions ++ (name_of name, Function (length so.functions)) ∷ [] else so.definitions; tops = so.tops }))
    go true = fine_defn (name_of name) fs b so f bs h
    go false = fine_bodies f bs

-- in a function's bodies its own name is known
own_known : (name : Source) (so : SoFar) → IsFine so → Defines (suc (functions_in so.tops)) (IsDefIn so.tops) (with_own name so).definitions
own_known name so f = go (is_new so.definitions (name_of name))
  where
    more : Defines (suc (functions_in so.tops)) (IsDefIn so.tops) so.definitions
    more = more_defines so.definitions (omega arith) (λ n p. p) f.definitions

    go : (new : Bool) → Defines (suc (functions_in so.tops)) (IsDefIn so.tops) (if new then so.definitions ++ (name_of name, Function (length so.functions)) ∷ [] else so.definitions)
    go true = with_one so.definitions (name_of name) (Function (length so.functions)) more (omega (arith, f.functions))
    go false = more

mutual
  fine_after : {so so' : SoFar} {s : Source} {rs : List ScriptRefusal} → JudgedTop so s so' rs → IsFine so → IsFine so'
  fine_after (of_top j) f = fine_at j f

  fine_at : {so so' : SoFar} {s : Source} {r : TopReading} {rs : List ScriptRefusal} → JudgedAtTop so s r so' rs → IsFine so → IsFine so'
  fine_at of_stray f = f
  fine_at {so = so} (of_stray_list j) f = let r = judged_closed (functions_in so.tops) (IsDefIn so.tops) so.definitions f.definitions j in fine_bodies f r.front
  fine_at of_wrong f = f
  fine_at (of_threading j) f = fine_after j f
  fine_at {so = so} (of_def {name = name} {e = e} {b = b} j) f =
      let r = judged_closed (functions_in so.tops) (IsDefIn so.tops) so.definitions f.definitions j in
      defined_after (name_of name) e (with_bodies b so) (fine_bodies f r.front) r.closed
  fine_at {so = so} (of_defn {name = name} {fs = fs} {b = b} j) f =
      let r = clauses_closed (with_own name so).definitions (own_known name so f) j in
      function_after name fs b so f r.0 r.1
  fine_at {so = so} (of_prn {e = e} {b = b} j) f =
      let r = judged_closed (functions_in so.tops) (IsDefIn so.tops) so.definitions f.definitions j in
      fine_plain (prn e) refl (fine_bodies f r.front) (closed_prn r.closed)
  fine_at of_ledger f = fine_plain ledger refl f closed_ledger

fine_all : {so so' : SoFar} {ss : List Source} {rs : List ScriptRefusal} → JudgedTops so ss so' rs → IsFine so → IsFine so'
fine_all no_form f = f
fine_all (one_more_form j js) f = fine_all js (fine_after j f)

-- What forms mean names only what is there.
pub means_closed : (forms : List ReadForm) (program : Program) (refusals : List ScriptRefusal) → Means forms program refusals → IsClosedProgram program
means_closed forms program refusals m =
    let f = fine_all m.judged fine_nothing in
    subst (λ p. IsClosedProgram p) (sym m.shown) (record { tops = f.tops; functions = f.functions })
