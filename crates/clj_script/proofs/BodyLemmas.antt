-- What the clauses of a function give.
use Rattle.std.proofs.Common.{◌≡◌, ℕ, ◌+◌, ◌<◌, true, false, Bool, List, [], ◌∷◌, ◌++◌, length, map, take, Option, Some, refl, sym, ◌∙◌, ap, subst, arith, cond, zero, suc, append_assoc, append-nil}
use Rattle.std.specs.Prelude.{slice_get, ◌==◌, slice_index_or}
use Rattle.std.specs.List.{list_any}
use Rattle.std.specs.Str.{bytes_eq}
use Rattle.clj_script.specs.declared.expr.Expr.{Expr as Node}
use Rattle.clj_script.specs.declared.machine.Machine.{Machine}
use Rattle.clj_script.specs.declared.program.Body.{Body}
use Rattle.clj_script.specs.declared.reading.Clause.{Clause as Kept}
use Rattle.clj_script.specs.declared.refusal.ScriptRefusal.{ScriptRefusal}
use Rattle.clj_script.specs.declared.source.Entry.{Entry}
use Rattle.clj_script.specs.declared.top.Tops.{Tops}
use Rattle.clj_script.specs.Arena.{AllBelow}
use Rattle.clj_script.specs.Entries.{form_at}
use Rattle.clj_script.specs.Judgements.{Judged}
use Rattle.clj_script.specs.Machines.{HasMore, HasParameter, trees}
use Rattle.clj_script.specs.Names.{defined}
use Rattle.clj_script.specs.Nodes.{at, trees_of}
use Rattle.clj_script.specs.Reads.{clause_at, numbers_of_clause, numbers_of_clauses}
use Rattle.clj_script.specs.Readings.{Clause, inside}
use Rattle.clj_script.specs.Refusals.{earliest}
use Rattle.clj_script.specs.Scopes.{Definitions, name_of, is_unbindable, refused_if}
use Rattle.clj_script.specs.Scripts.{parameter_refusals, vector_refusals, twice_refusals, count_of, names_of, JudgedClauses, no_clause, one_more_clause}
use Rattle.clj_script.specs.Seen.{body_over}
use Rattle.clj_script.specs.Sources.{Source, place_of}
use Rattle.clj_script.specs.Tops.{lazy_bodies, counts_of, refused_at, IsWhole, KeepsGiven, KeepsTrees, HasCompiled, HasNames, HasParameters, HasClauses}
use Rattle.clj_script.specs.Numbered.{numbers_of_bodies}
use Rattle.clj_script.specs.Trees.{Expr}
use Rattle.clj_script.proofs.ArenaLemmas.{below_more}
use Rattle.clj_script.proofs.EntryLemmas.{map-one, take_more}
use Rattle.clj_script.proofs.KeptLemmas.{more-length, more_same, more_both, form_stays, bodies_stay, lazy_same, whole_same, whole_compiled}
use Rattle.clj_script.proofs.ThreadLemmas.{earliest-join}

pub refused_there : (b : Bool) (s : Source) → refused_at b (place_of s) ≡ refused_if b 10 s
refused_there true s = refl
refused_there false s = refl

-- whether a form can't be bound as a parameter behind these names
abbrev is_no_parameter : List (List ℕ) → Source → Bool
is_no_parameter names s = cond (is_unbindable s) true (list_any (λ name. bytes_eq name (name_of s)) names)

parameters-more : (names : List (List ℕ)) (ss : List Source) (s : Source) → parameter_refusals names (ss ++ s ∷ []) ≡ parameter_refusals names ss ++ refused_if (is_no_parameter (names ++ map name_of ss) s) 10 s
parameters-more names [] s = append-nil (refused_if (is_no_parameter names s) 10 s) ∙ ap (λ (ns : List (List ℕ)). refused_if (is_no_parameter ns s) 10 s) (sym (append-nil names))
parameters-more names (t ∷ ss) s =
    ap (λ rs. refused_if (is_no_parameter names t) 10 t ++ rs) (parameters-more (names ++ name_of t ∷ []) ss s)
    ∙ sym (append_assoc (refused_if (is_no_parameter names t) 10 t) (parameter_refusals (names ++ name_of t ∷ []) ss) (refused_if (is_no_parameter ((names ++ name_of t ∷ []) ++ map name_of ss) s) 10 s))
    ∙ ap (λ (ns : List (List ℕ)). (refused_if (is_no_parameter names t) 10 t ++ parameter_refusals (names ++ name_of t ∷ []) ss) ++ refused_if (is_no_parameter ns s) 10 s) (append_assoc names (name_of t ∷ []) (map name_of ss))

pub none_named : (m : Machine) → m.locals ≡ [] → HasNames m m []
none_named m e = record { nodes = refl; bodies = refl; values = refl; tasks = refl; locals = e; least = refl }

named_more : (old mid new : Machine) (ss : List Source) (s : Source) → HasNames old mid ss → HasParameter mid new s → HasNames old new (ss ++ s ∷ [])
named_more old mid new ss s h p = record {
  nodes = p.nodes ∙ h.nodes;
  bodies = p.bodies ∙ h.bodies;
  values = p.values ∙ h.values;
  tasks = p.tasks ∙ h.tasks;
  locals = p.locals ∙ ap (λ (ls : List (List ℕ)). ls ++ name_of s ∷ []) h.locals ∙ sym (map-one name_of ss s);
  least = p.least
      ∙ ap (λ (ls : List (List ℕ)). earliest mid.least.found (refused_if (is_no_parameter ls s) 10 s)) h.locals
      ∙ ap (λ (o : Option ScriptRefusal). earliest o (refused_if (is_no_parameter (map name_of ss) s) 10 s)) h.least
      ∙ sym (earliest-join old.least.found (parameter_refusals [] ss) (refused_if (is_no_parameter (map name_of ss) s) 10 s))
      ∙ ap (earliest old.least.found) (sym (parameters-more [] ss s));
}

pub one_named : (old mid new : Machine) (f : ℕ → Source) (ns : List ℕ) (i n : ℕ) → HasNames old mid (map f (take i ns)) → slice_get ns i ≡ Some n → HasParameter mid new (f n) → HasNames old new (map f (take (i + 1) ns))
one_named old mid new f ns i n h e p =
    let g : map f (take (i + 1) ns) ≡ map f (take i ns) ++ f n ∷ [] = ap (map f) (take_more ns i n e) ∙ map-one f (take i ns) n in
    subst (λ (ss : List Source). HasNames old new ss) (sym g) (named_more old mid new (map f (take i ns)) (f n) h p)

-- with the parameters in scope all is whole
pub whole_parameters : (old new : Tops) (s : Source) (n : ℕ) → IsWhole [] old → HasParameters old new s n → IsWhole (map name_of (inside s)) new
whole_parameters old new s n w h = whole_same [] (map name_of (inside s)) old new w h.trees h.given.functions h.given.tops h.locals

-- a body was compiled
pub has_body : (old p m new : Tops) (counts : List ℕ) (c : Clause) (body : Source) (k n : ℕ) (b : Body) → IsWhole [] old → HasParameters old p c.parameters k → HasCompiled p m body n → body ≡ c.body → b.parameters ≡ k → b.expr ≡ n → KeepsTrees m new → KeepsGiven m new → new.machine.locals ≡ [] → new.machine.least.found ≡ earliest m.machine.least.found (refused_at (list_any (λ j. j == k) counts) (place_of c.whole)) → HasClauses old new counts (c ∷ []) (b ∷ [])
has_body old p m new counts c body k n b w hp hc eb ek en t g l r =
    let v : IsWhole (map name_of (inside c.parameters)) p = whole_parameters old p c.parameters k w hp in
    let x : IsWhole (map name_of (inside c.parameters)) m = whole_compiled (map name_of (inside c.parameters)) p m body n v hc in
    let y : IsWhole [] new = whole_same (map name_of (inside c.parameters)) [] m new x t g.functions g.tops l in
    let d : Definitions = defined old.definitions.entries in
    let twice : List ScriptRefusal = twice_refusals counts c in
    let ej : k ≡ count_of c = hp.count in
    let er : refused_at (list_any (λ j. j == k) counts) (place_of c.whole) ≡ twice = refused_there (list_any (λ j. j == k) counts) c.whole ∙ ap (λ (i : ℕ). refused_if (list_any (λ j. j == i) counts) 10 c.whole) ej in
    let js : Judged d (names_of c) (lazy_bodies p.machine) c.body (at (trees m.machine) n) (lazy_bodies m.machine) hc.compiled.refusals =
    subst (λ (s : Source). Judged d (names_of c) (lazy_bodies p.machine) s (at (trees m.machine) n) (lazy_bodies m.machine) hc.compiled.refusals) eb
    (subst (λ (ls : List (List ℕ)). Judged d ls (lazy_bodies p.machine) body (at (trees m.machine) n) (lazy_bodies m.machine) hc.compiled.refusals) hp.locals
    (subst (λ (ds : Definitions). Judged ds p.machine.locals (lazy_bodies p.machine) body (at (trees m.machine) n) (lazy_bodies m.machine) hc.compiled.refusals) hp.given.definitions hc.compiled.judged)) in
    let jo : Judged d (names_of c) (lazy_bodies old.machine) c.body (at (trees m.machine) n) (lazy_bodies m.machine) hc.compiled.refusals =
    subst (λ (bs : List Expr). Judged d (names_of c) bs c.body (at (trees m.machine) n) (lazy_bodies m.machine) hc.compiled.refusals) (lazy_same old p hp.trees) js in
    let jc : JudgedClauses d counts (lazy_bodies old.machine) (c ∷ []) ((count_of c, at (trees m.machine) n) ∷ []) (lazy_bodies m.machine) (vector_refusals c.parameters ++ hc.compiled.refusals ++ twice ++ []) = one_more_clause jo no_clause in
    let eo : body_over (trees new.machine) b ≡ (count_of c, at (trees m.machine) n) =
    ap (λ (i : ℕ). (i, at (trees new.machine) b.expr)) (ek ∙ ej) ∙ ap (λ (i : ℕ). (count_of c, at (trees new.machine) i)) en ∙ ap (λ (es : List Node). (count_of c, at (trees_of es) n)) t.nodes in
    record {
      whole = y;
      grown = record {
        forms = more_both (more_same hp.trees.forms) (more_both hc.compiled.forms (more_same t.forms));
        nodes = more_both (more_same hp.trees.nodes) (more_both hc.compiled.nodes (more_same t.nodes));
      };
      given = record { definitions = g.definitions ∙ hc.given.definitions ∙ hp.given.definitions; functions = g.functions ∙ hc.given.functions ∙ hp.given.functions; tops = g.tops ∙ hc.given.tops ∙ hp.given.tops };
      below = subst (λ (es : List Node). AllBelow (length es) (b.expr ∷ [])) (sym t.nodes) (subst (λ (i : ℕ). i < length m.machine.nodes.items) (sym en) hc.compiled.below, tt);
      refusals = vector_refusals c.parameters ++ hc.compiled.refusals ++ twice ++ [];
      least = r ∙ ap (earliest m.machine.least.found) er
          ∙ ap (λ (o : Option ScriptRefusal). earliest o twice) (hc.compiled.least ∙ ap (λ (o : Option ScriptRefusal). earliest o hc.compiled.refusals) hp.least ∙ sym (earliest-join old.machine.least.found (vector_refusals c.parameters) hc.compiled.refusals))
          ∙ sym (earliest-join old.machine.least.found (vector_refusals c.parameters ++ hc.compiled.refusals) twice)
          ∙ sym (earliest-join old.machine.least.found (vector_refusals c.parameters ++ hc.compiled.refusals ++ twice) []);
      judged = subst (λ (bs : List Expr). JudgedClauses d counts (lazy_bodies old.machine) (c ∷ []) (body_over (trees new.machine) b ∷ []) bs (vector_refusals c.parameters ++ hc.compiled.refusals ++ twice ++ [])) (sym (lazy_same m new t))
          (subst (λ (x : ℕ × Expr). JudgedClauses d counts (lazy_bodies old.machine) (c ∷ []) (x ∷ []) (lazy_bodies m.machine) (vector_refusals c.parameters ++ hc.compiled.refusals ++ twice ++ [])) (sym eo) jc);
    }

-- no clause
pub none_compiled : (t : Tops) → IsWhole [] t → HasClauses t t [] [] []
none_compiled t w = record {
  whole = w;
  grown = record { forms = more_same refl; nodes = more_same refl };
  given = record { definitions = refl; functions = refl; tops = refl };
  below = tt;
  refusals = [];
  least = refl;
  judged = no_clause;
}

module _ (d : Definitions) where
  -- one clause more at the end
  clauses_more : {counts : List ℕ} {b b' b'' : List Expr} {cs : List Clause} {c : Clause} {fs : List (ℕ × Expr)} {f : ℕ × Expr} {rs rs' : List ScriptRefusal} → JudgedClauses d counts b cs fs b' rs → JudgedClauses d (counts ++ map count_of cs) b' (c ∷ []) (f ∷ []) b'' rs' → JudgedClauses d counts b (cs ++ c ∷ []) (fs ++ f ∷ []) b'' (rs ++ rs')
  clauses_more {counts = counts} {b'' = b''} {c = c} {f = f} {rs' = rs'} (no_clause {b = b}) k = subst (λ (ns : List ℕ). JudgedClauses d ns b (c ∷ []) (f ∷ []) b'' rs') (append-nil counts) k
  clauses_more {counts = counts} {b = b} {b' = b'} {b'' = b''} {c = c} {f = f} {rs' = qs} (one_more_clause {c = x} {cs = cs} {e = e} {fs = fs} {rs = rs} {rs' = rs'} j js) k =
      let m : JudgedClauses d ((counts ++ count_of x ∷ []) ++ map count_of cs) b' (c ∷ []) (f ∷ []) b'' qs = subst (λ (ns : List ℕ). JudgedClauses d ns b' (c ∷ []) (f ∷ []) b'' qs) (sym (append_assoc counts (count_of x ∷ []) (map count_of cs))) k in
      subst (λ (ps : List ScriptRefusal). JudgedClauses d counts b (x ∷ cs ++ c ∷ []) ((count_of x, e) ∷ fs ++ f ∷ []) b'' ps) (sym (append_assoc (vector_refusals x.parameters ++ rs ++ twice_refusals counts x) rs' qs)) (one_more_clause j (clauses_more js m))

  -- the bodies have as many parameters as the clauses
  counts_same : {counts : List ℕ} {b b' : List Expr} {cs : List Clause} {fs : List (ℕ × Expr)} {rs : List ScriptRefusal} → JudgedClauses d counts b cs fs b' rs → map (λ (f : ℕ × Expr). f.0) fs ≡ map count_of cs
  counts_same no_clause = refl
  counts_same (one_more_clause {c = c} j js) = ap (λ (ns : List ℕ). count_of c ∷ ns) (counts_same js)

counts_over : (ts : List Expr) (bs : List Body) → map (λ (f : ℕ × Expr). f.0) (map (body_over ts) bs) ≡ counts_of bs
counts_over ts [] = refl
counts_over ts (b ∷ bs) = ap (λ (ns : List ℕ). b.parameters ∷ ns) (counts_over ts bs)

bodies_below_both : (n : ℕ) (bs : List Body) (b : Body) → AllBelow n (numbers_of_bodies bs) → b.expr < n → AllBelow n (numbers_of_bodies (bs ++ b ∷ []))
bodies_below_both n [] b h k = (k, tt)
bodies_below_both n (x ∷ bs) b h k = (h.0, bodies_below_both n bs b h.1 k)

-- one clause more was compiled
compiled_more : (old mid new : Tops) (cs : List Clause) (c : Clause) (bs : List Body) (b : Body) → HasClauses old mid [] cs bs → HasClauses mid new (counts_of bs) (c ∷ []) (b ∷ []) → HasClauses old new [] (cs ++ c ∷ []) (bs ++ b ∷ [])
compiled_more old mid new cs c bs b h k =
    let d : Definitions = defined old.definitions.entries in
    let counts : counts_of bs ≡ map count_of cs = sym (counts_over (trees mid.machine) bs) ∙ counts_same d h.judged in
    let stays : map (body_over (trees new.machine)) bs ≡ map (body_over (trees mid.machine)) bs = bodies_stay mid.machine.nodes.items new.machine.nodes.items bs k.grown.nodes h.below in
    let j : JudgedClauses d (map count_of cs) (lazy_bodies mid.machine) (c ∷ []) (body_over (trees new.machine) b ∷ []) (lazy_bodies new.machine) k.refusals =
    subst (λ (ns : List ℕ). JudgedClauses d ns (lazy_bodies mid.machine) (c ∷ []) (body_over (trees new.machine) b ∷ []) (lazy_bodies new.machine) k.refusals) counts
    (subst (λ (ds : Definitions). JudgedClauses ds (counts_of bs) (lazy_bodies mid.machine) (c ∷ []) (body_over (trees new.machine) b ∷ []) (lazy_bodies new.machine) k.refusals) h.given.definitions k.judged) in
    record {
      whole = k.whole;
      grown = record { forms = more_both h.grown.forms k.grown.forms; nodes = more_both h.grown.nodes k.grown.nodes };
      given = record { definitions = k.given.definitions ∙ h.given.definitions; functions = k.given.functions ∙ h.given.functions; tops = k.given.tops ∙ h.given.tops };
      below = bodies_below_both (length new.machine.nodes.items) bs b (below_more (length mid.machine.nodes.items) (length new.machine.nodes.items) (numbers_of_bodies bs) (more-length k.grown.nodes) h.below) k.below.0;
      refusals = h.refusals ++ k.refusals;
      least = k.least ∙ ap (λ (o : Option ScriptRefusal). earliest o k.refusals) h.least ∙ sym (earliest-join old.machine.least.found h.refusals k.refusals);
      judged = subst (λ (fs : List (ℕ × Expr)). JudgedClauses d [] (lazy_bodies old.machine) (cs ++ c ∷ []) fs (lazy_bodies new.machine) (h.refusals ++ k.refusals)) (ap (λ (fs : List (ℕ × Expr)). fs ++ body_over (trees new.machine) b ∷ []) (sym stays) ∙ sym (map-one (body_over (trees new.machine)) bs b)) (clauses_more d h.judged j);
    }

abbrev clause_with : Source → Source → Source → Clause
clause_with w p s = record { whole = w; parameters = p; body = s }

clause_stays : (old new : List Entry) (c : Kept) → HasMore old new → AllBelow (length old) (numbers_of_clause c) → clause_at new c ≡ clause_at old c
clause_stays old new c m b =
    let e : form_at new c.whole ≡ form_at old c.whole = form_stays old new c.whole m b.0 in
    let f : form_at new c.parameters ≡ form_at old c.parameters = form_stays old new c.parameters m b.1.0 in
    let g : form_at new c.body ≡ form_at old c.body = form_stays old new c.body m b.1.1.0 in
    ap (λ (x : Source). (clause_with x (form_at new c.parameters) (form_at new c.body))) e ∙ ap (λ (x : Source). clause_with (form_at old c.whole) x (form_at new c.body)) f ∙ ap (λ (x : Source). clause_with (form_at old c.whole) (form_at old c.parameters) x) g

-- the numbers of a clause among others
pub clause_below : (n : ℕ) (cs : List Kept) (i : ℕ) (c : Kept) → AllBelow n (numbers_of_clauses cs) → slice_get cs i ≡ Some c → AllBelow n (numbers_of_clause c)
clause_below n [] i c b e = absurd (cc)
clause_below n (x ∷ cs) zero c b e = let f : x ≡ c = (cc) in subst (λ (y : Kept). AllBelow n (numbers_of_clause y)) f (b.0, (b.1.0, (b.1.1.0, tt)))
clause_below n (x ∷ cs) (suc i) c b e = clause_below n cs i c b.1.1.1 e

pub one_compiled : (old mid new : Tops) (cs : List Kept) (i : ℕ) (c : Kept) (bs : List Body) (b : Body) → HasClauses old mid [] (map (clause_at old.sources.items) (take i cs)) bs → AllBelow (length old.sources.items) (numbers_of_clauses cs) → slice_get cs i ≡ Some c → HasClauses mid new (counts_of bs) (clause_at mid.sources.items c ∷ []) (b ∷ []) → HasClauses old new [] (map (clause_at old.sources.items) (take (i + 1) cs)) (bs ++ b ∷ [])
one_compiled old mid new cs i c bs b h l e k =
    let f : clause_at mid.sources.items c ≡ clause_at old.sources.items c = clause_stays old.sources.items mid.sources.items c h.grown.forms (clause_below (length old.sources.items) cs i c l e) in
    let g : map (clause_at old.sources.items) (take (i + 1) cs) ≡ map (clause_at old.sources.items) (take i cs) ++ clause_at old.sources.items c ∷ [] = ap (map (clause_at old.sources.items)) (take_more cs i c e) ∙ map-one (clause_at old.sources.items) (take i cs) c in
    subst (λ (xs : List Clause). HasClauses old new [] xs (bs ++ b ∷ [])) (sym g)
    (compiled_more old mid new (map (clause_at old.sources.items) (take i cs)) (clause_at old.sources.items c) bs b h (subst (λ (x : Clause). HasClauses mid new (counts_of bs) (x ∷ []) (b ∷ [])) f k))

pub got_or : {X : Type 0} (xs : List X) (i : ℕ) (d : X) → i < length xs → slice_get xs i ≡ Some (slice_index_or xs i d)
got_or [] i d h = absurd (omega arith)
got_or (x ∷ xs) zero d h = refl
got_or (x ∷ xs) (suc i) d h = got_or xs i d (omega arith)
