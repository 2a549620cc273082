-- The program of what the forms of a script have given.
use Rattle.std.proofs.Common.{◌≡◌, ℕ, ◌+◌, ◌≤◌, List, [], ◌∷◌, ◌++◌, length, map, take, Option, Some, None, Result, Ok, Err, refl, sym, ◌∙◌, ap, subst, append_assoc, append-nil}
use Rattle.std.proofs.lemmas.List.{take_all}
use Rattle.std.specs.Prelude.{slice_get, IfOk}
use Rattle.std.specs.declared.vec.Vec.{Vec}
use Rattle.std.specs.declared.alloc.Global.{Global}
use Rattle.clj_reader.specs.declared.form.Form.{Form}
use Rattle.clj_script.specs.declared.definitions.Meaning.{Meaning}
use Rattle.clj_script.specs.declared.program.Parts.{Parts}
use Rattle.clj_script.specs.declared.program.Program.{Program}
use Rattle.clj_script.specs.declared.refusal.ScriptRefusal.{ScriptRefusal}
use Rattle.clj_script.specs.declared.refusal.CompileStop.{CompileStop}
use Rattle.clj_script.specs.declared.refusal.CompileStop.TheVariants.{Refused, Memory}
use Rattle.clj_script.specs.declared.source.Entry.{Entry}
use Rattle.clj_script.specs.declared.top.Tops.{Tops}
use Rattle.clj_script.specs.Arena.{AllBelow}
use Rattle.clj_script.specs.Closed.{IsClosedProgram}
use Rattle.clj_script.specs.Entries.{IsLower, form_at, AreAdded}
use Rattle.clj_script.specs.Machines.{HasMore}
use Rattle.clj_script.specs.Names.{defined}
use Rattle.clj_script.specs.Refusals.{IsLeast, earliest}
use Rattle.clj_script.specs.Scripts.{SoFar, nothing_yet, program_of, JudgedTop, JudgedTops, no_form, one_more_form, Means}
use Rattle.clj_script.specs.Seen.{seen, seen_parts, IsRefusal, Gives}
use Rattle.clj_script.specs.Sources.{Source, sources_of}
use Rattle.clj_script.specs.Tops.{so_far, IsWhole, HasTaken}
use Rattle.clj_script.specs.Trees as tree
use Rattle.clj_script.proofs.ClosedTopLemmas.{means_closed}
use Rattle.clj_script.proofs.EntryLemmas.{take_more, map-one}
use Rattle.clj_script.proofs.KeptLemmas.{more_same, more_both, form_stays}
use Rattle.clj_script.proofs.RefusalLemmas.{none_refused, least_refused, one_least, least_of_none}
use Rattle.clj_script.proofs.ThreadLemmas.{earliest-join, below_at}
use Rattle.clj_script.proofs.UniqueLemmas.{one_judged_tops}

pub none_there : {X : Type 0} (o : Option X) → ((x : X) → o ≡ Some x → ⊥) → o ≡ None
none_there None f = refl
none_there (Some x) f = absurd (f x refl)

abbrev program_with : List (List (ℕ × tree.Expr)) → List tree.Expr → List (List ℕ) → List tree.Top → tree.Program
program_with f b n t = record { functions = f; bodies = b; names = n; tops = t }

program_same : {f f' : List (List (ℕ × tree.Expr))} {b b' : List tree.Expr} {n n' : List (List ℕ)} {t t' : List tree.Top} → f ≡ f' → b ≡ b' → n ≡ n' → t ≡ t' → program_with f b n t ≡ program_with f' b' n' t'
program_same {f = f} {f' = f'} {b = b} {b' = b'} {n = n} {n' = n'} {t = t} {t' = t'} p q r s =
    ap (λ x. program_with x b n t) p ∙ ap (λ x. program_with f' x n t) q ∙ ap (λ x. program_with f' b' x t) r ∙ ap (λ x. program_with f' b' n' x) s

names_of_defined : (es : List (Vec ℕ Global × Meaning)) → map (λ (e : Vec ℕ Global × Meaning). e.0.items) es ≡ map (λ (d : List ℕ × Meaning). d.0) (defined es)
names_of_defined [] = refl
names_of_defined (e ∷ es) = ap (λ (ns : List (List ℕ)). e.0.items ∷ ns) (names_of_defined es)

-- the program of what was given
pub seen_given : (t : Tops) (p : Parts) → p.nodes ≡ t.machine.nodes → p.functions ≡ t.functions → p.bodies ≡ t.machine.bodies → p.definitions ≡ t.definitions → p.tops ≡ t.tops → seen_parts p ≡ program_of (so_far t)
unfolding seen_parts
seen_given t p e f g h k = program_same
    (rw (e, f) refl)
    (rw (e, g) refl)
    (rw h (names_of_defined t.definitions.entries))
    (rw (e, k) refl)

-- so many of the forms were taken
pub record HasForms (es : List Entry) (t : Tops) (ns : List ℕ) : Type 0 where
  pub whole : IsWhole [] t
  pub forms : HasMore es t.sources.items
  pub refusals : List ScriptRefusal
  pub least : t.machine.least.found ≡ earliest None refusals
  pub judged : JudgedTops nothing_yet (map (form_at es) ns) (so_far t) refusals

pub none_taken : (start t : Tops) → IsWhole [] start → so_far start ≡ nothing_yet → start.machine.least.found ≡ None → t.machine ≡ start.machine → t.definitions ≡ start.definitions → t.functions ≡ start.functions → t.tops ≡ start.tops → IsLower t.sources.items → HasForms t.sources.items t []
none_taken start t w e f g h k m l = record {
  whole = record { sound = rw g w.sound; idle = rw g w.idle; scope = rw g w.scope; lower = l; functions = rw (g, k) w.functions; tops = rw (g, m) w.tops };
  forms = more_same refl;
  refusals = [];
  least = rw g f;
  judged = subst (λ (so : SoFar). JudgedTops nothing_yet [] so []) (sym (rw (g, h, k, m) e)) no_form;
}

tops_more : {so so' so'' : SoFar} {ss : List Source} {s : Source} {rs rs' : List ScriptRefusal} → JudgedTops so ss so' rs → JudgedTop so' s so'' rs' → JudgedTops so (ss ++ s ∷ []) so'' (rs ++ rs')
tops_more {so = so} {so'' = so''} {s = s} {rs' = rs'} no_form k = subst (λ (qs : List ScriptRefusal). JudgedTops so (s ∷ []) so'' qs) (append-nil rs') (one_more_form k no_form)
tops_more {so = so} {so'' = so''} {s = s} {rs' = qs} (one_more_form {s = t} {ss = ss} {rs = rs} {rs' = rs'} j js) k =
    subst (λ (ps : List ScriptRefusal). JudgedTops so (t ∷ ss ++ s ∷ []) so'' ps) (sym (append_assoc rs rs' qs)) (one_more_form j (tops_more js k))

-- one form more
pub one_taken : (es : List Entry) (mid new : Tops) (ns : List ℕ) (i n : ℕ) → HasForms es mid (take i ns) → AllBelow (length es) ns → slice_get ns i ≡ Some n → HasTaken mid new (form_at mid.sources.items n) → HasForms es new (take (i + 1) ns)
one_taken es mid new ns i n h b e t =
    let f : form_at mid.sources.items n ≡ form_at es n = form_stays es mid.sources.items n h.forms (below_at (length es) ns i n b e) in
    let g : map (form_at es) (take (i + 1) ns) ≡ map (form_at es) (take i ns) ++ form_at es n ∷ [] = ap (map (form_at es)) (take_more ns i n e) ∙ map-one (form_at es) (take i ns) n in
    record {
      whole = t.whole;
      forms = more_both h.forms t.forms;
      refusals = h.refusals ++ t.refusals;
      least = t.least ∙ ap (λ (o : Option ScriptRefusal). earliest o t.refusals) h.least ∙ sym (earliest-join None h.refusals t.refusals);
      judged = subst (λ (ss : List Source). JudgedTops nothing_yet ss (so_far new) (h.refusals ++ t.refusals)) (sym g) (tops_more h.judged (subst (λ (s : Source). JudgedTop (so_far mid) s (so_far new) t.refusals) f t.judged));
    }

-- what all forms mean
means_so : (es : List Entry) (t : Tops) (ns : List ℕ) (forms : List Form) → (h : HasForms es t ns) → map (form_at es) ns ≡ sources_of forms → Means forms (program_of (so_far t)) h.refusals
means_so es t ns forms h e = record {
  given = so_far t;
  judged = subst (λ (ss : List Source). JudgedTops nothing_yet ss (so_far t) h.refusals) e h.judged;
  shown = refl;
}

same_program : {forms : List Form} {p q : tree.Program} {rs ss : List ScriptRefusal} → Means forms p rs → Means forms q ss → p ≡ q
same_program m n = let s = one_judged_tops m.judged n.judged in m.shown ∙ ap program_of s.given ∙ sym n.shown

same_refusals : {forms : List Form} {p q : tree.Program} {rs ss : List ScriptRefusal} → Means forms p rs → Means forms q ss → rs ≡ ss
same_refusals m n = let s = one_judged_tops m.judged n.judged in s.refused

-- what the compiler answers of what was taken
abbrev pub IsFinished : Tops → Result Program CompileStop → Type 0
IsFinished t (Ok program) = (seen program ≡ program_of (so_far t)) × (t.machine.least.found ≡ None)
IsFinished t (Err Memory) = Unit {0}
IsFinished t (Err (Refused r)) = t.machine.least.found ≡ Some r

pub is_finished : (t : Tops) (result : Result Program CompileStop) → IfOk result (λ program. (seen program ≡ program_of (so_far t)) × (t.machine.least.found ≡ None)) → ((r : ScriptRefusal) → result ≡ Err (Refused r) → t.machine.least.found ≡ Some r) → IsFinished t result
is_finished t (Ok program) a b = a
is_finished t (Err Memory) a b = tt
is_finished t (Err (Refused r)) a b = b r refl

module _ (es : List Entry) (t : Tops) (ns : List ℕ) (forms : List Form) (h : HasForms es t ns) (e : map (form_at es) ns ≡ sources_of forms) where
  pub compiled_found : (result : Result Program CompileStop) → IsFinished t result → IfOk result (λ program. Means forms (seen program) [])
  compiled_found (Ok program) f =
      let m : Means forms (program_of (so_far t)) h.refusals = means_so es t ns forms h e in
      let none : h.refusals ≡ [] = none_refused h.refusals (sym h.least ∙ f.1) in
      subst (λ (p : tree.Program). Means forms p []) (sym f.0) (subst (λ (rs : List ScriptRefusal). Means forms (program_of (so_far t)) rs) none m)
  compiled_found (Err stop) f = tt

  pub compiled_closed : (result : Result Program CompileStop) → IsFinished t result → IfOk result (λ program. IsClosedProgram (seen program))
  compiled_closed (Ok program) f = means_closed forms (seen program) [] (compiled_found (Ok program) f)
  compiled_closed (Err stop) f = tt

  least_there : (r : ScriptRefusal) → t.machine.least.found ≡ Some r → IsLeast r h.refusals
  least_there r f = least_refused h.refusals r (sym h.least ∙ f)

  pub compiled_only : (result : Result Program CompileStop) → IsFinished t result → (program : tree.Program) → Means forms program [] → Gives result (Ok program)
  compiled_only (Ok p) f program m = ap (λ (q : tree.Program). Ok q) (same_program m (means_so es t ns forms h e) ∙ sym f.0)
  compiled_only (Err Memory) f program m = tt
  compiled_only (Err (Refused r)) f program m =
      let none : h.refusals ≡ [] = same_refusals (means_so es t ns forms h e) m in
      absurd (least_of_none r (subst (λ (rs : List ScriptRefusal). IsLeast r rs) none (least_there r f)))

  pub compiled_refused : (result : Result Program CompileStop) → IsFinished t result → (r : ScriptRefusal) → result ≡ Err (Refused r) → IsRefusal forms r
  compiled_refused result f r q =
      let g : t.machine.least.found ≡ Some r = subst (λ (x : Result Program CompileStop). IsFinished t x) q f in
      record { program = program_of (so_far t); refusals = h.refusals; means = means_so es t ns forms h e; least = least_there r g }

  pub compiled_refuses : (result : Result Program CompileStop) → IsFinished t result → (r : ScriptRefusal) → IsRefusal forms r → Gives result (Err r)
  compiled_refuses (Ok p) f r i =
      let none : h.refusals ≡ [] = none_refused h.refusals (sym h.least ∙ f.1) in
      let all : i.refusals ≡ h.refusals = same_refusals i.means (means_so es t ns forms h e) in
      absurd (least_of_none r (subst (λ (rs : List ScriptRefusal). IsLeast r rs) (all ∙ none) i.least))
  compiled_refuses (Err Memory) f r i = tt
  compiled_refuses (Err (Refused q)) f r i =
      let all : i.refusals ≡ h.refusals = same_refusals i.means (means_so es t ns forms h e) in
      ap (λ (x : ScriptRefusal). Err x) (one_least r q h.refusals (subst (λ (rs : List ScriptRefusal). IsLeast r rs) all i.least) (least_there q f))

-- all forms were taken, and their numbers stand for the forms of the reader
pub record HasAll (es : List Entry) (t : Tops) (ns : List ℕ) (forms : List Form) : Type 0 where
  pub taken : HasForms es t ns
  pub stand : map (form_at es) ns ≡ sources_of forms

pub has_all : (old es : List Entry) (t : Tops) (ns ms : List ℕ) (k : ℕ) (forms : List Form) → AreAdded old es ms (sources_of forms) → ns ≡ ms → HasForms es t (take k ns) → length ns ≤ k → HasAll es t ns forms
has_all old es t ns ms k forms a e h l = record {
  taken = subst (λ (xs : List ℕ). HasForms es t xs) (take_all k ns l) h;
  stand = ap (map (form_at es)) e ∙ a.stand;
}
