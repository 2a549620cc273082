-- The ledger of a lawful book at rest in names.
use Rattle.std.proofs.Common.{◌≡◌, ℕ, zero, suc, ◌+◌, ◌-◌, ◌<◌, Bool, true, false, List, [], ◌∷◌, ◌++◌, length, Option, Some, None, refl, ap, sym, subst, ◌∙◌, arith}
use Rattle.std.specs.Prelude.{slice_get}
use Rattle.seq_values.specs.declared.value.Value.{Value as Coded}
use Rattle.seq_values.specs.Model.{Value, Values, list, nil, cell, cons, chunk, vector, vec_seq, Outcome, gave}
use Rattle.seq_values.specs.Plain.{plain, plains}
use Rattle.clj_script.specs.Trees.{Expr, Top, def, defn, prn, ledger, Program}
use Rattle.seq_plan.specs.Plan.{Rules}
use Rattle.seq_plan.specs.Alike.{Likeness, by, Like, like_nil, like_bool, like_int, like_keyword, like_text, like_vector, like_function, like_reduced, like_cell, like_empty, like_cons, like_chunk, like_range, like_vec_seq, LikeAll, LikeList, like_end, like_item, LikeOutcome, like_gave, like_threw}
use Rattle.seq_plan.proofs.AlikeNodes.{like-list, like-length}
use Rattle.cell_book.specs.declared.cell.State.TheVariants as S
use Rattle.cell_book.specs.declared.cell.Cell.{Cell}
use Rattle.cell_book.specs.Account.{Account, cell_at}
use Rattle.cell_book.specs.Counts.{totals_of}
use Rattle.cell_book.specs.Readers.{value_in, done_in}
use Rattle.seq_meaning.specs.Names.{Name}
use Rattle.seq_meaning.specs.Gives.{Gives, IsNoDef, ledger_none, Before, other_before}
use Rattle.seq_meaning.specs.Counts.{MadeBy, Realised, Failed, HasSize}
use Rattle.seq_meaning.specs.Referred.{seen_of, referred}
use Rattle.seq_table.specs.Fronts.{HoldsNone, no_bool, no_int, no_keyword, no_text, no_function, no_reduced, Front, front_nil, front_empty, front_vector, front_range, front_vec_seq, front_cons, front_chunk, front_behind, front_unrealised, front_no_list}
use Rattle.seq_table.specs.Outputs.{text_of, is_listed, definitions, front_line, totals_line, FrontLines, no_lines, line_of, no_line_of, Ledger, ledger_of, Line, line_of_ledger}
use Rattle.seq_lawful.specs.Sites.{own_name}
use Rattle.seq_lawful.specs.Lawful.{CellName, called, GivesSo, gives_so, Lawful}
use Rattle.seq_lawful.specs.Rest.{AtRest, HasDone, has_done}
use Rattle.seq_lawful.specs.RestLaws.{NamesAtRest, CountedAtRest, CellGives}
use Rattle.seq_ledger.specs.Walks.{IsDone, Shows, FrontIn}
use Rattle.seq_ledger.specs.Ledgers.{of_defs, LineIn, listed, unlisted, LinesIn, no_lines as none_in, one_more, LedgerIn, defined_by}
use Rattle.seq_ledger.proofs.Lines.{reads_alike}
use Rattle.lawful_ledger.proofs.Ends.{cell_of}

-- ## The front of a like value

module _ {C D : Type 0} {R : Likeness C D} {P : C → Type 0} {Q : D → Type 0} {S : C → Value C → Type 0} {T : D → Value D → Type 0}
    (same : (c : C) (d : D) → R.same c d → (P c → Q d) × (Q d → P c))
    (shows : (c : C) (d : D) (v : Value C) → R.same c d → S c v → (w : Value D) × T d w × Like R v w) where
  many : {xs : Values C} {ys : Values D} → LikeAll R xs ys → length (list xs) ≡ length (list ys)
  many h = like-length (like-list h)

  like_front : {v : Value C} {w : Value D} {n : ℕ} {b : Bool} → Front P S v n b → Like R v w → Front Q T w n b
  like_front front_nil like_nil = front_nil
  like_front front_empty like_empty = front_empty
  like_front front_vector (like_vector {ys = ys} h) = subst (λ k. Front Q T (vector ys) k true) (sym (many h)) front_vector
  like_front front_range (like_range f) = front_range
  like_front front_vec_seq (like_vec_seq {ys = ys} {at = at} f h) = subst (λ k. Front Q T (vec_seq ys at) k true) (ap (λ k. k - at) (sym (many h))) front_vec_seq
  like_front (front_cons {n = n} {ended = b} g) (like_cons {ys = ys} {s = s} f h l) = subst (λ k. Front Q T (cons ys s) (k + n) b) (sym (many h)) (front_cons (like_front g l))
  like_front (front_chunk {n = n} {ended = b} g) (like_chunk {ys = ys} {s = s} f h l) = subst (λ k. Front Q T (chunk ys s) (k + n) b) (sym (many h)) (front_chunk (like_front g l))
  like_front (front_behind {v = v} p s g) (like_cell r) = let u = shows _ _ v r s in front_behind ((same _ _ r).0 p) u.1 (like_front g u.2)
  like_front (front_unrealised n) (like_cell r) = front_unrealised (λ q. n ((same _ _ r).1 q))
  like_front (front_no_list no_bool) like_bool = front_no_list no_bool
  like_front (front_no_list no_int) like_int = front_no_list no_int
  like_front (front_no_list no_keyword) like_keyword = front_no_list no_keyword
  like_front (front_no_list no_text) like_text = front_no_list no_text
  like_front (front_no_list no_function) (like_function h) = front_no_list no_function
  like_front (front_no_list no_reduced) (like_reduced h) = front_no_list no_reduced
  like_front (front_no_list h) like_nil = elim h [ ]
  like_front (front_no_list h) like_empty = elim h [ ]
  like_front (front_no_list h) (like_vector l) = elim h [ ]
  like_front (front_no_list h) (like_range f) = elim h [ ]
  like_front (front_no_list h) (like_vec_seq f l) = elim h [ ]
  like_front (front_no_list h) (like_cons f l m) = elim h [ ]
  like_front (front_no_list h) (like_chunk f l m) = elim h [ ]
  like_front (front_no_list h) (like_cell r) = elim h [ ]

like_listed : {R : Likeness ℕ Name} {v : Value ℕ} {w : Value Name} → Like R v w → is_listed v ≡ is_listed w
like_listed like_nil = refl
like_listed like_bool = refl
like_listed like_int = refl
like_listed like_keyword = refl
like_listed like_text = refl
like_listed (like_vector h) = refl
like_listed (like_function h) = refl
like_listed (like_reduced h) = refl
like_listed (like_cell r) = refl
like_listed like_empty = refl
like_listed (like_cons f h l) = refl
like_listed (like_chunk f h l) = refl
like_listed (like_range f) = refl
like_listed (like_vec_seq f h) = refl

-- ## Definitions

-- the same names, with like values
data LikeDefs (R : Likeness ℕ Name) : List (List ℕ × Value ℕ) → List (List ℕ × Value Name) → Type 0 where
  no_defs : LikeDefs R [] []
  one_def : {name : List ℕ} {v : Value ℕ} {w : Value Name} {xs : List (List ℕ × Value ℕ)} {ys : List (List ℕ × Value Name)} → Like R v w → LikeDefs R xs ys → LikeDefs R ((name, v) ∷ xs) ((name, w) ∷ ys)

like_definitions : {R : Likeness ℕ Name} (names : List (List ℕ)) (tops : List Top) (vs : List (Value ℕ)) {ws : List (Value Name)} → LikeList R (referred tops vs) ws → LikeDefs R (definitions names tops vs) (definitions names tops ws)
like_definitions names [] vs like_end = no_defs
like_definitions names (t ∷ tops) [] like_end = none t
  where
    none : {R : Likeness ℕ Name} (t : Top) → LikeDefs R (definitions names (t ∷ tops) []) (definitions names (t ∷ tops) [])
    none (def name e) = no_defs
    none defn = no_defs
    none (prn e) = no_defs
    none ledger = no_defs
like_definitions names (def name e ∷ tops) (v ∷ vs) (like_item h l) = one_def h (like_definitions names tops vs l)
like_definitions names (defn ∷ tops) (v ∷ vs) (like_item h l) = like_definitions names tops vs l
like_definitions names (prn e ∷ tops) (v ∷ vs) (like_item h l) = like_definitions names tops vs l
like_definitions names (ledger ∷ tops) (v ∷ vs) (like_item h l) = like_definitions names tops vs l

nothing_left : (names : List (List ℕ)) (ts : List Top) → definitions {C = Name} names ts [] ≡ []
nothing_left names [] = refl
nothing_left names (def name x ∷ ts) = refl
nothing_left names (defn ∷ ts) = refl
nothing_left names (prn x ∷ ts) = refl
nothing_left names (ledger ∷ ts) = refl

undefined_first : (names : List (List ℕ)) (tops : List Top) (s : Top) (w : Value Name) → s ≡ ledger → definitions names (s ∷ tops) (w ∷ []) ≡ definitions names (s ∷ tops) []
undefined_first names tops (def name x) w p = absurd cc
undefined_first names tops defn w p = absurd cc
undefined_first names tops (prn x) w p = absurd cc
undefined_first names tops ledger w p = nothing_left names tops

-- the value of a form that defines nothing
undefined_more : (names : List (List ℕ)) (tops : List Top) (ws : List (Value Name)) → slice_get tops (length ws) ≡ Some ledger → definitions names tops (ws ++ nil ∷ []) ≡ definitions names tops ws
undefined_more names [] ws e = absurd cc
undefined_more names (t ∷ tops) [] e = undefined_first names tops t nil (cc)
undefined_more names (def name x ∷ tops) (w ∷ ws) e = ap (λ l. (text_of (slice_get names name), w) ∷ l) (undefined_more names tops ws e)
undefined_more names (defn ∷ tops) (w ∷ ws) e = undefined_more names tops ws e
undefined_more names (prn x ∷ tops) (w ∷ ws) e = undefined_more names tops ws e
undefined_more names (ledger ∷ tops) (w ∷ ws) e = undefined_more names tops ws e

-- ## The lines in names

module _ (names_rest : NamesAtRest) (counted : CountedAtRest) (gives : CellGives)
    (rules : Rules Name) (program : Program) (limit : ℕ) (a : Account) (law : Lawful rules program limit a) (rest : AtRest a) where
  done_is_realised : (c : ℕ) (n : Name) → CellName rules program limit a own_name c n → IsDone a c → Realised rules program limit (length a.forms) n
  done_is_realised c n name (u, e) = let p = cell_of (cell_at a c) u e in (names_rest rules program limit a law rest n).1.0 (has_done p.1 p.2 name)

  in_state : (o : Option Cell) (p : Cell) (v : Coded) → o ≡ Some p → p.state ≡ S.Done v → value_in o ≡ Some v
  in_state o p v e s = ap value_in e ∙ ap done_in s

  realised_is_done : (c : ℕ) (n : Name) → CellName rules program limit a own_name c n → Realised rules program limit (length a.forms) n → IsDone a c
  realised_is_done c n name r = at ((names_rest rules program limit a law rest n).1.1 r)
    where
      at : HasDone rules program limit a n → IsDone a c
      at (has_done {id = id} {p = p} {v = v} e s other) = let same : id ≡ c = law.one_cell_each id c n other name in (v, subst (λ i. value_in (cell_at a i) ≡ Some v) same (in_state (cell_at a id) p v e s))

  shown : (c : ℕ) (n : Name) (v : Value ℕ) → CellName rules program limit a own_name c n → Shows a c v → (w : Value Name) × Gives rules program limit n (gave w) × Like (called rules program limit a own_name) v w
  shown c n v name (u, e, is) =
      let p = cell_of (cell_at a c) u e in
      at ((gives rules program limit a law own_name c p.0 n p.1 name).0 u p.2)
    where
      like_value : {o : Outcome ℕ} {r : Outcome Name} → o ≡ gave (plain u) → Gives rules program limit n r → LikeOutcome (called rules program limit a own_name) o r → (w : Value Name) × Gives rules program limit n (gave w) × Like (called rules program limit a own_name) v w
      like_value z g (like_gave {v = x} {w = w} l) = let d : x ≡ v = (let y : x ≡ plain u = cc in y ∙ sym is) in (w, g, subst (λ i. Like (called rules program limit a own_name) i w) d l)
      like_value z g like_threw = absurd cc

      at : GivesSo rules program limit a own_name n (gave (plain u)) → (w : Value Name) × Gives rules program limit n (gave w) × Like (called rules program limit a own_name) v w
      at (gives_so g l) = like_value refl g l

  fronts : {v : Value ℕ} {w : Value Name} {n : ℕ} {b : Bool} → FrontIn a v n b → Like (called rules program limit a own_name) v w → Front (Realised rules program limit (length a.forms)) (λ c u. Gives rules program limit c (gave u)) w n b
  fronts f l = like_front (λ c n r. (done_is_realised c n r, realised_is_done c n r)) (λ c n v r s. shown c n v r s) f l

  lines : {ds : List (List ℕ × Value ℕ)} {es : List (List ℕ × Value Name)} {text : List ℕ} → LinesIn a ds text → LikeDefs (called rules program limit a own_name) ds es → FrontLines rules program limit (length a.forms) es text
  lines none_in no_defs = no_lines
  lines (one_more (listed p f) more) (one_def h l) = line_of (sym (like_listed h) ∙ p) (fronts f h) (lines more l)
  lines (one_more (unlisted p) more) (one_def h l) = no_line_of (sym (like_listed h) ∙ p) (lines more l)

  pub ledger_line : (outcomes : List Coded) → length a.forms ≡ suc (length outcomes) → (defs : List (Value Name)) → Before rules program limit (length outcomes) defs → length defs ≡ length outcomes → LikeList (called rules program limit a own_name) (referred program.tops (plains outcomes)) defs → slice_get program.tops (length outcomes) ≡ Some ledger → (text : List ℕ) → LedgerIn a program (of_defs program.tops (plains outcomes)) (totals_of a.cells) text → Line rules program limit (suc (length outcomes)) text
  ledger_line outcomes long defs before many like top text l =
      let k = length a.forms in
      let sizes = counted rules program limit a law rest in
      let ds : definitions program.names program.tops (plains outcomes) ≡ defined_by program.names program.tops (of_defs program.tops (plains outcomes)) = reads_alike program.names program.tops (plains outcomes) in
      let here : LinesIn a (definitions program.names program.tops (plains outcomes)) l.lines = subst (λ x. LinesIn a x l.lines) (sym ds) l.of_definitions in
      let now : FrontLines rules program limit k (definitions program.names program.tops defs) l.lines = lines here (like_definitions program.names program.tops (plains outcomes) like) in
      let at : slice_get program.tops (length defs) ≡ Some ledger = ap (slice_get program.tops) many ∙ top in
      let all : FrontLines rules program limit k (definitions program.names program.tops (defs ++ nil ∷ [])) l.lines = subst (λ x. FrontLines rules program limit k x l.lines) (sym (undefined_more program.names program.tops defs at)) now in
      let before_k : Before rules program limit k (defs ++ nil ∷ []) = subst (λ i. Before rules program limit i (defs ++ nil ∷ [])) (sym long) (other_before before top ledger_none refl) in
      let whole : Ledger rules program limit k text = subst (λ t. Ledger rules program limit k t) (sym l.whole) (ledger_of before_k all sizes.0 sizes.1 sizes.2) in
      line_of_ledger top (subst (λ i. Ledger rules program limit i text) long whole)
