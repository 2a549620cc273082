-- The lines of definitions, one after the other.
use Rattle.std.proofs.Common.{◌≡◌, ℕ, zero, suc, ◌+◌, ◌<◌, ◌≤◌, Bool, true, false, List, [], ◌∷◌, ◌++◌, drop, length, map, Option, Some, None, refl, ap, sym, subst, ◌∙◌, arith, add-one, append_assoc}
use Rattle.std.proofs.lemmas.List.{append-nil}
use Rattle.std.specs.Prelude.{slice_get, OnOk, Result, Ok, Err}
use Rattle.seq_values.specs.declared.value.Value.{Value as Coded}
use Rattle.seq_values.specs.Model.{Value}
use Rattle.seq_values.specs.Plain.{plain, plains}
use Rattle.clj_script.specs.Trees.{Expr, Top, def, defn, prn, ledger}
use Rattle.cell_book.specs.Account.{Account}
use Rattle.seq_meaning.specs.Gives.{IsNoDef, defn_none, prn_none, ledger_none}
use Rattle.seq_vector.specs.declared.share.NoMemory.{NoMemory}
use Rattle.seq_table.specs.Outputs.{text_of, definitions, is_listed, front_line, totals_line}
use Rattle.seq_ledger.specs.declared.state.Front.{Front}
use Rattle.seq_ledger.specs.Walks.{FrontIn, ComesToEnd}
use Rattle.seq_ledger.proofs.Walking.{one_front}
use Rattle.seq_ledger.specs.Ledgers.{defined_by, of_defs, OneText, LineIn, listed, unlisted, LinesIn, no_lines, one_more, IsMore, ReadsAlike}

-- ## Two readings of the definitions

nothing_defined : (names : List (List ℕ)) (ts : List Top) → defined_by {C = ℕ} names ts [] ≡ []
nothing_defined names [] = refl
nothing_defined names (def name e ∷ ts) = refl
nothing_defined names (defn ∷ ts) = nothing_defined names ts
nothing_defined names (prn e ∷ ts) = nothing_defined names ts
nothing_defined names (ledger ∷ ts) = nothing_defined names ts

pub reads_alike : ReadsAlike
reads_alike names [] vs = refl
reads_alike names (def name e ∷ tops) (v ∷ vs) = ap (λ l. (text_of (slice_get names name), v) ∷ l) (reads_alike names tops vs)
reads_alike names (defn ∷ tops) (v ∷ vs) = reads_alike names tops vs
reads_alike names (prn e ∷ tops) (v ∷ vs) = reads_alike names tops vs
reads_alike names (ledger ∷ tops) (v ∷ vs) = reads_alike names tops vs
reads_alike names (def name e ∷ tops) [] = refl
reads_alike names (defn ∷ tops) [] = sym (nothing_defined names tops)
reads_alike names (prn e ∷ tops) [] = sym (nothing_defined names tops)
reads_alike names (ledger ∷ tops) [] = sym (nothing_defined names tops)

-- ## Forms and values, one by one

drop_here : {A : Type 0} (xs : List A) (i : ℕ) (x : A) → slice_get xs i ≡ Some x → drop i xs ≡ x ∷ drop (suc i) xs
drop_here [] i x e = absurd cc
drop_here (y ∷ ys) zero x e = let p : y ≡ x = cc in ap (λ z. z ∷ ys) p
drop_here (y ∷ ys) (suc i) x e = drop_here ys i x e

pub drop_at : {A : Type 0} (xs : List A) (i : ℕ) (x : A) → slice_get xs i ≡ Some x → drop i xs ≡ x ∷ drop (i + 1) xs
drop_at xs i x e = rw add-one (drop_here xs i x e)

pub drop_past : {A : Type 0} (xs : List A) (i : ℕ) → slice_get xs i ≡ None → drop i xs ≡ []
drop_past [] zero e = refl
drop_past [] (suc i) e = refl
drop_past (y ∷ ys) zero e = absurd cc
drop_past (y ∷ ys) (suc i) e = drop_past ys i e

drop_all : {A : Type 0} (xs : List A) (i : ℕ) → length xs ≤ i → drop i xs ≡ []
drop_all [] zero e = refl
drop_all [] (suc i) e = refl
drop_all (y ∷ ys) zero e = absurd (omega arith)
drop_all (y ∷ ys) (suc i) e = drop_all ys i (omega arith)

some_is : {A : Type 0} (x y : A) → Some x ≡ Some y → x ≡ y
some_is x y e = cc

pub plain_at : (xs : List Coded) (i : ℕ) (v : Coded) → slice_get xs i ≡ Some v → slice_get (plains xs) i ≡ Some (plain v)
plain_at [] i v e = absurd cc
plain_at (x ∷ xs) zero v e = ap (λ y. Some (plain y)) (some_is x v e)
plain_at (x ∷ xs) (suc i) v e = plain_at xs i v e

pub plain_past : (xs : List Coded) (i : ℕ) → slice_get xs i ≡ None → slice_get (plains xs) i ≡ None
plain_past [] i e = refl
plain_past (x ∷ xs) zero e = absurd cc
plain_past (x ∷ xs) (suc i) e = plain_past xs i e

-- ## The lines so far

module _ (a : Account) (names : List (List ℕ)) (tops : List Top) (vs : List (Value ℕ)) where
  -- With the lines of the definitions that are left these are all the lines: so many forms and values are done.
  pub record SoFar (old new : List ℕ) (forms done : ℕ) : Type 0 where
    pub text : List ℕ
    pub is : new ≡ old ++ text
    pub goes : (bytes : List ℕ) → LinesIn a (defined_by names (drop forms tops) (drop done vs)) bytes → LinesIn a (defined_by names tops vs) (text ++ bytes)

  pub none_so_far : (l : List ℕ) → SoFar l l 0 0
  none_so_far l = record { text = []; is = sym (append-nil l); goes = λ bytes h. h }

  undefined : (t : Top) (ts : List Top) (us : List (Value ℕ)) → IsNoDef t → defined_by names (t ∷ ts) us ≡ defined_by names ts us
  undefined t ts us defn_none = refl
  undefined t ts us prn_none = refl
  undefined t ts us ledger_none = refl

  pub one_form_more : (old new : List ℕ) (forms done : ℕ) (t : Top) → slice_get tops forms ≡ Some t → IsNoDef t → SoFar old new forms done → SoFar old new (forms + 1) done
  one_form_more old new forms done t at none so =
      let left = drop done vs in
      let e : defined_by names (drop forms tops) left ≡ defined_by names (drop (forms + 1) tops) left = ap (λ ts. defined_by names ts left) (drop_at tops forms t at) ∙ undefined t (drop (forms + 1) tops) left none in
      record { text = so.text; is = so.is; goes = λ bytes h. so.goes bytes (subst (λ ds. LinesIn a ds bytes) (sym e) h) }

  pub one_line_more : (old mid new : List ℕ) (forms done name : ℕ) (e : Expr) (v : Value ℕ) → slice_get tops forms ≡ Some (def name e) → slice_get vs done ≡ Some v → IsMore (LineIn a (text_of (slice_get names name)) v) mid new → SoFar old mid forms done → SoFar old new (forms + 1) (done + 1)
  one_line_more old mid new forms done name e v at here (line, is_line, more) so =
      let ts = drop (forms + 1) tops in
      let us = drop (done + 1) vs in
      let p : defined_by names (drop forms tops) (drop done vs) ≡ (text_of (slice_get names name), v) ∷ defined_by names ts us = ap (λ x. defined_by names x (drop done vs)) (drop_at tops forms (def name e) at) ∙ ap (λ x. defined_by names (def name e ∷ ts) x) (drop_at vs done v here) in
      record {
        text = so.text ++ line;
        is = more ∙ (ap (λ x. x ++ line) so.is ∙ append_assoc old so.text line);
        goes = λ bytes h. subst (λ x. LinesIn a (defined_by names tops vs) x) (sym (append_assoc so.text line bytes)) (so.goes (line ++ bytes) (subst (λ ds. LinesIn a ds (line ++ bytes)) (sym p) (one_more is_line h)));
      }

  whole_text : (old new : List ℕ) (forms done : ℕ) → defined_by names (drop forms tops) (drop done vs) ≡ [] → SoFar old new forms done → IsMore (LinesIn a (defined_by names tops vs)) old new
  whole_text old new forms done e so =
      let all : LinesIn a (defined_by names tops vs) (so.text ++ []) = so.goes [] (subst (λ ds. LinesIn a ds []) (sym e) no_lines) in
      (so.text, subst (λ x. LinesIn a (defined_by names tops vs) x) (append-nil so.text) all, so.is)

  pub all_forms : (old new : List ℕ) (forms done : ℕ) → length tops ≤ forms → SoFar old new forms done → IsMore (LinesIn a (defined_by names tops vs)) old new
  all_forms old new forms done over so = whole_text old new forms done (ap (λ ts. defined_by names ts (drop done vs)) (drop_all tops forms over)) so

  pub all_values : (old new : List ℕ) (forms done name : ℕ) (e : Expr) → slice_get tops forms ≡ Some (def name e) → slice_get vs done ≡ None → SoFar old new forms done → IsMore (LinesIn a (defined_by names tops vs)) old new
  all_values old new forms done name e at past so = whole_text old new forms done (ap (λ x. defined_by names x (drop done vs)) (drop_at tops forms (def name e) at) ∙ ap (λ x. defined_by names (def name e ∷ drop (forms + 1) tops) x) (drop_past vs done past)) so

-- ## One line

pub no_line : (a : Account) (name : List ℕ) (v : Value ℕ) (l : List ℕ) (has : Bool) → has ≡ is_listed v → has ≡ false → IsMore (LineIn a name v) l l
no_line a name v l has is not = ([], unlisted (sym is ∙ not), sym (append-nil l))

pub its_line : (a : Account) (name text : List ℕ) (v : Value ℕ) (f : Front) (old new : List ℕ) (has : Bool) → has ≡ is_listed v → has ≡ true → FrontIn a v f.count f.ended → (r : Result (Unit {0}) NoMemory) → text ≡ name → OnOk r (new ≡ old ++ front_line text f.count f.ended) → OnOk r (IsMore (LineIn a name v) old new)
its_line a name text v f old new has is lists walk (Ok x) same more = (front_line name f.count f.ended, listed (sym is ∙ lists) walk, more ∙ ap (λ t. old ++ front_line t f.count f.ended) same)
its_line a name text v f old new has is lists walk (Err x) same more = tt

-- ## From the code's values

some_here : {A : Type 0} (o p : Option A) (x : A) → o ≡ Some x → o ≡ p → p ≡ Some x
some_here o p x e q = sym q ∙ e

-- a value that is to have a line comes to its end
pub ends_at : (Noted Now : Account → Type 0) (xs : List Coded) (i : ℕ) (v : Coded) → ((a : Account) → Noted a → Now a) → (a : Account) × Noted a × ((j : ℕ) (u : Coded) → slice_get xs j ≡ Some u → ComesToEnd a (plain u)) → slice_get xs i ≡ Some v → (a : Account) × Now a × ComesToEnd a (plain v)
ends_at Noted Now xs i v kept (a, n, all) e = (a, kept a n, all i v e)

-- ## One text

one_line : (a : Account) (name : List ℕ) (v : Value ℕ) (l k : List ℕ) → LineIn a name v l → LineIn a name v k → l ≡ k
one_line a name v l k (listed {n = n} {ended = e} x w) (listed {n = m} {ended = f} y z) = let o = one_front a w z in ap (λ i. front_line name i e) o.0 ∙ ap (λ i. front_line name m i) o.1
one_line a name v l k (unlisted x) (unlisted y) = refl
one_line a name v l k (listed x w) (unlisted y) = absurd cc
one_line a name v l k (unlisted x) (listed y z) = absurd cc

one_lines : (a : Account) (ds : List (List ℕ × Value ℕ)) (l k : List ℕ) → LinesIn a ds l → LinesIn a ds k → l ≡ k
one_lines a ds l k no_lines no_lines = refl
one_lines a ds l k (one_more {name = name} {v = v} {line = x} {bytes = xs} p ps) (one_more {line = y} {bytes = ys} q qs) = ap (λ i. i ++ xs) (one_line a name v x y p q) ∙ ap (λ i. y ++ i) (one_lines a _ xs ys ps qs)

pub one_text : OneText
one_text a program defs totals t u p q = p.whole ∙ (ap (λ l. l ++ totals_line totals.made totals.realised totals.failed) (one_lines a _ p.lines q.lines p.of_definitions q.of_definitions) ∙ sym q.whole)
