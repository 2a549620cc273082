-- What a form at the top asks for is in good order: names are symbols, and parameters are vectors.
use Rattle.std.proofs.Common.{◌≡◌, ℕ, ◌<◌, true, List, [], ◌∷◌, length, map, Option, Some, None, refl, sym, subst, arith, zero, suc}
use Rattle.std.specs.Prelude.{slice_index_or}
use Rattle.clj_script.specs.declared.reading.Clause.{Clause as Kept}
use Rattle.clj_script.specs.declared.source.Entry.{Entry}
use Rattle.clj_script.specs.declared.top_form.TopForm.{TopForm}
use Rattle.clj_script.specs.declared.words.Reserved.{Reserved}
use Rattle.clj_script.specs.declared.words.Reserved.TheVariants as reserved
use Rattle.clj_script.specs.declared.words.Special.TheVariants as special
use Rattle.clj_script.specs.declared.thread.Way.{Way}
use Rattle.clj_script.specs.declared.thread.Way.TheVariants.{Second, Last}
use Rattle.clj_script.specs.Entries.{form_at}
use Rattle.clj_script.specs.Reads.{as_top, clause_at}
use Rattle.clj_script.specs.Readings.{Clause, is_symbol, is_vector, heading, clause_of_pair, clause_of_list, and_all, clauses_of_lists, clauses_by_lists, clauses_behind, clauses}
use Rattle.clj_script.specs.Scripts.{TopReading, stray, stray_list, wrong, stands_for, def_of, defn_of, prn_of, ledger_of, top_reading, list_at_top, headed_at_top, special_at_top, threaded_at_top, defn_with, def_with}
use Rattle.clj_script.specs.Sources.{Source, atom, symbol, round, square, listed}
use Rattle.clj_script.specs.Trees.{nil_literal, bool_literal, int_literal, keyword_literal, text_literal, empty_literal}

-- the parameters of all clauses are vectors
abbrev pub AreVectors : List Clause → Type 0
AreVectors [] = Unit {0}
AreVectors (c ∷ cs) = (is_vector c.parameters ≡ true) × AreVectors cs

abbrev VectorsIn : Option (List Clause) → Type 0
VectorsIn None = Unit {0}
VectorsIn (Some cs) = AreVectors cs

abbrev VectorIn : Option Clause → Type 0
VectorIn None = Unit {0}
VectorIn (Some c) = is_vector c.parameters ≡ true

abbrev pub IsProper : TopReading → Type 0
IsProper (def_of name value) = is_symbol name ≡ true
IsProper (defn_of name cs) = (is_symbol name ≡ true) × AreVectors cs
IsProper stray = Unit {0}
IsProper stray_list = Unit {0}
IsProper wrong = Unit {0}
IsProper (stands_for t steps) = Unit {0}
IsProper (prn_of value) = Unit {0}
IsProper ledger_of = Unit {0}

vector_of_pair : (whole : Source) (ss : List Source) → VectorIn (clause_of_pair whole ss)
vector_of_pair whole [] = tt
vector_of_pair whole (square p ss ∷ []) = tt
vector_of_pair whole (square p ss ∷ body ∷ []) = refl
vector_of_pair whole (square p ss ∷ body ∷ s ∷ more) = tt
vector_of_pair whole (atom p l ∷ more) = tt
vector_of_pair whole (symbol p name ∷ more) = tt
vector_of_pair whole (round p ss ∷ more) = tt

vector_of_list : (s : Source) → VectorIn (clause_of_list s)
vector_of_list (round p ss) = vector_of_pair (round p ss) (listed ss)
vector_of_list (atom p l) = tt
vector_of_list (symbol p name) = tt
vector_of_list (square p ss) = tt

vectors_of_both : (o : Option Clause) (os : Option (List Clause)) → VectorIn o → VectorsIn os → VectorsIn (and_all o os)
vectors_of_both (Some c) (Some cs) v w = (v, w)
vectors_of_both (Some c) None v w = tt
vectors_of_both None os v w = tt

vectors_of_lists : (ss : List Source) → VectorsIn (clauses_of_lists ss)
vectors_of_lists [] = tt
vectors_of_lists (s ∷ ss) = vectors_of_both (clause_of_list s) (clauses_of_lists ss) (vector_of_list s) (vectors_of_lists ss)

vectors_by_lists : (ss : List Source) → VectorsIn (clauses_by_lists ss)
vectors_by_lists [] = tt
vectors_by_lists (s ∷ ss) = vectors_of_lists (s ∷ ss)

vectors_behind : (ss : List Source) → VectorsIn (clauses_behind ss)
vectors_behind [] = tt
vectors_behind (square p ss ∷ []) = vectors_by_lists (square p ss ∷ [])
vectors_behind (square p ss ∷ body ∷ []) = (refl, tt)
vectors_behind (square p ss ∷ body ∷ s ∷ more) = vectors_by_lists (square p ss ∷ body ∷ s ∷ more)
vectors_behind (atom p l ∷ more) = vectors_by_lists (atom p l ∷ more)
vectors_behind (symbol p name ∷ more) = vectors_by_lists (symbol p name ∷ more)
vectors_behind (round p ss ∷ more) = vectors_by_lists (round p ss ∷ more)

vectors : (ss : List Source) → VectorsIn (clauses ss)
vectors [] = vectors_behind []
vectors (atom p (text_literal t) ∷ ss) = vectors_behind ss
vectors (atom p nil_literal ∷ ss) = vectors_behind (atom p nil_literal ∷ ss)
vectors (atom p (bool_literal b) ∷ ss) = vectors_behind (atom p (bool_literal b) ∷ ss)
vectors (atom p (int_literal z) ∷ ss) = vectors_behind (atom p (int_literal z) ∷ ss)
vectors (atom p (keyword_literal name) ∷ ss) = vectors_behind (atom p (keyword_literal name) ∷ ss)
vectors (atom p empty_literal ∷ ss) = vectors_behind (atom p empty_literal ∷ ss)
vectors (symbol p name ∷ ss) = vectors_behind (symbol p name ∷ ss)
vectors (round p items ∷ ss) = vectors_behind (round p items ∷ ss)
vectors (square p items ∷ ss) = vectors_behind (square p items ∷ ss)

proper_defn_with : (name : Source) (o : Option (List Clause)) → is_symbol name ≡ true → VectorsIn o → IsProper (defn_with name o)
proper_defn_with name None e v = tt
proper_defn_with name (Some cs) e v = (e, v)

proper_defn : (args : List Source) → IsProper (special_at_top special.Defn args)
proper_defn [] = tt
proper_defn (symbol p name ∷ forms) = proper_defn_with (symbol p name) (clauses forms) refl (vectors forms)
proper_defn (atom p l ∷ forms) = tt
proper_defn (round p ss ∷ forms) = tt
proper_defn (square p ss ∷ forms) = tt

proper_def_with : (name value : Source) → IsProper (def_with name value)
proper_def_with (symbol p name) value = refl
proper_def_with (atom p l) value = tt
proper_def_with (round p ss) value = tt
proper_def_with (square p ss) value = tt

proper_def : (args : List Source) → IsProper (special_at_top special.Def args)
proper_def [] = tt
proper_def (name ∷ []) = tt
proper_def (name ∷ value ∷ []) = proper_def_with name value
proper_def (name ∷ value ∷ s ∷ args) = tt

proper_prn : (args : List Source) → IsProper (special_at_top special.Prn args)
proper_prn [] = tt
proper_prn (value ∷ []) = tt
proper_prn (value ∷ s ∷ args) = tt

proper_ledger : (args : List Source) → IsProper (special_at_top special.Ledger args)
proper_ledger [] = tt
proper_ledger (s ∷ args) = tt

proper_threaded : (way : Way) (args : List Source) → IsProper (threaded_at_top way args)
proper_threaded way [] = tt
proper_threaded way (x ∷ steps) = tt

proper_headed : (o : Option Reserved) (args : List Source) → IsProper (headed_at_top o args)
proper_headed None args = tt
proper_headed (Some reserved.Outside) args = tt
proper_headed (Some (reserved.Special special.Def)) args = proper_def args
proper_headed (Some (reserved.Special special.Defn)) args = proper_defn args
proper_headed (Some (reserved.Special special.Prn)) args = proper_prn args
proper_headed (Some (reserved.Special special.Ledger)) args = proper_ledger args
proper_headed (Some (reserved.Special special.Let)) args = tt
proper_headed (Some (reserved.Special special.If)) args = tt
proper_headed (Some (reserved.Special special.When)) args = tt
proper_headed (Some (reserved.Special special.And)) args = tt
proper_headed (Some (reserved.Special special.Or)) args = tt
proper_headed (Some (reserved.Special special.LazySeq)) args = tt
proper_headed (Some (reserved.Special special.ThreadSecond)) args = proper_threaded Second args
proper_headed (Some (reserved.Special special.ThreadLast)) args = proper_threaded Last args

proper_list : (ss : List Source) → IsProper (list_at_top ss)
proper_list [] = tt
proper_list (head ∷ args) = proper_headed (heading head) args

proper : (s : Source) → IsProper (top_reading s)
unfolding top_reading
proper (round p items) = proper_list (listed items)
proper (atom p l) = tt
proper (symbol p name) = tt
proper (square p items) = tt

-- what the compiler reads is in good order
pub proper_read : (s : Source) (r : TopReading) → r ≡ top_reading s → IsProper r
proper_read s r e = subst (λ (q : TopReading). IsProper q) (sym e) (proper s)

pub each_vector : (es : List Entry) (cs : List Kept) → AreVectors (map (clause_at es) cs) → (k : ℕ) (d : Kept) → k < length cs → is_vector (form_at es (slice_index_or cs k d).parameters) ≡ true
each_vector es [] v k d h = absurd (omega arith)
each_vector es (c ∷ cs) v zero d h = v.0
each_vector es (c ∷ cs) v (suc k) d h = each_vector es cs v.1 k d (omega arith)

-- what is read of a form, at the forms as they are and as the variant that it is
pub read_as : (es fs : List Entry) (o r : TopForm) (form : ℕ) → as_top es o ≡ top_reading (form_at es form) → es ≡ fs → o ≡ r → as_top fs r ≡ top_reading (form_at fs form)
read_as es fs o r form e f g = subst (λ (xs : List Entry). as_top xs r ≡ top_reading (form_at xs form)) f (subst (λ (x : TopForm). as_top es x ≡ top_reading (form_at es form)) g e)
