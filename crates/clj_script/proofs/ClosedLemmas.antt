-- What a form means names only what is there.
use Rattle.std.proofs.Common.{◌≡◌, ℕ, zero, suc, ◌+◌, ◌<◌, ◌≤◌, Bool, true, false, List, [], ◌∷◌, ◌++◌, length, Option, Some, None, Result, Ok, Err, slice_get, refl, ap, sym, subst, ◌∙◌, if◌then◌else◌, arith, length-append}
use Rattle.std.specs.Str.{bytes_eq}
use Rattle.clj_reader.specs.declared.place.Place.{Place}
use Rattle.seq_values.specs.declared.words.Builtin.{Builtin}
use Rattle.clj_script.specs.declared.definitions.Meaning.{Meaning}
use Rattle.clj_script.specs.declared.definitions.Meaning.TheVariants.{Form, Function}
use Rattle.clj_script.specs.declared.refusal.ScriptRefusal.{ScriptRefusal}
use Rattle.clj_script.specs.Words.{spelled, reserved_of, built_in_of}
use Rattle.clj_script.specs.Trees.{Expr, word, local, Exprs, exprs}
use Rattle.clj_script.specs.Sources.{Source}
use Rattle.clj_script.specs.Scopes.{Definitions, or_else, innermost_from, innermost, named, by_local, by_definition, by_word, meant, name_of}
use Rattle.clj_script.specs.Readings.{Reading, Clause}
use Rattle.clj_script.specs.Judgements.{Judged, JudgedList, JudgedAll, JudgedLet, of_atom, of_name, of_no_name, of_vector, of_list, of_nothing, of_refused, of_threading, of_call, of_let, of_if, of_if_alone, of_and, of_or, of_lazy_seq, of_none, of_more, of_body, of_pair}
use Rattle.clj_script.specs.Closed.{IsClosed, AreClosed, closed_literal, closed_word, closed_function, closed_defined, closed_local, closed_vector, closed_call, closed_let, closed_if, closed_and, closed_or, closed_lazy_seq, closed_none, closed_more}

-- ## Lists that go on

-- the second has each item of the first at its place
abbrev pub IsFront : {X : Type 0} → List X → List X → Type 0
IsFront {X = X} xs ys = (i : ℕ) (x : X) → slice_get xs i ≡ Some x → slice_get ys i ≡ Some x

pub front-append : {X : Type 0} (xs ys : List X) → IsFront xs (xs ++ ys)
front-append [] ys i x p = absurd cc
front-append (z ∷ xs) ys zero x p = p
front-append (z ∷ xs) ys (suc i) x p = front-append xs ys i x p

pub at_end : {X : Type 0} (xs : List X) (x : X) → slice_get (xs ++ x ∷ []) (length xs) ≡ Some x
at_end [] x = refl
at_end (y ∷ xs) x = at_end xs x

-- ## With more functions, bodies and definitions

module _ {f g : ℕ} {b c : List Expr} {P Q : ℕ → Type 0} (fs : f ≤ g) (bs : IsFront b c) (ps : (n : ℕ) → P n → Q n) where
  mutual
    pub more_closed : {n : ℕ} {e : Expr} → IsClosed f b P n e → IsClosed g c Q n e
    more_closed closed_literal = closed_literal
    more_closed closed_word = closed_word
    more_closed (closed_function h) = closed_function (omega (arith, h, fs))
    more_closed (closed_defined h) = closed_defined (ps _ h)
    more_closed (closed_local h) = closed_local h
    more_closed (closed_vector h) = closed_vector (more_all_closed h)
    more_closed (closed_call h k) = closed_call (more_closed h) (more_all_closed k)
    more_closed (closed_let h k) = closed_let (more_closed h) (more_closed k)
    more_closed (closed_if h k l) = closed_if (more_closed h) (more_closed k) (more_closed l)
    more_closed (closed_and h) = closed_and (more_all_closed h)
    more_closed (closed_or h) = closed_or (more_all_closed h)
    more_closed (closed_lazy_seq q h) = closed_lazy_seq (bs _ _ q) (more_closed h)

    pub more_all_closed : {n : ℕ} {es : Exprs} → AreClosed f b P n es → AreClosed g c Q n es
    more_all_closed closed_none = closed_none
    more_all_closed (closed_more h k) = closed_more (more_closed h) (more_all_closed k)

-- ## Names

abbrev pub MeansWell : ℕ → (ℕ → Type 0) → Meaning → Type 0
MeansWell f P (Form n) = P n
MeansWell f P (Function g) = g < f

-- what is defined is there
abbrev pub Defines : ℕ → (ℕ → Type 0) → Definitions → Type 0
Defines f P d = (name : List ℕ) (m : Meaning) → spelled d name ≡ Some m → MeansWell f P m

innermost_below : (k : ℕ) (ls : List (List ℕ)) (name : List ℕ) (n : ℕ) → innermost_from k ls name ≡ Some n → n < k + length ls
innermost_below k [] name n p = absurd cc
innermost_below k (l ∷ ls) name n p = chosen (innermost_from (k + 1) ls name) (bytes_eq l name) (λ m q. innermost_below (k + 1) ls name m q) p
  where
    chosen : (inner : Option ℕ) (b : Bool) → ((m : ℕ) → inner ≡ Some m → m < k + 1 + length ls) → or_else inner (if b then Some k else None) ≡ Some n → n < k + length (l ∷ ls)
    chosen (Some m) b h q = let e : m ≡ n = cc in omega (arith, h m refl, e)
    chosen None true h q = let e : k ≡ n = cc in omega (arith, e)
    chosen None false h q = absurd cc

module _ (f : ℕ) (P : ℕ → Type 0) where
  meant_closed : {b : List Expr} {n : ℕ} (m : Meaning) → MeansWell f P m → IsClosed f b P n (meant m)
  meant_closed (Form n) h = closed_defined h
  meant_closed (Function g) h = closed_function h

  by_cases : {b : List Expr} {n : ℕ} (r : Bool) (l : Option ℕ) (m : Option Meaning) (w : Option Builtin) {e : Expr} → ((i : ℕ) → l ≡ Some i → i < n) → ((x : Meaning) → m ≡ Some x → MeansWell f P x) → (if r then Err 10 else by_local l (by_definition m (by_word w))) ≡ Ok e → IsClosed f b P n e
  by_cases true l m w g h q = absurd cc
  by_cases {b = b} {n = n} false (Some i) m w {e = e} g h q = let p : local i ≡ e = cc in subst (λ x. IsClosed f b P n x) p (closed_local (g i refl))
  by_cases {b = b} {n = n} false None (Some m) w {e = e} g h q = let p : meant m ≡ e = cc in subst (λ x. IsClosed f b P n x) p (meant_closed m (h m refl))
  by_cases {b = b} {n = n} false None None (Some w) {e = e} g h q = let p : word w ≡ e = cc in subst (λ x. IsClosed f b P n x) p closed_word
  by_cases false None None None g h q = absurd cc

  -- ## Expressions

  -- the bodies went on, and all that the expression names is there
  pub record Gives (b b' : List Expr) (n : ℕ) (e : Expr) : Type 0 where
    pub front : IsFront b b'
    pub closed : IsClosed f b' P n e

  -- the same of several
  pub record GiveAll (b b' : List Expr) (n : ℕ) (es : Exprs) : Type 0 where
    pub front : IsFront b b'
    pub closed : AreClosed f b' P n es

  later : {b c : List Expr} {n : ℕ} {e : Expr} → IsFront b c → IsClosed f b P n e → IsClosed f c P n e
  later bs h = more_closed (omega arith) bs (λ n p. p) h

  module _ (d : Definitions) (ok : Defines f P d) where
    name_closed : {b : List Expr} (ls : List (List ℕ)) (name : List ℕ) {e : Expr} → named d ls name ≡ Ok e → IsClosed f b P (length ls) e
    unfolding named innermost
    name_closed ls name q = by_cases _ (innermost ls name) (spelled d name) (built_in_of name) (λ i p. omega (arith, innermost_below 0 ls name i p)) (λ x p. ok name x p) q

    mutual
      pub judged_closed : {ls : List (List ℕ)} {b b' : List Expr} {s : Source} {e : Expr} {rs : List ScriptRefusal} → Judged d ls b s e b' rs → Gives b b' (length ls) e
      judged_closed of_atom = record { front = λ i x p. p; closed = closed_literal }
      judged_closed {ls = ls} (of_name {name = name} q) = record { front = λ i x p. p; closed = name_closed ls name q }
      judged_closed (of_no_name q) = record { front = λ i x p. p; closed = closed_literal }
      judged_closed (of_vector j) = let r = judged_all j in record { front = r.front; closed = closed_vector r.closed }
      judged_closed (of_list j) = judged_list j

      judged_list : {ls : List (List ℕ)} {b b' : List Expr} {p : Place} {r : Reading} {e : Expr} {rs : List ScriptRefusal} → JudgedList d ls b p r e b' rs → Gives b b' (length ls) e
      judged_list of_nothing = record { front = λ i x p. p; closed = closed_literal }
      judged_list of_refused = record { front = λ i x p. p; closed = closed_literal }
      judged_list (of_threading j) = judged_closed j
      judged_list (of_call j k) =
          let r = judged_closed j in
          let s = judged_all k in
          record { front = λ i x p. s.front i x (r.front i x p); closed = closed_call (later s.front r.closed) s.closed }
      judged_list (of_let j) = judged_let j
      judged_list (of_if j k l) =
          let r = judged_closed j in
          let s = judged_closed k in
          let t = judged_closed l in
          record { front = λ i x p. t.front i x (s.front i x (r.front i x p)); closed = closed_if (later t.front (later s.front r.closed)) (later t.front s.closed) t.closed }
      judged_list (of_if_alone j k) =
          let r = judged_closed j in
          let s = judged_closed k in
          record { front = λ i x p. s.front i x (r.front i x p); closed = closed_if (later s.front r.closed) s.closed closed_literal }
      judged_list (of_and j) = let r = judged_all j in record { front = r.front; closed = closed_and r.closed }
      judged_list (of_or j) = let r = judged_all j in record { front = r.front; closed = closed_or r.closed }
      judged_list (of_lazy_seq {b' = b'} {e = e} j) =
          let r = judged_closed j in
          let g = front-append b' (e ∷ []) in
          record { front = λ i x p. g i x (r.front i x p); closed = closed_lazy_seq (at_end b' e) (later g r.closed) }

      judged_all : {ls : List (List ℕ)} {b b' : List Expr} {ss : List Source} {es : List Expr} {rs : List ScriptRefusal} → JudgedAll d ls b ss es b' rs → GiveAll b b' (length ls) (exprs es)
      judged_all of_none = record { front = λ i x p. p; closed = closed_none }
      judged_all (of_more j k) =
          let r = judged_closed j in
          let s = judged_all k in
          record { front = λ i x p. s.front i x (r.front i x p); closed = closed_more (later s.front r.closed) s.closed }

      judged_let : {ls : List (List ℕ)} {b b' : List Expr} {pairs : List (Source × Source)} {s : Source} {e : Expr} {rs : List ScriptRefusal} → JudgedLet d ls b pairs s e b' rs → Gives b b' (length ls) e
      judged_let (of_body j) = judged_closed j
      judged_let {ls = ls} {b' = c} (of_pair {name = name} {e' = e'} j k) =
          let r = judged_closed j in
          let s = judged_let k in
          let n : length (ls ++ name_of name ∷ []) ≡ suc (length ls) = omega (arith, length-append ls (name_of name ∷ [])) in
          record { front = λ i x p. s.front i x (r.front i x p); closed = closed_let (later s.front r.closed) (subst (λ m. IsClosed f c P m e') n s.closed) }
