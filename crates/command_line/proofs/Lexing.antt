-- What a word is to `clap`, and what it is to `first_of`.
use Rattle.std.proofs.Common.{◌≡◌, ◌⊎◌, inl, inr, ℕ, zero, suc, ◌+◌, Bool, true, false, ◌&&◌, ◌||◌, not, List, [], ◌∷◌, take, drop, length, Option, Some, None, refl, ap, ap₂, sym, subst, ◌∙◌, arith}
use Rattle.std.specs.Prelude.{codes, ◌==◌, is_some, nat_lt, option_and_then, option_map, if◌then◌else◌}
use Rattle.std.specs.List.{list_any, position, position_or_len, before_first, after_first}
use Rattle.std.specs.Str.{bytes_eq}
use Rattle.std.proofs.lemmas.Bool.Decides.{nat_tests}
use Rattle.std.proofs.lemmas.Bool.{eqb-true}
use Rattle.clap.specs.Lexer.{long_of, long_of_rest, name_and_value, short_of, short_of_rest, strip_byte}
use Rattle.command_line.specs.declared.setting.Setting.{Setting}
use Rattle.command_line.specs.declared.setting.Setting.TheVariants.{Check}
use Rattle.command_line.specs.Settings.{Text, apart_of, before, first_of, named_by, named_number, number_by, value_from, valued_of}
use Rattle.clap.specs.Walk.{arg_by_long}
use Rattle.command_line.specs.Reading.{Kind, generate, workers, processors, cells, steps, name_of, read_by, setting_by}
use Rattle.command_line.proofs.Names.{clash, dashed, named, Named, is_flag, is_number, is_none, numbered, ours, same_text, unnamed}

abbrev pub is_equals : ℕ → Bool
is_equals b = b == 61

-- a text has no `=`, or one at a place
pub data Cut (r : Text) : Type 0 where
  whole : name_and_value r ≡ (r, None) → position is_equals (dashed r) ≡ None → Cut r
  parted : (i : ℕ) (v : Text) → name_and_value r ≡ (take i r, Some v) → position is_equals (dashed r) ≡ Some (suc (suc i)) → drop (suc (suc i) + 1) (dashed r) ≡ v → Cut r

any_place : (r : Text) → list_any is_equals r ≡ nat_lt (position_or_len is_equals r) (length r)
any_place [] = refl
any_place (x ∷ xs) = here (is_equals x) (any_place xs)
  where
    here : (b : Bool) → list_any is_equals xs ≡ nat_lt (position_or_len is_equals xs) (length xs) → (b || list_any is_equals xs) ≡ nat_lt (if not b then 1 + position_or_len is_equals xs else 0) (suc (length xs))
    here true h = grind (arith, nat_tests)
    here false h = h ∙ grind (arith, nat_tests)

all_place : (r : Text) → list_any is_equals r ≡ false → take (position_or_len is_equals r) r ≡ r
all_place [] e = refl
all_place (x ∷ xs) e = here (all_place xs) (is_equals x) refl e
  where
    here : (list_any is_equals xs ≡ false → take (position_or_len is_equals xs) xs ≡ xs) → (b : Bool) → is_equals x ≡ b → (b || list_any is_equals xs) ≡ false → take (position_or_len is_equals (x ∷ xs)) (x ∷ xs) ≡ x ∷ xs
    here h true p q = absurd cc
    here h false p q =
        let n : position_or_len is_equals (x ∷ xs) ≡ suc (position_or_len is_equals xs) = ap (λ b. if not b then 1 + position_or_len is_equals xs else 0) p ∙ omega arith in
        ap (λ k. take k (x ∷ xs)) n ∙ ap (λ t. x ∷ t) (h q)

pub cut : (r : Text) → Cut r
cut r = here (list_any is_equals r) refl
  where
    two : position_or_len is_equals (dashed r) ≡ suc (suc (position_or_len is_equals r))
    two = omega arith

    behind : suc (suc (position_or_len is_equals r)) + 1 ≡ suc (suc (position_or_len is_equals r + 1))
    behind = omega arith

    at : (b : Bool) → list_any is_equals r ≡ b → nat_lt (position_or_len is_equals (dashed r)) (length (dashed r)) ≡ b
    at b e = ap (λ n. nat_lt n (suc (suc (length r)))) two ∙ (grind (arith, nat_tests) ∙ (sym (any_place r) ∙ e))

    here : (b : Bool) → list_any is_equals r ≡ b → Cut r
    here false e = whole
        (ap (λ c. (before_first is_equals r, if c then Some (after_first is_equals r) else None)) e ∙ ap (λ t. (t, None)) (all_place r e))
        (ap (λ c. if c then Some (position_or_len is_equals (dashed r)) else None) (at false e))
    here true e = parted (position_or_len is_equals r) (after_first is_equals r)
        (ap (λ c. (before_first is_equals r, if c then Some (after_first is_equals r) else None)) e)
        (ap (λ c. if c then Some (position_or_len is_equals (dashed r)) else None) (at true e) ∙ ap Some two)
        (ap (λ n. drop n (dashed r)) behind)

-- ## Words without two dashes and a name

no_option : (t name : Text) → long_of t ≡ None → is_some (long_of name) ≡ true → bytes_eq t name ≡ false
no_option t name l s = here (bytes_eq t name) refl
  where
    here : (b : Bool) → bytes_eq t name ≡ b → bytes_eq t name ≡ false
    here false e = e
    here true e = absurd (clash (is_some (long_of name)) s (ap (λ x. is_some (long_of x)) (sym (same_text t name e)) ∙ ap is_some l))

none_named : (t : Text) (m : ℕ) → long_of t ≡ None → named_by t m ≡ None
none_named t m l = rw (no_option t (codes "--generate") l refl, no_option t (codes "--workers") l refl, no_option t (codes "--processors") l refl, no_option t (codes "--cells") l refl, no_option t (codes "--steps") l refl) refl

-- the parts of `long_of`, by its tests
abbrev long_by : Bool → Text → Option (Text × Option Text)
long_by b rest = option_and_then long_of_rest (option_and_then (strip_byte 45) (if b then Some rest else None))

abbrev long_by_two : Bool → Text → Option (Text × Option Text)
long_by_two b rest = option_and_then long_of_rest (if b then Some rest else None)

long_nothing : (i : ℕ) → long_of_rest (take i []) ≡ None
long_nothing zero = refl
long_nothing (suc i) = refl

long_take : (i : ℕ) (word : Text) → long_of word ≡ None → long_of (take i word) ≡ None
long_take zero [] l = refl
long_take (suc i) [] l = refl
long_take zero (a ∷ word) l = refl
long_take (suc i) (a ∷ word) l = one (a == 45) word i l
  where
    two : (b : Bool) (rest : Text) (i : ℕ) → long_by_two b rest ≡ None → long_by_two b (take i rest) ≡ None
    two false rest i l = refl
    two true [] i l = long_nothing i
    two true (x ∷ xs) i l = absurd cc

    one : (b : Bool) (rest : Text) (i : ℕ) → long_by b rest ≡ None → long_by b (take i rest) ≡ None
    one false rest i l = refl
    one true [] zero l = refl
    one true [] (suc i) l = refl
    one true (y ∷ rest) zero l = refl
    one true (y ∷ rest) (suc i) l = two (y == 45) rest i l

-- a word is two dashes and more, or no long flag
pub shape : (word : Text) → (long_of word ≡ None) ⊎ ((x : ℕ) × (xs : Text) × (word ≡ dashed (x ∷ xs)))
shape [] = inl refl
shape (a ∷ []) = inl (here (a == 45))
  where
    here : (b : Bool) → long_by b [] ≡ None
    here true = refl
    here false = refl
shape (a ∷ c ∷ rest) = one (a == 45) refl
  where
    two : (b : Bool) → (c == 45) ≡ b → a ≡ 45 → (rest : Text) → (long_by_two b rest ≡ None) ⊎ ((x : ℕ) × (xs : Text) × ((a ∷ c ∷ rest) ≡ dashed (x ∷ xs)))
    two false q p rest = inl refl
    two true q p [] = inl refl
    two true q p (x ∷ xs) = inr (x, xs, ap₂ (λ y z. y ∷ z ∷ x ∷ xs) p (eqb-true c 45 q))

    one : (b : Bool) → (a == 45) ≡ b → (long_by b (c ∷ rest) ≡ None) ⊎ ((x : ℕ) × (xs : Text) × ((a ∷ c ∷ rest) ≡ dashed (x ∷ xs)))
    one false p = inl refl
    one true p = two (c == 45) refl (eqb-true a 45 p) rest

spells_none_of : (word : Text) (rest : List Text) (o : Option ℕ) → ((i m : ℕ) → named_by (take i word) m ≡ None) → ((m : ℕ) → named_by word m ≡ None) → valued_of o word rest ≡ None
spells_none_of word rest (Some i) h g = ap (before rest) (unnamed (take i word) (drop (i + 1) word) (h i))
spells_none_of word [] None h g = refl
spells_none_of word (v ∷ rest) None h g = ap (before rest) (unnamed word v g)

-- a word that spells no setting
pub spells_nothing : (word : Text) (rest : List Text) → long_of word ≡ None → first_of (word ∷ rest) ≡ None
spells_nothing word rest l =
    ap (λ b. if b then Some (Check, rest) else valued_of (position is_equals word) word rest) (no_option word (codes "--check") l refl)
    ∙ spells_none_of word rest (position is_equals word) (λ i m. none_named (take i word) m (long_take i word l)) (λ m. none_named word m l)

-- ## The kinds of words

abbrev pub alone_of : Kind → List Text → Option (Setting × List Text)
alone_of k [] = None
alone_of k (v ∷ rest) = before rest (option_map (setting_by k) (read_by k v))

-- what a word is to `clap` and to `first_of`
pub data First (word : Text) : Type 0 where
  no_long : long_of word ≡ None → ((rest : List Text) → first_of (word ∷ rest) ≡ None) → First word
  no_name : (n : Text) (v : Option Text) → long_of word ≡ Some (n, v) → arg_by_long ours.rules n ≡ None → ((rest : List Text) → first_of (word ∷ rest) ≡ None) → First word
  flag_valued : (v : Text) → long_of word ≡ Some (codes "check", Some v) → ((rest : List Text) → first_of (word ∷ rest) ≡ None) → First word
  flag_alone : long_of word ≡ Some (codes "check", None) → ((rest : List Text) → first_of (word ∷ rest) ≡ Some (Check, rest)) → First word
  joined : (k : Kind) (v : Text) → long_of word ≡ Some (name_of k, Some v) → ((rest : List Text) → first_of (word ∷ rest) ≡ before rest (option_map (setting_by k) (read_by k v))) → First word
  alone : (k : Kind) → long_of word ≡ Some (name_of k, None) → ((rest : List Text) → first_of (word ∷ rest) ≡ alone_of k rest) → First word

not_check : (n : Text) → arg_by_long ours.rules n ≡ None → bytes_eq n (codes "check") ≡ false
not_check n a = here (bytes_eq n (codes "check")) refl
  where
    here : (b : Bool) → bytes_eq n (codes "check") ≡ b → bytes_eq n (codes "check") ≡ false
    here false e = e
    here true e = absurd (clash (is_some (arg_by_long ours.rules (codes "check"))) refl (ap (λ t. is_some (arg_by_long ours.rules t)) (sym (same_text n (codes "check") e)) ∙ ap is_some a))

spelled_alone : (k : Kind) (rest : List Text) → first_of (dashed (name_of k) ∷ rest) ≡ alone_of k rest
spelled_alone generate [] = refl
spelled_alone workers [] = refl
spelled_alone processors [] = refl
spelled_alone cells [] = refl
spelled_alone steps [] = refl
spelled_alone generate (v ∷ rest) = ap (before rest) (numbered generate v)
spelled_alone workers (v ∷ rest) = ap (before rest) (numbered workers v)
spelled_alone processors (v ∷ rest) = ap (before rest) (numbered processors v)
spelled_alone cells (v ∷ rest) = ap (before rest) (numbered cells v)
spelled_alone steps (v ∷ rest) = ap (before rest) (numbered steps v)

-- behind the flag's name comes no `=` in the flag itself
no_flag : (r : Text) (i : ℕ) → position is_equals (dashed r) ≡ Some i → bytes_eq r (codes "check") ≡ false
no_flag r i at = here (bytes_eq r (codes "check")) refl
  where
    here : (b : Bool) → bytes_eq r (codes "check") ≡ b → bytes_eq r (codes "check") ≡ false
    here false e = e
    here true e = absurd (clash true refl (ap is_some (sym at ∙ ap (λ t. position is_equals (dashed t)) (same_text r (codes "check") e))))

parted_first : (r : Text) (i : ℕ) (v : Text) (rest : List Text) → position is_equals (dashed r) ≡ Some (suc (suc i)) → drop (suc (suc i) + 1) (dashed r) ≡ v → first_of (dashed r ∷ rest) ≡ before rest (named_number (dashed (take i r)) v)
parted_first r i v rest at behind =
    ap₂ (λ (b : Bool) (o : Option ℕ). if b then Some (Check, rest) else valued_of o (dashed r) rest) (no_flag r (suc (suc i)) at) at
    ∙ ap (λ t. before rest (named_number (dashed (take i r)) t)) behind

whole_first : (r : Text) (rest : List Text) → arg_by_long ours.rules r ≡ None → ((m : ℕ) → named_by (dashed r) m ≡ None) → position is_equals (dashed r) ≡ None → first_of (dashed r ∷ rest) ≡ None
whole_first r rest a b at = ap₂ (λ (b : Bool) (o : Option ℕ). if b then Some (Check, rest) else valued_of o (dashed r) rest) (not_check r a) at ∙ here rest
  where
    here : (rest : List Text) → apart_of (dashed r) rest ≡ None
    here [] = refl
    here (v ∷ rest) = ap (before rest) (unnamed (dashed r) v b)

first_dashed : (x : ℕ) (xs : Text) → Cut (x ∷ xs) → First (dashed (x ∷ xs))
first_dashed x xs (whole nv at) = here (named (x ∷ xs))
  where
    here : Named (x ∷ xs) → First (dashed (x ∷ xs))
    here (is_flag e) = flag_alone (ap Some nv ∙ ap (λ n. Some (n, None)) e) (λ rest. ap (λ n. first_of (dashed n ∷ rest)) e)
    here (is_number k e) = alone k (ap Some nv ∙ ap (λ n. Some (n, None)) e) (λ rest. ap (λ n. first_of (dashed n ∷ rest)) e ∙ spelled_alone k rest)
    here (is_none a b) = no_name (x ∷ xs) None (ap Some nv) a (λ rest. whole_first (x ∷ xs) rest a b at)
first_dashed x xs (parted i v nv at behind) = here (named (take i (x ∷ xs)))
  where
    here : Named (take i (x ∷ xs)) → First (dashed (x ∷ xs))
    here (is_flag e) = flag_valued v (ap Some nv ∙ ap (λ n. Some (n, Some v)) e) (λ rest. parted_first (x ∷ xs) i v rest at behind ∙ (ap (λ n. before rest (named_number (dashed n) v)) e ∙ ap (before rest) (unnamed (dashed (codes "check")) v (λ m. refl))))
    here (is_number k e) = joined k v (ap Some nv ∙ ap (λ n. Some (n, Some v)) e) (λ rest. parted_first (x ∷ xs) i v rest at behind ∙ (ap (λ n. before rest (named_number (dashed n) v)) e ∙ ap (before rest) (numbered k v)))
    here (is_none a b) = no_name (take i (x ∷ xs)) (Some v) (ap Some nv) a (λ rest. parted_first (x ∷ xs) i v rest at behind ∙ ap (before rest) (unnamed (dashed (take i (x ∷ xs))) v b))

pub first : (word : Text) → First word
first word = here (shape word)
  where
    here : (long_of word ≡ None) ⊎ ((x : ℕ) × (xs : Text) × (word ≡ dashed (x ∷ xs))) → First word
    here (inl l) = no_long l (λ rest. spells_nothing word rest l)
    here (inr s) = subst (λ w. First w) (sym s.2) (first_dashed s.0 s.1 (cut (s.0 ∷ s.1)))

-- ## Values

-- a number begins with a digit
pub number_plain : (v : Text) (n : ℕ) → number_by v ≡ Some n → (long_of v ≡ None) × (short_of v ≡ None) × (bytes_eq v (codes "--") ≡ false)
number_plain [] n e = absurd cc
number_plain (b ∷ bs) n e = here (b == 45) refl
  where
    digit : (y : Bool) → (if y then value_from 0 (b ∷ bs) else None) ≡ Some n → value_from 0 (b ∷ bs) ≡ Some n
    digit true p = p
    digit false p = absurd cc

    here : (y : Bool) → (b == 45) ≡ y → (long_of (b ∷ bs) ≡ None) × (short_of (b ∷ bs) ≡ None) × (bytes_eq (b ∷ bs) (codes "--") ≡ false)
    here false p = (ap (λ y. long_by y bs) p, ap (λ y. option_and_then short_of_rest (if y then Some bs else None)) p, ap (λ y. y && bytes_eq bs (codes "-")) p)
    here true p =
        let f : value_from 0 (45 ∷ bs) ≡ Some n = ap (λ c. value_from 0 (c ∷ bs)) (sym (eqb-true b 45 p)) ∙ digit _ e in
        absurd cc
