-- Arithmetic and comparison, on integers of 64 bits: `+ * - inc dec quot rem mod min max < <= > >= zero? pos? neg? even? odd?` of clojure.core, which throw where a result leaves 64 bits (https://clojure.org/reference/data_structures#Data%20Structures-Numbers).
-- The number of arguments is looked at first, then whether each of them is an integer, then the numbers.
use Rattle.std.specs.Prelude.{ℤ, pos, negsuc, ◌+ℤ◌, ◌-ℤ◌, neg_ℤ, int_lt, int_le, int_div, int_rem, Bool, true, cond, ◌&&◌, ◌||◌, List, [], ◌∷◌, Option, Some, None}
use Rattle.std.specs.Ordering.{int_eq}
use Rattle.seq_base.specs.declared.thrown.Thrown.TheVariants.{Overflow, Divide, Arity, BadType}
use Rattle.seq_values.specs.Model.{Value, bool, int}
use Rattle.seq_plan.specs.Plan.{Plan, give, throw}

-- an integer of 64 bits
abbrev pub fits : ℤ → Bool
fits n = int_le (negsuc 9223372036854775807) n && int_le n (pos 9223372036854775807)

-- The remainder that has the sign of the divisor: where that of `rem` has the other sign, the divisor is added.
abbrev pub int_mod : ℤ → ℤ → ℤ
int_mod a b =
    let r = int_rem a b in
    cond (int_lt r (pos 0) && int_lt (pos 0) b || int_lt (pos 0) r && int_lt b (pos 0)) (r +ℤ b) r

-- the number that is left of them all, taken from the left
abbrev pub left_of : (ℤ → ℤ → ℤ) → ℤ → List ℤ → ℤ
left_of op n [] = n
left_of op n (m ∷ ms) = left_of op (op n m) ms

-- whether each neighbouring pair is so
abbrev pub each_pair : (ℤ → ℤ → Bool) → ℤ → List ℤ → Bool
each_pair test n [] = true
each_pair test n (m ∷ ms) = test n m && each_pair test m ms

-- a multiple of 2
abbrev pub is_even : ℤ → Bool
is_even n = int_eq (int_rem n (pos 2)) (pos 0)

-- one more before those, if they are there
abbrev pub also : ℤ → Option (List ℤ) → Option (List ℤ)
also n None = None
also n (Some ns) = Some (n ∷ ns)

module _ {C : Type 0} where
  -- the integers that the arguments are, or nothing where one is another value
  abbrev pub integers : List (Value C) → Option (List ℤ)
  integers [] = Some []
  integers (int n ∷ xs) = also n (integers xs)
  integers (_ ∷ xs) = None

  -- goes on with them
  abbrev pub on_integers : (List ℤ → Plan C) → Option (List ℤ) → Plan C
  on_integers k None = throw BadType
  on_integers k (Some ns) = k ns

  -- ## Numbers of arguments

  -- any number of integers
  abbrev pub of_any : (List ℤ → Plan C) → List (Value C) → Plan C
  of_any k xs = on_integers k (integers xs)

  -- goes on with the first number and the others
  abbrev pub first_and_others : (ℤ → List ℤ → Plan C) → List ℤ → Plan C
  first_and_others k [] = throw Arity
  first_and_others k (n ∷ ns) = k n ns

  -- one integer or more
  abbrev pub of_some : (ℤ → List ℤ → Plan C) → List (Value C) → Plan C
  of_some k [] = throw Arity
  of_some k (x ∷ xs) = of_any (first_and_others k) (x ∷ xs)

  -- one integer alone
  abbrev pub of_one : (ℤ → Plan C) → List (Value C) → Plan C
  of_one k (int n ∷ []) = k n
  of_one k (_ ∷ []) = throw BadType
  of_one k _ = throw Arity

  -- two integers
  abbrev pub of_two : (ℤ → ℤ → Plan C) → List (Value C) → Plan C
  of_two k (int a ∷ int b ∷ []) = k a b
  of_two k (_ ∷ _ ∷ []) = throw BadType
  of_two k _ = throw Arity

  -- ## Answers

  abbrev pub give_bool : Bool → Plan C
  give_bool b = give (bool b)

  -- an integer, which throws where it leaves 64 bits
  abbrev pub give_int : ℤ → Plan C
  give_int n = cond (fits n) (give (int n)) (throw Overflow)

  -- From the left, where each step has to stay within 64 bits.
  abbrev pub from_left : (ℤ → ℤ → ℤ) → ℤ → List ℤ → Plan C
  from_left op n [] = give (int n)
  from_left op n (m ∷ ms) = cond (fits (op n m)) (from_left op (op n m) ms) (throw Overflow)

  -- `-`: one number is negated; of several, the others are taken from the first
  abbrev pub minus : ℤ → List ℤ → Plan C
  minus n [] = give_int (neg_ℤ n)
  minus n (m ∷ ms) = from_left ◌-ℤ◌ n (m ∷ ms)

  -- a division by zero
  abbrev pub unless_zero : ℤ → Plan C → Plan C
  unless_zero b p = cond (int_eq b (pos 0)) (throw Divide) p

  -- `quot` rounds to zero; the least integer by -1 leaves 64 bits
  abbrev pub quotient : ℤ → ℤ → Plan C
  quotient a b = unless_zero b (give_int (int_div a b))

  -- `rem` has the sign of a
  abbrev pub remainder : ℤ → ℤ → Plan C
  remainder a b = unless_zero b (give (int (int_rem a b)))

  -- `mod` has the sign of b
  abbrev pub modulus : ℤ → ℤ → Plan C
  modulus a b = unless_zero b (give (int (int_mod a b)))
