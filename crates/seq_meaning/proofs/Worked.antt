-- The worked scripts, by computation.
use Rattle.std.proofs.Common.{◌≡◌, ℕ, zero, suc, ◌≤◌, List, [], ◌∷◌, Some, slice_get, codes, refl, arith}
use Rattle.std.specs.Fmt.{digits}
use Rattle.seq_values.specs.declared.words.Builtin.TheVariants as B
use Rattle.seq_values.specs.declared.words.Kind.TheVariants.{Lazy, Future}
use Rattle.seq_values.specs.declared.words.Op.{Op}
use Rattle.seq_values.specs.declared.words.Target.TheVariants as T
use Rattle.seq_values.specs.Model.{Value, function, no_values, Term}
use Rattle.seq_meaning.specs.Walk.{Made, made, walk}
use Rattle.seq_meaning.specs.Names.{Name, form, part, retry}
use Rattle.seq_meaning.specs.Gives.{Work, work, of_form, of_term, run, Of, of_top, no_answer, gives, none_before}
use Rattle.seq_meaning.specs.Counts.{IsIn, there}
use Rattle.seq_meaning.specs.SmallTable.{small}
use Rattle.seq_meaning.specs.Worked.{forms, Prints, inc_form, one_more_than_one, OneMoreThanOne}

-- so many more
abbrev pub past : ℕ → ℕ → ℕ
past zero n = n
past (suc k) n = suc (past k n)

-- a number that isn't below another one is so many more than it
pub from_past : (P : ℕ → Type 0) (k limit : ℕ) → k ≤ limit → ((n : ℕ) → P (past k n)) → P limit
from_past P zero limit h f = f limit
from_past P (suc k) zero h f = absurd (omega arith)
from_past P (suc k) (suc limit) h f = from_past (λ n. P (suc n)) k limit (omega arith) f

-- the work of a term, where no form defined anything
abbrev pub part_work : Op → List (Value Name) → Work
part_work op args = work [] (of_term (record { op = op; args = args }))

abbrev pub inc_word : Value Name
inc_word = function (T.Builtin B.Inc) no_values

-- a part that is made lazily
abbrev pub lazily : Op → List (Value Name) → Made Name
lazily op args = made Lazy (record { op = op; args = args })

-- where no make is a future
pub one_lazy : (op : Op) (args : List (Value Name)) (j : ℕ) (t : Term Name) → ¬ (slice_get (lazily op args ∷ []) j ≡ Some (made Future t))
one_lazy op args zero t p = absurd cc
one_lazy op args (suc j) t p = absurd cc

pub none_made : (j : ℕ) (m : Made Name) → ¬ (slice_get [] j ≡ Some m)
none_made j m p = absurd cc

-- a part in a list that begins with a form stands behind it
pub behind_form : {e : Name} {j k : ℕ} {l : List Name} → IsIn (part e j) (form k ∷ l) → IsIn (part e j) l
behind_form (there i) = i

pub retry_behind : {e : Name} {k : ℕ} {l : List Name} → IsIn (retry e) (form k ∷ l) → IsIn (retry e) l
retry_behind (there i) = i

one_more_of : (limit : ℕ) → Of small (forms one_more_than_one) limit (form 1) (work [] (of_form inc_form))
one_more_of limit = of_top none_before refl

one_more_two : (n : ℕ) → Prints one_more_than_one (past 2 n) (form 1) (codes "2")
unfolding run walk digits
one_more_two zero = gives {ms = []} (one_more_of 2) (no_answer (one_more_of 2)) refl
one_more_two (suc n) = gives {ms = []} (one_more_of (past 3 n)) (no_answer (one_more_of (past 3 n))) refl

pub one_more_than_one_is_two : OneMoreThanOne
unfolding run walk
one_more_than_one_is_two = (λ limit h. from_past (λ l. Prints one_more_than_one l (form 1) (codes "2")) 2 limit h one_more_two, gives {ms = []} (one_more_of 1) (no_answer (one_more_of 1)) refl)
