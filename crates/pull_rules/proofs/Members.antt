-- Members of a list, as many as it may have.
use Rattle.std.proofs.Common.{◌≡◌, ℕ, ◌<◌, ◌≤◌, nat_le, true, false, List, length, refl, ap, sym, rules, arith}
use Rattle.std.proofs.lemmas.List.{length-map}
use Rattle.seq_values.specs.Plain.{plain, plains}
use Rattle.seq_values.specs.declared.value.Value.{Value}
use Rattle.seq_plan.specs.Nodes.{with_members, longest}
use Rattle.seq_turns.specs.Making.{Grows}
use Rattle.seq_turns.specs.declared.made.Grown.TheVariants as G
use Rattle.seq_turns.specs.declared.proper.Gathered.{Gathered}

is_le : (a b : ℕ) → a ≤ b → nat_le a b ≡ true
is_le a b h = search (rules, arith)

not_le : (a b : ℕ) → b < a → nat_le a b ≡ false
not_le a b h = search (rules, arith)

pub all_members : (xs : List Value) (all : Gathered) → length xs ≤ 4294967295 → all.items.items ≡ xs → Grows (with_members (plains xs)) (G.All all)
all_members xs all b e =
    let l : nat_le (length (plains xs)) longest ≡ true = is_le _ _ (omega (arith, length-map xs plain, b)) in
    record { goes = λ k. rw l (ap (λ ys. k (plains ys)) (sym e)) }

pub too_many : (xs : List Value) → 4294967296 ≤ length xs → Grows (with_members (plains xs)) G.TooMany
too_many xs b =
    let l : nat_le (length (plains xs)) longest ≡ false = not_le _ _ (omega (arith, length-map xs plain, b)) in
    record { goes = λ k. rw l refl }
