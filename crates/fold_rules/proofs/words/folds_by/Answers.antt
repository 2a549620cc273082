use Rattle.std.proofs.Common.{◌≡◌, ℤ, pos, ◌<ℤ◌, int_lt, true, to_z, of_z, ap, sym, ◌∙◌, arith, rules, SFits, w64}
use Rattle.std.proofs.lemmas.Int.{ints, to_z-of_z}
use Rattle.seq_values.specs.Plain.{plain}
use Rattle.fold_rules.proofs.WordTurns.{size_below}
use Rattle.fold_rules.proofs.words.folds_by.Goals as goal

less : (n : ℤ) → int_lt n (pos 1) ≡ true → n <ℤ pos 1
less n h = grind (arith, ints)

-- the same of a number as the code reads it
below_one : (n : ℤ) → SFits w64 n → int_lt (to_z w64 (of_z w64 n)) (pos 1) ≡ true → n <ℤ pos 1
below_one n f h = less n (ap (λ z. int_lt z (pos 1)) (sym (to_z-of_z w64 n f)) ∙ h)

pub returns-then-number-lt1 : goal.returns-then-number-lt1
returns-then-number-lt1 c =
    let f : SFits w64 c.in-Some.number = search rules in
    size_below (plain c.args.size.value) (plain c.args.combine.value) (plain c.args.function.value) (plain c.args.source.value) c.in-Some.number c.refuses-then-number-lt1.result (sym (rw c.in-Some.is at c.number_in-number.ensures)) (below_one c.in-Some.number f c.if-number-lt1.true) c.refuses-then-number-lt1.ensures
