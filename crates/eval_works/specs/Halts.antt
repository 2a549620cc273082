-- Why an evaluation stops without an outcome, by what was seen of the book.
use Rattle.std.specs.Prelude.{◌≡◌, true}
use Rattle.cell_book.specs.Glimpses.{Glimpse}
use Rattle.cell_book.specs.declared.answers.MakeRefusal.{MakeRefusal}
use Rattle.cell_book.specs.declared.answers.MakeRefusal.TheVariants as M
use Rattle.eval_works.specs.declared.state.Halt.{Halt}
use Rattle.eval_works.specs.declared.state.Halt.TheVariants as H

-- a make was refused
abbrev pub MakeHalts : Glimpse → Halt → Type 0
MakeHalts g H.Spent = g.spent ≡ true
MakeHalts g H.GaveUp = ⊥
MakeHalts g H.Memory = Unit {0}

-- a claim was refused
abbrev pub ClaimHalts : Glimpse → Halt → Type 0
ClaimHalts g H.Spent = ⊥
ClaimHalts g H.GaveUp = g.gave_up ≡ true
ClaimHalts g H.Memory = Unit {0}

-- why no part was made
abbrev pub make_halt : MakeRefusal → Halt
make_halt (M.Spent t) = H.Spent
make_halt (M.Memory t) = H.Memory
