-- The values of a lawful book at rest are no deeper than a value may be.
use Rattle.std.proofs.Common.{◌≡◌, ℕ, ◌≤◌, nat_le, Bool, true, Some, refl, ap, sym, ◌∙◌, arith}
use Rattle.std.proofs.lemmas.Bool.{leb-true}
use Rattle.seq_values.specs.declared.value.Value.{Value as Coded}
use Rattle.seq_values.specs.Model.{Value, Outcome, gave}
use Rattle.seq_values.specs.Plain.{plain}
use Rattle.clj_script.specs.Trees.{Program}
use Rattle.seq_plan.specs.Alike.{Like, LikeOutcome, like_gave, like_threw}
use Rattle.seq_plan.specs.Nodes.{depth}
use Rattle.seq_plan.specs.WellFormed.{Well}
use Rattle.seq_plan.proofs.AlikeNodes.{like-depth}
use Rattle.seq_plan.proofs.WellSounds.{well-shallow}
use Rattle.cell_book.specs.Account.{Account, cell_at}
use Rattle.cell_book.specs.Readers.{value_in}
use Rattle.seq_meaning.specs.Names.{Name}
use Rattle.seq_meaning.specs.Gives.{Gives}
use Rattle.seq_table.specs.Coming.{RunsAreWell}
use Rattle.seq_table.specs.Table.{language}
use Rattle.seq_lawful.specs.Sites.{own_name}
use Rattle.seq_lawful.specs.Lawful.{called, GivesSo, gives_so, Lawful}
use Rattle.seq_lawful.specs.Rest.{AtRest}
use Rattle.seq_lawful.specs.RestLaws.{NamedAtRest, CellGives}
use Rattle.lawful_ledger.proofs.Ends.{cell_of}

module _ (well : RunsAreWell) (named : NamedAtRest) (gives : CellGives) (processors : ℕ) (program : Program) (limit : ℕ) (a : Account) (law : Lawful (language processors) program limit a) (rest : AtRest a) where
  of_like : (v : Value ℕ) {o : Outcome ℕ} {n : Name} {r : Outcome Name} → o ≡ gave v → Gives (language processors) program limit n r → LikeOutcome (called (language processors) program limit a own_name) o r → depth v ≤ 256
  of_like v z g (like_gave {v = x} {w = w} l) =
      let e : x ≡ v = cc in
      let d : depth x ≡ depth w = like-depth l in
      let h : depth w ≤ 256 = leb-true (depth w) 256 (well-shallow ((well processors program limit).0 _ w g)) in
      omega (arith, d, h, ap depth e)
  of_like v z g like_threw = absurd cc

  of_gives : (v : Value ℕ) (n : Name) → GivesSo (language processors) program limit a own_name n (gave v) → depth v ≤ 256
  of_gives v n (gives_so g l) = of_like v refl g l

  pub shallow : (c : ℕ) (v : Coded) → value_in (cell_at a c) ≡ Some v → depth (plain v) ≤ 256
  shallow c v e =
      let p = cell_of (cell_at a c) v e in
      let n = (named (language processors) program limit a law rest).0 c p.0 p.1 in
      of_gives (plain v) n.0 ((gives (language processors) program limit a law own_name c p.0 n.0 p.1 n.1).0 v p.2)
