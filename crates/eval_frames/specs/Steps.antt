-- What was taken of a plan: an own step of those that were left, or a part is to be made, or the work ends.
use Rattle.std.specs.Prelude.{◌≡◌, ℕ, ◌+◌}
use Rattle.eval_frames.specs.declared.state.Event.{Event}
use Rattle.eval_frames.specs.declared.state.Event.TheVariants as E
use Rattle.eval_frames.specs.declared.state.Advance.{Advance}
use Rattle.eval_frames.specs.declared.state.Advance.TheVariants as A

module _ {S : Type 0} {b : _} where
  abbrev pub TookStep : ℕ → Event S b → Type 0
  TookStep left (E.Went r) = r.rest.left + 1 ≡ left
  TookStep left (E.Asks a) = a.rest.left + 1 ≡ left
  TookStep left (E.Makes kind t maker rest) = rest.left ≡ left
  TookStep left (E.Gives v m) = Unit {0}
  TookStep left (E.Throws e m) = Unit {0}

  -- a silent turn takes no own step
  abbrev pub TookNode : ℕ → Advance S b → Type 0
  TookNode left (A.On r) = r.rest.left ≡ left
  TookNode left (A.Comes e) = TookStep left e
