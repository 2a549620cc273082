-- What is tested of like values is the same.
use Rattle.std.proofs.Common.{◌≡◌, Bool, true, false, cond, refl, subst}
use Rattle.seq_values.specs.Model.{Value, bool}
use Rattle.seq_plan.specs.Plan.{Round}
use Rattle.seq_plan.specs.Nodes.{is_truthy, is_nil}
use Rattle.seq_plan.specs.Alike.{Likeness, Like, like_nil, like_bool, LikeRound}

module _ {C D : Type 0} {R : Likeness C D} where
  pub like-is_nil : {v : Value C} {w : Value D} → Like R v w → is_nil v ≡ is_nil w
  like-is_nil like_nil = refl
  like-is_nil _ = refl

  pub like-is_truthy : {v : Value C} {w : Value D} → Like R v w → is_truthy v ≡ is_truthy w
  like-is_truthy like_nil = refl
  like-is_truthy _ = refl

  pub like-bools : {a b : Bool} → a ≡ b → Like R (bool a) (bool b)
  like-bools {a = a} e = subst (λ c. Like R (bool a) (bool c)) e like_bool

  pub like-cond_round : (b : Bool) {p q : Round C} {p' q' : Round D} → LikeRound R p p' → LikeRound R q q' → LikeRound R (cond b p q) (cond b p' q')
  like-cond_round true h k = h
  like-cond_round false h k = k
