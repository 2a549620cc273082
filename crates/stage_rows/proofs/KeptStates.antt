-- The states that a pull keeps are those that the next one begins with.
use Rattle.std.proofs.Common.{◌≡◌, ℕ, false, List, ◌∷◌, refl, ap, ◌∙◌}
use Rattle.seq_values.specs.Model.{Value, nil}
use Rattle.seq_plan.specs.Nodes.{is_nil}
use Rattle.stage_rows.specs.Table.{kept, replaced}
use Rattle.stage_rows.specs.Laws.{FitsFresh, fits_no_stage, fits_none, fits_one}

keeps : (state : Value ℕ) (states : List (Value ℕ)) → is_nil state ≡ false → kept (state ∷ states) ≡ state ∷ kept states
keeps nil states h = absurd cc
keeps _ states h = refl

replaces : (new : Value ℕ) (news : List (Value ℕ)) (state : Value ℕ) (states : List (Value ℕ)) → is_nil new ≡ false → replaced (new ∷ news) (state ∷ states) ≡ state ∷ replaced news states
replaces nil news state states h = absurd cc
replaces _ news state states h = refl

pub goes_on : {news states : List (Value ℕ)} → FitsFresh news states → replaced news (kept states) ≡ states
goes_on fits_no_stage = refl
goes_on (fits_none h) = ap (λ l. nil ∷ l) (goes_on h)
goes_on (fits_one {new = new} {state = state} {news = news} {states = states} a b h) =
    ap (replaced (new ∷ news)) (keeps state states b) ∙ replaces new news state (kept states) a ∙ ap (λ l. state ∷ l) (goes_on h)
