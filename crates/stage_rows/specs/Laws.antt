-- What holds of the rows, as statements. A renaming is given by a test that tells which cells are the same.
use Rattle.std.specs.Prelude.{◌≡◌, ℕ, ◌≤◌, ◌<◌, Bool, true, false, length, List, [], ◌∷◌}
use Rattle.seq_values.specs.declared.words.Builtin.{Builtin}
use Rattle.seq_values.specs.Model.{Value, nil}
use Rattle.seq_base.specs.declared.thrown.Thrown.TheVariants.{Overflow, BadType}
use Rattle.seq_plan.specs.Plan.{Plan, throw, Loop}
use Rattle.seq_plan.specs.Nodes.{is_nil, longest}
use Rattle.seq_plan.specs.Stages.{is_transducer, stages_of, with_stages}
use Rattle.seq_plan.specs.Alike.{Tells, LikeList, LikePlan, LikeRound}
use Rattle.stage_rows.specs.Table.{kept, replaced, stage_call, pull_term, stage_round}

-- the rows look at cells only to ask them: like arguments have like plans
abbrev pub RowsRename : Type 0
RowsRename = (test : ℕ → ℕ → Bool) (xs ys : List (Value ℕ)) → LikeList (Tells test) xs ys →
    ((word : Builtin) → LikePlan (Tells test) (stage_call word xs) (stage_call word ys))
    × ((size : ℕ) → LikePlan (Tells test) (pull_term size xs) (pull_term size ys))
    × ((loop : Loop) → LikeRound (Tells test) (stage_round loop xs) (stage_round loop ys))

-- states of which one stands where a fresh stage has one
pub data FitsFresh : List (Value ℕ) → List (Value ℕ) → Type 0 where
  fits_no_stage : FitsFresh [] []
  fits_none : {news states : List (Value ℕ)} → FitsFresh news states → FitsFresh (nil ∷ news) (nil ∷ states)
  fits_one : {new state : Value ℕ} {news states : List (Value ℕ)} → is_nil new ≡ false → is_nil state ≡ false → FitsFresh news states → FitsFresh (new ∷ news) (state ∷ states)

-- a pull goes on with the states with which the one before it stopped
abbrev pub PullGoesOn : Type 0
PullGoesOn = (news states : List (Value ℕ)) → FitsFresh news states → replaced news (kept states) ≡ states

-- What is no transducer throws `type`; a transducer of more stages than a list may have throws `overflow`; any other is gone on with by its stages.
abbrev pub StagesAreLimited : Type 0
StagesAreLimited = (xf : Value ℕ) (k : List (Value ℕ) → Plan ℕ) →
    (is_transducer xf ≡ false → with_stages xf k ≡ throw BadType)
    × (is_transducer xf ≡ true → longest < length (stages_of xf) → with_stages xf k ≡ throw Overflow)
    × (is_transducer xf ≡ true → length (stages_of xf) ≤ longest → with_stages xf k ≡ k (stages_of xf))
