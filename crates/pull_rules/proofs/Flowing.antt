-- What stages came to, by their turn.
use Rattle.std.proofs.Common.{ℕ, List, refl}
use Rattle.seq_base.specs.declared.thrown.Thrown.{Thrown}
use Rattle.seq_values.specs.Model as M
use Rattle.seq_values.specs.declared.term.Turn.TheVariants as T
use Rattle.seq_values.proofs.DepthLemmas.{both}
use Rattle.seq_turns.specs.declared.proper.Proper.{Proper}
use Rattle.seq_turns.specs.declared.proper.ProperList.{ProperList}
use Rattle.xf_stages.specs.Left.{Course, Goes}
use Rattle.xf_stages.specs.declared.state.Stages.{Stages}
use Rattle.xf_stages.specs.declared.state.AtCall.{AtCall}
use Rattle.xf_stages.specs.declared.state.AtSeq.{AtSeq}
use Rattle.xf_stages.specs.declared.state.AtStep.{AtStep}
use Rattle.xf_stages.specs.declared.state.AtOut.{AtOut}
use Rattle.xf_stages.specs.declared.state.StageTurn.TheVariants as S
use Rattle.pull_rules.specs.Reducing.{Flows}
use Rattle.pull_rules.specs.declared.flow.Flowed.TheVariants as F
use Rattle.pull_rules.specs.declared.flow.Waiting.TheVariants as W

module _ (stages : List (M.Value ℕ)) (course : Course) where
  pub flows_call : (w : AtCall) (f : Proper) (xs : ProperList) → Goes stages course (S.Apply w f xs) → Flows stages course (F.Asks (record { state = W.Call w; turn = T.Apply f.value xs.items }))
  flows_call w f xs g = record { goes = g.goes; asked = record { step = tt; waits = refl; well = both _ _ f.well xs.well }; rests = g.rests }

  pub flows_seq : (w : AtSeq) (v : Proper) → Goes stages course (S.Seq w v) → Flows stages course (F.Asks (record { state = W.Seq w; turn = T.Seq v.value }))
  flows_seq w v g = record { goes = g.goes; asked = record { step = g.step; waits = refl; well = v.well }; rests = g.rests }

  pub flows_step : (w : AtStep) → Goes stages course (S.Visit w) → Flows stages course (F.Asks (record { state = W.Step w; turn = T.Visit }))
  flows_step w g = record { goes = g.goes; asked = record { step = tt; waits = refl; well = refl }; rests = g.rests }

  pub flows_out : (w : AtOut) (x : Proper) → Goes stages course (S.Out w x) → Flows stages course (F.Out w x)
  flows_out w x g = record { goes = g.goes; asked = tt; rests = g.rests }

  pub flows_throw : (why : Thrown) → Goes stages course (S.Throw why) → Flows stages course (F.Throw why)
  flows_throw why g = record { goes = g.goes; asked = tt; rests = tt }

  pub flows_rest : (s : Stages) → Goes stages course (S.Rest s) → Flows stages course (F.Rest s)
  flows_rest s g = record { goes = g.goes; asked = tt; rests = g.rests }
