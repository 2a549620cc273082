-- How a turn of this crate's rules takes a node of each plan that may be passed on to it.
use Rattle.std.proofs.Common.{◌≡◌, ℕ}
use Rattle.seq_plan.specs.Plan.{Plan}
use Rattle.seq_turns.specs.Turning.{Takes}
use Rattle.seq_turns.specs.declared.next.Next.{Next}
use Rattle.seq_turns.proofs.Taking as G
use Rattle.xf_stages.specs.Left.{StageSilent}
use Rattle.fold_rules.specs.Left.{running}
use Rattle.fold_rules.specs.declared.state.State.{State}

pub takes_from : {p q : Plan ℕ} {r : Next State} → StageSilent p q → Takes running q r → Takes running p r
takes_from s h = G.takes_from running s h

pub takes_same : {p q : Plan ℕ} {r : Next State} → p ≡ q → Takes running p r → Takes running q r
takes_same e h = G.takes_same running e h
