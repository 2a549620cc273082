use Rattle.std.proofs.Common.{refl, sym, ap, arith}
use Rattle.eval_frames.specs.Frames.{ground, script_in, beneath}
use Rattle.seq_plan.specs.Plan.{then}
use Rattle.seq_plan.specs.Turns.{node}
use Rattle.eval_frames.proofs.Moving.{stands}
use Rattle.eval_frames.proofs.Going.{comes_on, comes_event, comes_throws}
use Rattle.eval_frames.proofs.turning.carry.Goals as goal

pub returns-in-Need : goal.returns-in-Need
returns-in-Need g c =
    let by = ground g.R.Rule.running g.R.Rules.table c.args.code.now in
    comes_event by (ap (λ t. then (node t (g.R.Rule.running.left c.args.state)) (beneath by c.args.rest)) (sym c.in-Need.is)) (omega arith) c.asks.ensures

pub returns-in-Seq : goal.returns-in-Seq
returns-in-Seq g c =
    let by = ground g.R.Rule.running g.R.Rules.table c.args.code.now in
    comes_event by (ap (λ t. then (node t (g.R.Rule.running.left c.args.state)) (beneath by c.args.rest)) (sym c.in-Seq.is)) (omega arith) c.seeks.ensures

pub returns-in-Visit : goal.returns-in-Visit
returns-in-Visit g c =
    let by = ground g.R.Rule.running g.R.Rules.table c.args.code.now in
    comes_event by (ap (λ t. then (node t (g.R.Rule.running.left c.args.state)) (beneath by c.args.rest)) (sym c.in-Visit.is)) (omega arith) c.visits.ensures

pub returns-in_ok-event-in-Apply : goal.returns-in_ok-event-in-Apply
returns-in_ok-event-in-Apply g c =
    let by = ground g.R.Rule.running g.R.Rules.table c.args.code.now in
    comes_event by (ap (λ t. then (node t (g.R.Rule.running.left c.args.state)) (beneath by c.args.rest)) (sym c.in-Apply.is)) (omega arith) c.in_ok-event-in-Apply.ensures

pub returns-in-Make : goal.returns-in-Make
returns-in-Make g c =
    let by = ground g.R.Rule.running g.R.Rules.table c.args.code.now in
    record { goes = stands (script_in by) refl (ap (λ t. then (node t (g.R.Rule.running.left c.args.state)) (beneath by c.args.rest)) (sym c.in-Make.is)); took = refl; light = omega arith }

pub returns-in-Give : goal.returns-in-Give
returns-in-Give g c =
    let by = ground g.R.Rule.running g.R.Rules.table c.args.code.now in
    comes_on by (ap (λ t. then (node t (g.R.Rule.running.left c.args.state)) (beneath by c.args.rest)) (sym c.in-Give.is)) (omega arith) c.ends.ensures

pub returns-in-Throw : goal.returns-in-Throw
returns-in-Throw g c =
    let by = ground g.R.Rule.running g.R.Rules.table c.args.code.now in
    comes_throws by c.fails.ensures (sym (ap (λ t. then (node t (g.R.Rule.running.left c.args.state)) (beneath by c.args.rest)) (sym c.in-Throw.is)))
