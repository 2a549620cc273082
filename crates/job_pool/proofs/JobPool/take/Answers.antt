use Rattle.std.proofs.Common.{arith, sym, ap, ◌∙◌, subst, ◌++◌, ◌∷◌, []}
use Rattle.atomic_table.specs.Table.{Me}
use Rattle.job_pool.specs.declared.Taken.{Taken}
use Rattle.job_pool.specs.declared.rules.Hand.{Hand}
use Rattle.job_pool.specs.declared.rules.Heard.{Heard}
use Rattle.job_pool.specs.Passes.{PoolId, Jobs, HasAll}
use Rattle.job_pool.specs.Pooling.{times}
use Rattle.job_pool.specs.Taking.{Takes, IsEmptied}
use Rattle.job_pool.proofs.Keeps.{pops, learns, no_more}
use Rattle.job_pool.proofs.Ringing.{hears_bell}
use Rattle.job_pool.proofs.JobPool.take.Goals as goal
use Rattle.job_pool.proofs.JobPool.take.Goals.{then-load-eq1, else-load-eq1}

pub pop_as-requires-clause-rule : goal.pop_as-requires-clause-rule
pop_as-requires-clause-rule g c = (pops c.pass.inside.hook.id c.pass.inside.hook.me.view.client c.pass.invariant.3, learns c.pass.inside.hook.id c.pass.inside.hook.me.view.client)

pub load-requires : goal.load-requires
load-requires g c = (
  ap (λ (x : Jobs). x.pool.bell) c.pass.view_is ∙ ap (λ (x : PoolId). x.bell) c.requires.pool ∙ sym (ap (λ (x : PoolId). x.bell) c.self.view_is),
  (let w = c.self.invariant in omega arith),
  hears_bell c.self.inside.bell.shared.table_id.slots c.pass.inside.seat.id c.pass.inside.seat.me,
)

pub returns-in-Some : goal.returns-in-Some
returns-in-Some g c =
    let e = c.in-Some.ensures in
    let s = c.pass.view_is in
    let pool = ap (λ (x : PoolId). x.line) c.self.view_is ∙ sym (ap (λ (x : PoolId). x.line) c.requires.pool) in
    let line = (λ i. record { web = e.queue.0.0.0 i; heap = e.queue.0.0.1 i }) ∙ pool in
    let bell = ap (λ (x : Jobs). x.pool.bell) s in
    let put = ap (λ (h : Hand). h.put) e.rule.0.0 ∙ ap (λ (x : Jobs). x.pushed) s in
    let taken = ap (λ (h : Hand). h.taken) e.rule.0.0 ∙ ap (λ (x : Jobs). x.handed ++ c.in-Some.job ∷ []) s in
    let part = ap (λ (h : Hand). h.part) e.rule.0.0 ∙ ap (λ (x : Jobs). x.part) s in
    let whole = ap (λ (h : Hand). h.whole) e.rule.0.0 ∙ ap (λ (x : Jobs). x.whole) s in
    let closed = ap (λ (x : Jobs). x.closed) s in
    record {
      take = (
        λ i. record { pool = record { line = line i; bell = bell i }; pushed = put i; handed = taken i; part = part i; whole = whole i; closed = closed i },
        λ all x. e.rule.0.1 (ap (λ (x : Jobs). x.part) s ∙ all ∙ sym (ap (λ (x : Jobs). x.whole) s)) x,
      );
    }

pub returns-after-load-eq1 : goal.returns-after-load-eq1
returns-after-load-eq1 g c =
    let e = c.in-None.ensures in
    let s = c.pass.view_is in
    let l = c.load.ensures in
    let pool = ap (λ (x : PoolId). x.line) c.self.view_is ∙ sym (ap (λ (x : PoolId). x.line) c.requires.pool) in
    let line = (λ i. record { web = e.queue.0.0.0 i; heap = e.queue.0.0.1 i }) ∙ pool in
    let bell = l.0 ∙ ap (λ (x : Jobs). x.pool.bell) s in
    let put = ap (λ (h : Hand). h.put) e.rule.0 ∙ ap (λ (x : Jobs). x.pushed) s in
    let taken = ap (λ (h : Hand). h.taken) e.rule.0 ∙ ap (λ (x : Jobs). x.handed) s in
    let part = ap (λ (h : Hand). h.part) e.rule.0 ∙ ap (λ (x : Jobs). x.part) s in
    let whole = ap (λ (h : Hand). h.whole) e.rule.0 ∙ ap (λ (x : Jobs). x.whole) s in
    let emptied : HasAll c.args.pass.now → IsEmptied c.args.pass.now = λ all x.
    sym (ap (λ (y : Jobs). times x y.pushed) s) ∙ no_more _ _ (e.rule.1 (ap (λ (x : Jobs). x.part) s ∙ all ∙ sym (ap (λ (x : Jobs). x.whole) s)) x) ∙ ap (λ (y : Jobs). times x y.handed) s in
    let q : Jobs = record { pool = record { line = record { web = c.pop_as.new.pass.web; heap = c.pop_as.new.pass.heap }; bell = c.load.new.seat.table_id }; pushed = c.pop_as.new.pass.me.view.client.put; handed = c.pop_as.new.pass.me.view.client.taken; part = c.pop_as.new.pass.me.view.client.part; whole = c.pop_as.new.pass.me.view.client.whole; closed = c.load.new.seat.me.0.knows } in
    record {
      take = elim c.if-load-eq1.branch [
        | then-load-eq1 w ↦ (
            let closed = ap (λ (m : Me (Unit {0}) Heard). m.0.knows) (l.2.0 w.if-load-eq1.true) in
            subst (λ (t : Taken). Takes c.args.pass.now t q) (sym w.result-is) (λ i. record { pool = record { line = line i; bell = bell i }; pushed = put i; handed = taken i; part = part i; whole = whole i; closed = closed i }, emptied)
            )
        | else-load-eq1 w ↦ (
            let closed = ap (λ (m : Me (Unit {0}) Heard). m.0.knows) (l.2.1 w.if-load-eq1.false) ∙ ap (λ (x : Jobs). x.closed) s in
            subst (λ (t : Taken). Takes c.args.pass.now t q) (sym w.result-is) (λ i. record { pool = record { line = line i; bell = bell i }; pushed = put i; handed = taken i; part = part i; whole = whole i; closed = closed i }, emptied)
            )
      ];
    }
