use Rattle.std.proofs.Common.{ℕ, Option, None, subst}
use Rattle.clj_script.specs.declared.top.Tops.{Tops}
use Rattle.clj_script.specs.Entries.{form_at}
use Rattle.clj_script.specs.Tops.{HasTaken, IsUnthreaded}
use Rattle.clj_script.proofs.TaskLemmas.{on_ok}
use Rattle.clj_script.proofs.StandingLemmas.{one_followed, taken_followed}
use Rattle.clj_script.proofs.top.Tops.take.Goals as goal

pub loop-written-preserved : goal.loop-written-preserved
loop-written-preserved c =
    one_followed _ c.loop-written.self _ _ c.loop-written.standing _ c.loop-written.invariant
    (subst (λ (o : Option ℕ). IsUnthreaded c.loop-written.self c.unthreaded.new.self (form_at c.loop-written.self.sources.items c.loop-written.standing) o) c.in-Some.is c.in_ok-written.ensures)

pub returns : goal.returns
returns c =
    let u : IsUnthreaded c.loop-written.self c.unthreaded.new.self (form_at c.loop-written.self.sources.items c.loop-written.standing) None =
    subst (λ (o : Option ℕ). IsUnthreaded c.loop-written.self c.unthreaded.new.self (form_at c.loop-written.self.sources.items c.loop-written.standing) o) c.in_default.is c.in_ok-written.ensures in
    on_ok _ (λ t. taken_followed _ c.loop-written.self _ _ c.loop-written.standing c.loop-written.invariant
    (subst (λ (m : Tops). HasTaken m c.take_form.new.self (form_at m.sources.items c.loop-written.standing)) u.0 t)) c.take_form.ensures
