use Rattle.std.proofs.Common.{◌≡◌, Err, refl, sym, subst, true}
use Rattle.lawful_works.specs.declared.stop.Stop.TheVariants as S
use Rattle.cell_book.specs.Glimpses.{glimpse}
use Rattle.lawful_works.specs.Basis.{Basis, IsGood, Governs}
use Rattle.lawful_works.specs.Named.{StaysGood}
use Rattle.lawful_works.specs.Evaluated.{IsBegun}
use Rattle.eval_stack.specs.Stack.{basis_in}
use Rattle.eval_stack.proofs.Forced.{came_of, only_held, only_own, only_closed, some_governs, basis_at}
use Rattle.eval_stack.proofs.Starting.{begun_open}
use Rattle.eval_stack.proofs.forcing.force.Goals as goal

pub forced-requires-clause-law : goal.forced-requires-clause-law
forced-requires-clause-law g c =
    let table = g.R.Rules.table in
    let p = c.args.program.now in
    let q = c.in-Ok.program in
    let e = basis_at table p q c.args.processors c.args.limit (sym c.in-Ok.ensures) in
    let a = c.args.cells.now.book.now in
    let y = basis_in table p c.args.processors c.args.limit in
    subst (λ (z : Basis). Governs true (λ _. Unit {0}) (λ b. b ≡ a) z) e (some_governs y a (λ _. Unit {0}) c.requires.good)

pub forced-requires-clause-begun : goal.forced-requires-clause-begun
forced-requires-clause-begun g c =
    let table = g.R.Rules.table in
    let p = c.args.program.now in
    let q = c.in-Ok.program in
    let e = basis_at table p q c.args.processors c.args.limit (sym c.in-Ok.ensures) in
    let a = c.args.cells.now.book.now in
    let y = basis_in table p c.args.processors c.args.limit in
    subst (λ (z : Basis). IsBegun z (glimpse a) c.args.work) e c.requires.begun

pub forced-requires-clause-only : goal.forced-requires-clause-only
forced-requires-clause-only g c = only_held c.args.cells.now.book.now c.args.work c.requires.only

pub returns-in-Ok-clause-came : goal.returns-in-Ok-clause-came
returns-in-Ok-clause-came g c =
    let table = g.R.Rules.table in
    let p = c.args.program.now in
    let q = c.in-Ok.program in
    let e = basis_at table p q c.args.processors c.args.limit (sym c.in-Ok.ensures) in
    let a = c.args.cells.now.book.now in
    let y = basis_in table p c.args.processors c.args.limit in
    let b = c.forced.new.cells.book.now in
    let f = c.forced.ensures in
    let n = f.quiet refl a refl in
    let names = subst (λ (z : Basis). StaysGood true (λ _. Unit {0}) (λ b. b ≡ a) true (λ _. Unit {0}) (λ d. d ≡ b) z) (sym e) f.names in
    λ rules alike good. came_of y a b n.0 c.args.work c.forced.result n.1 n.2 f.answer f.held rules (names rules alike (λ d is. subst (IsGood rules y) (sym is) good) b refl)

pub lose-requires-clause-own : goal.lose-requires-clause-own
lose-requires-clause-own g c = only_own c.args.cells.now.book.now c.args.work c.requires.only

pub lose-requires-clause-open : goal.lose-requires-clause-open
lose-requires-clause-open g c = begun_open (basis_in g.R.Rules.table c.args.program.now c.args.processors c.args.limit) (glimpse c.args.cells.now.book.now) c.args.work c.requires.begun

pub lose-requires-clause-law : goal.lose-requires-clause-law
lose-requires-clause-law g c = record { basis = (basis_in g.R.Rules.table c.args.program.now c.args.processors c.args.limit); governs = some_governs (basis_in g.R.Rules.table c.args.program.now c.args.processors c.args.limit) c.args.cells.now.book.now (λ _. Unit {0}) c.requires.good }

pub returns-in-Err-clause-came : goal.returns-in-Err-clause-came
returns-in-Err-clause-came g c =
    let a = c.args.cells.now.book.now in
    let b = c.lose.new.cells.book.now in
    let y = (basis_in g.R.Rules.table c.args.program.now c.args.processors c.args.limit) in
    let f = c.lose.ensures in
    let n = f.quiet refl a refl in
    λ rules alike good. came_of y a b n.0 c.args.work (Err S.Memory) n.1 n.2 tt (λ d. only_closed a b c.args.work c.requires.only d (f.held d)) rules (f.names y rules alike (λ d is. subst (IsGood rules y) (sym is) good) b refl)
