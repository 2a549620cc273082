use Rattle.std.proofs.Common.{◌≡◌, ℕ, suc, ◌+◌, [], ◌∷◌, ◌++◌, Some, Ok, ap, subst}
use Rattle.eval_frames.specs.Frames.{ground, asker_plan}
use Rattle.lawful_works.specs.Alone.{Quiets}
use Rattle.eval_works.specs.Asked.{ClaimedOn, OpensNew, held_then}
use Rattle.eval_stack.specs.Stack.{basis_of, all_claims, lowest}
use Rattle.eval_stack.specs.Turned.{claims_left, TurnNotes}
use Rattle.eval_stack.proofs.Claims.{lowest_push, lowest_stays, opened_held, held_top}
use Rattle.eval_stack.proofs.Standing.{law_in, law_out, names_out, run_open, over_stays, over_open, over_pushed, claim_halted}
use Rattle.eval_stack.proofs.Starting.{new_work, opened_begun}
use Rattle.eval_stack.proofs.Notes.{becomes_as, turn_then}
use Rattle.eval_stack.proofs.asking.claims_part.Goals as goal

pub claim-requires-clause-law : goal.claim-requires-clause-law
claim-requires-clause-law g c =
    let C = g.C.Cells in
    let s = c.args.cells.now in
    law_in g.R.Rule.running g.R.Rules.table c.args.setting.now (C.alone s) (C.law s) (C.noted s) c.args.code c.args.work c.requires.code c.requires.law

pub returns-in-Ok-Comes-clause-stands : goal.returns-in-Ok-Comes-clause-stands
returns-in-Ok-Comes-clause-stands g c =
    let C = g.C.Cells in
    let s = c.args.cells.now in
    let t = c.claim.new.cells in
    let e = c.in-Ok-Comes.ensures in
    let run = subst (λ r. ClaimedOn (ground g.R.Rule.running g.R.Rules.table c.args.code) c.args.setting.now.limit (C.seen t) c.args.work r) c.in-Ok-Comes.field-0-is e.run in
    let held = subst (λ r. (d : ℕ) → C.held t d ≡ held_then (C.held s) (Ok r) d) c.in-Ok-Comes.field-0-is e.held in
    let over = over_stays g.R.Rule.running g.R.Rules.table c.args.setting.now (C.seen s) (C.seen t) (C.held s) (C.held t) c.args.below.items c.args.work c.requires.over c.claim.ensures.others c.claim.ensures.holds held in
    record { over = over; top = record { code = c.requires.code; runs = run } }

pub returns-in-Ok-Comes-clause-held : goal.returns-in-Ok-Comes-clause-held
returns-in-Ok-Comes-clause-held g c =
    let C = g.C.Cells in
    let s = c.args.cells.now in
    let t = c.claim.new.cells in
    let e = c.in-Ok-Comes.ensures in
    let held = subst (λ r. (d : ℕ) → C.held t d ≡ held_then (C.held s) (Ok r) d) c.in-Ok-Comes.field-0-is e.held in
    λ d. ap (λ n. n + all_claims c.args.below.items c.args.work d) (held d)

pub returns-in-Ok-Comes-clause-law : goal.returns-in-Ok-Comes-clause-law
returns-in-Ok-Comes-clause-law g c =
    let C = g.C.Cells in
    let s = c.args.cells.now in
    let t = c.claim.new.cells in
    law_out g.R.Rule.running g.R.Rules.table c.args.setting.now (C.alone t) (C.law t) (C.noted t) c.args.code c.args.work c.requires.code c.claim.ensures.law

pub returns-in-Ok-Comes-clause-names : goal.returns-in-Ok-Comes-clause-names
returns-in-Ok-Comes-clause-names g c =
    let C = g.C.Cells in
    let s = c.args.cells.now in
    let t = c.claim.new.cells in
    names_out g.R.Rule.running g.R.Rules.table c.args.setting.now (C.alone s) (C.alone t) (C.law s) (C.law t) (C.noted s) (C.noted t) c.args.code c.args.work c.requires.code c.claim.ensures.names

pub returns-in-Ok-Comes-clause-quiet : goal.returns-in-Ok-Comes-clause-quiet
returns-in-Ok-Comes-clause-quiet g c = c.in-Ok-Comes.ensures.quiet

pub returns-in-Ok-Waits-clause-stands : goal.returns-in-Ok-Waits-clause-stands
returns-in-Ok-Waits-clause-stands g c =
    let C = g.C.Cells in
    let s = c.args.cells.now in
    let t = c.claim.new.cells in
    let e = c.in-Ok-Waits.ensures in
    let run = subst (λ r. ClaimedOn (ground g.R.Rule.running g.R.Rules.table c.args.code) c.args.setting.now.limit (C.seen t) c.args.work r) c.in-Ok-Waits.field-0-is e.run in
    let held = subst (λ r. (d : ℕ) → C.held t d ≡ held_then (C.held s) (Ok r) d) c.in-Ok-Waits.field-0-is e.held in
    let over = over_stays g.R.Rule.running g.R.Rules.table c.args.setting.now (C.seen s) (C.seen t) (C.held s) (C.held t) c.args.below.items c.args.work c.requires.over c.claim.ensures.others c.claim.ensures.holds held in
    (record { over = over; top = record { code = c.requires.code; runs = run.0 } }, run.1)

pub returns-in-Ok-Waits-clause-held : goal.returns-in-Ok-Waits-clause-held
returns-in-Ok-Waits-clause-held g c =
    let C = g.C.Cells in
    let s = c.args.cells.now in
    let t = c.claim.new.cells in
    let e = c.in-Ok-Waits.ensures in
    let held = subst (λ r. (d : ℕ) → C.held t d ≡ held_then (C.held s) (Ok r) d) c.in-Ok-Waits.field-0-is e.held in
    λ d. ap (λ n. n + all_claims c.args.below.items c.args.work d) (held d)

pub returns-in-Ok-Waits-clause-law : goal.returns-in-Ok-Waits-clause-law
returns-in-Ok-Waits-clause-law g c =
    let C = g.C.Cells in
    let s = c.args.cells.now in
    let t = c.claim.new.cells in
    law_out g.R.Rule.running g.R.Rules.table c.args.setting.now (C.alone t) (C.law t) (C.noted t) c.args.code c.args.work c.requires.code c.claim.ensures.law

pub returns-in-Ok-Waits-clause-names : goal.returns-in-Ok-Waits-clause-names
returns-in-Ok-Waits-clause-names g c =
    let C = g.C.Cells in
    let s = c.args.cells.now in
    let t = c.claim.new.cells in
    names_out g.R.Rule.running g.R.Rules.table c.args.setting.now (C.alone s) (C.alone t) (C.law s) (C.law t) (C.noted s) (C.noted t) c.args.code c.args.work c.requires.code c.claim.ensures.names

pub returns-in-Ok-Waits-clause-quiet : goal.returns-in-Ok-Waits-clause-quiet
returns-in-Ok-Waits-clause-quiet g c = c.in-Ok-Waits.ensures.quiet

pub opened_over-requires-clause-new : goal.opened_over-requires-clause-new
opened_over-requires-clause-new g c =
    let C = g.C.Cells in
    let s = c.args.cells.now in
    let t = c.claim.new.cells in
    let e = c.in-Ok-Opened.ensures in
    let run = subst (λ r. ClaimedOn (ground g.R.Rule.running g.R.Rules.table c.args.code) c.args.setting.now.limit (C.seen t) c.args.work r) c.in-Ok-Opened.field-0-is e.run in
    let y = basis_of g.R.Rules.table c.args.setting.now in
    new_work y (C.seen t) c.in-Ok-Opened.opened (opened_begun y (C.seen t) c.in-Ok-Opened.opened (Some c.args.work.claim) c.in-Ok-Opened.asker.cell run.1)

pub returns-in-Ok-Opened-clause-stands : goal.returns-in-Ok-Opened-clause-stands
returns-in-Ok-Opened-clause-stands g c =
    let C = g.C.Cells in
    let s = c.args.cells.now in
    let t = c.claim.new.cells in
    let e = c.in-Ok-Opened.ensures in
    let run = subst (λ r. ClaimedOn (ground g.R.Rule.running g.R.Rules.table c.args.code) c.args.setting.now.limit (C.seen t) c.args.work r) c.in-Ok-Opened.field-0-is e.run in
    let held = subst (λ r. (d : ℕ) → C.held t d ≡ held_then (C.held s) (Ok r) d) c.in-Ok-Opened.field-0-is e.held in
    let fresh = subst (λ r. OpensNew (C.held s) r) c.in-Ok-Opened.field-0-is e.fresh in
    let y = basis_of g.R.Rules.table c.args.setting.now in
    c.opened_over.ensures.stands (C.seen t) (C.held t) (over_pushed g.R.Rule.running g.R.Rules.table c.args.setting.now (C.seen s) (C.seen t) (C.held s) (C.held t) c.args.below.items (record { work = c.args.work; code = c.args.code; asker = c.in-Ok-Opened.asker }) c.in-Ok-Opened.opened c.requires.over c.claim.ensures.others c.claim.ensures.holds held fresh (record { code = c.requires.code; asks = run.0 }) run.1) (opened_begun y (C.seen t) c.in-Ok-Opened.opened (Some c.args.work.claim) c.in-Ok-Opened.asker.cell run.1)

pub returns-in-Ok-Opened-clause-lowest : goal.returns-in-Ok-Opened-clause-lowest
returns-in-Ok-Opened-clause-lowest g c =
    let C = g.C.Cells in
    let s = c.args.cells.now in
    let t = c.claim.new.cells in
    let e = c.in-Ok-Opened.ensures in
    lowest_stays (lowest (c.args.below.items ++ (record { work = c.args.work; code = c.args.code; asker = c.in-Ok-Opened.asker }) ∷ []) c.in-Ok-Opened.opened) (lowest c.args.below.items c.args.work) c.opened_over.result (lowest_push c.args.below.items (record { work = c.args.work; code = c.args.code; asker = c.in-Ok-Opened.asker }) c.in-Ok-Opened.opened) c.opened_over.ensures.lowest

pub returns-in-Ok-Opened-clause-held : goal.returns-in-Ok-Opened-clause-held
returns-in-Ok-Opened-clause-held g c =
    let C = g.C.Cells in
    let s = c.args.cells.now in
    let t = c.claim.new.cells in
    let e = c.in-Ok-Opened.ensures in
    let held = subst (λ r. (d : ℕ) → C.held t d ≡ held_then (C.held s) (Ok r) d) c.in-Ok-Opened.field-0-is e.held in
    λ d. opened_held (C.held s) (C.held t) c.args.below.items (record { work = c.args.work; code = c.args.code; asker = c.in-Ok-Opened.asker }) c.in-Ok-Opened.opened d (held d) (claims_left c.opened_over.result d) (c.opened_over.ensures.left d)

pub returns-in-Ok-Opened-clause-law : goal.returns-in-Ok-Opened-clause-law
returns-in-Ok-Opened-clause-law g c =
    let C = g.C.Cells in
    let s = c.args.cells.now in
    let t = c.claim.new.cells in
    law_out g.R.Rule.running g.R.Rules.table c.args.setting.now (C.alone t) (C.law t) (C.noted t) c.args.code c.args.work c.requires.code c.claim.ensures.law

pub returns-in-Ok-Opened-clause-names : goal.returns-in-Ok-Opened-clause-names
returns-in-Ok-Opened-clause-names g c =
    let C = g.C.Cells in
    let s = c.args.cells.now in
    let t = c.claim.new.cells in
    names_out g.R.Rule.running g.R.Rules.table c.args.setting.now (C.alone s) (C.alone t) (C.law s) (C.law t) (C.noted s) (C.noted t) c.args.code c.args.work c.requires.code c.claim.ensures.names

pub returns-in-Ok-Opened-clause-quiet : goal.returns-in-Ok-Opened-clause-quiet
returns-in-Ok-Opened-clause-quiet g c =
    let C = g.C.Cells in
    let s = c.args.cells.now in
    let t = c.claim.new.cells in
    let e = c.in-Ok-Opened.ensures in
    becomes_as (C.alone s) (C.noted s) (C.noted t) Quiets (TurnNotes c.opened_over.result) e.quiet (λ a b q. turn_then c.opened_over.result a b b q (c.opened_over.ensures.notes b))

pub returns-in-Err-clause-stands : goal.returns-in-Err-clause-stands
returns-in-Err-clause-stands g c =
    let C = g.C.Cells in
    let s = c.args.cells.now in
    let t = c.claim.new.cells in
    (over_open g.R.Rule.running g.R.Rules.table c.args.setting.now (C.seen s) (C.seen t) (C.held s) (C.held t) c.args.below.items c.args.work c.requires.over (run_open g.R.Rule.running g.R.Rules.table c.args.setting.now c.args.code (C.seen s) c.args.work (suc c.args.asker.rest.left) (asker_plan (ground g.R.Rule.running g.R.Rules.table c.args.code) c.args.asker) c.requires.run) c.claim.ensures.holds c.in-Err.ensures.held, claim_halted (C.seen t) c.in-Err.why c.in-Err.ensures.halts)

pub returns-in-Err-clause-held : goal.returns-in-Err-clause-held
returns-in-Err-clause-held g c = λ d. ap (λ n. n + all_claims c.args.below.items c.args.work d) (c.in-Err.ensures.held d)

pub returns-in-Err-clause-law : goal.returns-in-Err-clause-law
returns-in-Err-clause-law g c =
    let C = g.C.Cells in
    let s = c.args.cells.now in
    let t = c.claim.new.cells in
    law_out g.R.Rule.running g.R.Rules.table c.args.setting.now (C.alone t) (C.law t) (C.noted t) c.args.code c.args.work c.requires.code c.claim.ensures.law

pub returns-in-Err-clause-names : goal.returns-in-Err-clause-names
returns-in-Err-clause-names g c =
    let C = g.C.Cells in
    let s = c.args.cells.now in
    let t = c.claim.new.cells in
    names_out g.R.Rule.running g.R.Rules.table c.args.setting.now (C.alone s) (C.alone t) (C.law s) (C.law t) (C.noted s) (C.noted t) c.args.code c.args.work c.requires.code c.claim.ensures.names

pub returns-in-Err-clause-quiet : goal.returns-in-Err-clause-quiet
returns-in-Err-clause-quiet g c = c.in-Err.ensures.quiet

pub claim-requires-clause-own : goal.claim-requires-clause-own
claim-requires-clause-own g c =
    let C = g.C.Cells in
    let s = c.args.cells.now in
    held_top (C.held s) c.args.below.items c.args.work c.requires.over.own

pub returns-in-Ok-Opened-clause-ends : goal.returns-in-Ok-Opened-clause-ends
returns-in-Ok-Opened-clause-ends g c =
    let C = g.C.Cells in
    let s = c.args.cells.now in
    c.opened_over.ensures.ends (C.seen c.claim.new.cells) (lowest c.args.below.items c.args.work)
