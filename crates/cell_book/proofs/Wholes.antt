-- All that a book keeps, over each step.
use Rattle.std.proofs.Common.{◌≡◌, ◌≢◌, ℕ, zero, suc, ◌+◌, ◌<◌, ◌≤◌, Bool, true, false, cond, List, [], ◌∷◌, ◌++◌, length, take, get_or, Some, None, Option, refl, ap, sym, subst, ◌∙◌, arith, le_refl}
use Rattle.std.specs.Prelude.{slice_get, slice_set}
use Rattle.std.proofs.lemmas.Option.{none-some, same_Some, slice_get_within}
use Rattle.seq_values.specs.declared.value.Value.{Value}
use Rattle.seq_values.specs.declared.term.Term.{Term}
use Rattle.seq_values.specs.declared.words.Kind.{Kind}
use Rattle.cell_book.specs.declared.cell.State.{State}
use Rattle.cell_book.specs.declared.cell.State.TheVariants as S
use Rattle.cell_book.specs.declared.cell.ClaimEnd.{ClaimEnd}
use Rattle.cell_book.specs.declared.cell.Attempt.{Attempt}
use Rattle.cell_book.specs.declared.cell.Cell.{Cell}
use Rattle.cell_book.specs.declared.cell.Form.{Form}
use Rattle.cell_book.specs.declared.claims.Spot.{Spot}
use Rattle.cell_book.specs.declared.claims.Spot.TheVariants as At
use Rattle.cell_book.specs.declared.claims.Entry.{Entry}
use Rattle.cell_book.specs.Account.{Account, Duty, new_book, cell_at, opened, closed, is_open, forces, made_by, IsFresh}
use Rattle.cell_book.specs.Steps.{with_cell, with_form, begun_form, new_cell, claimed, after_claim, values_in, cell_counts, form_counts, HasOpen, IsOpenIn}
use Rattle.cell_book.specs.Counts.{is_done, is_error}
use Rattle.cell_book.specs.Glimpses.{glimpse}
use Rattle.cell_book.specs.Registers.{closed_at, WasOpened, IsRegistered}
use Rattle.cell_book.specs.Kept.{lowered_to, IsKept, IsCounted, IsPastFutures, IsWhole}
use Rattle.cell_book.proofs.Lists.{length_push, get_last, set_here}
use Rattle.cell_book.proofs.Opening.{begun_opens, made_opens, claimed_opens, ended_opens, form_opens, fresh_opens}
use Rattle.cell_book.proofs.Keeping.{begun_kept, made_kept, claimed_kept, ended_kept, form_kept}
use Rattle.cell_book.proofs.Moves.{begun_reaches, made_reaches, written_reaches, claimed_stays, after_stays, form_onward}
use Rattle.cell_book.proofs.Registering.{closed_long, same_registered, opened_registered, closed_registered}
use Rattle.cell_book.proofs.Counting.{none_counted, more_counted, made_counted, claimed_counted, ended_counted, none_past, made_past, claimed_past, lowered_past, room_for}
use Rattle.cell_book.proofs.Calls.{at_place, read_at, end_is, form_is}
use Rattle.cell_book.proofs.Stepping.{new_sound}

pub new_whole : (limit : ℕ) → IsWhole (new_book limit) [] [] [] [] 0 0 0
new_whole limit = record {
  kept = record {
    sound = new_sound limit;
    fresh = λ c h. record { cells = λ i p e. absurd (none-some p e); forms = λ k f e. absurd (none-some f e) };
    makes = record { cells_long = refl; forms_long = refl; of_cells = λ i c n p e s g. absurd (none-some p e); of_forms = λ k m c n e g. absurd (none-some (begun_form m c) e) };
    settled_first = refl;
  };
  registered = record { spots = λ n x e. absurd (none-some x e); often = λ n x e. absurd (none-some x e) };
  counted = none_counted;
  futures = none_past;
}

-- another note
noted_was : (a : Account) (spent gave_up : Bool) (n : ℕ) (s : Spot) → WasOpened a n s → WasOpened (record { limit = a.limit; cells = a.cells; forms = a.forms; spent = spent; gave_up = gave_up }) n s
noted_was a spent gave_up n (At.Form k) w = w
noted_was a spent gave_up n (At.Part id k) w = w

pub noted_whole : (a : Account) (cm fm : List ℕ) (settled : List Value) (claims : List Entry) (first realised failed : ℕ) (spent gave_up : Bool) → IsWhole a cm fm settled claims first realised failed → IsWhole (record { limit = a.limit; cells = a.cells; forms = a.forms; spent = spent; gave_up = gave_up }) cm fm settled claims first realised failed
noted_whole a cm fm settled claims first realised failed spent gave_up w = record {
  kept = record {
    sound = record { once = w.kept.sound.once; within = w.kept.sound.within };
    fresh = λ c h. record { cells = (w.kept.fresh c h).cells; forms = (w.kept.fresh c h).forms };
    makes = record { cells_long = w.kept.makes.cells_long; forms_long = w.kept.makes.forms_long; of_cells = w.kept.makes.of_cells; of_forms = w.kept.makes.of_forms };
    settled_first = w.kept.settled_first;
  };
  registered = record { spots = λ n x e. noted_was a spent gave_up n x.spot (w.registered.spots n x e); often = w.registered.often };
  counted = w.counted;
  futures = w.futures;
}

-- another place before which no future is empty
pub found_whole : (a : Account) (cm fm : List ℕ) (settled : List Value) (claims : List Entry) (first first2 realised failed : ℕ) → IsPastFutures a.cells first2 → IsWhole a cm fm settled claims first realised failed → IsWhole a cm fm settled claims first2 realised failed
found_whole a cm fm settled claims first first2 realised failed f w = record { kept = w.kept; registered = w.registered; counted = w.counted; futures = f }

-- a form is begun
begun_whole : (a : Account) (cm fm : List ℕ) (settled : List Value) (claims : List Entry) (first realised failed number : ℕ) → IsWhole a cm fm settled claims first realised failed →
    IsWhole (record a { forms = a.forms ++ begun_form number (length claims) ∷ [] }) cm (fm ++ 0 ∷ []) (values_in a.forms) (claims ++ record { spot = At.Form (length a.forms); ended = false } ∷ []) first realised failed
begun_whole a cm fm settled claims first realised failed number w = record {
  kept = subst (λ (n : ℕ). IsKept b cm (fm ++ 0 ∷ []) (values_in a.forms) n) (let l = length_push claims e in omega arith) (begun_kept a cm fm settled (length claims) number w.kept);
  registered = opened_registered a b claims (At.Form (length a.forms)) (begun_reaches a number (length claims)) (λ n. begun_opens a number (length claims) n) (fresh_opens a (length claims) (w.kept.fresh (length claims) (le_refl (length claims))))
      (begun_form number (length claims), get_last a.forms (begun_form number (length claims)) (length a.forms) refl, refl) w.registered;
  counted = subst (λ (n : ℕ). IsCounted a.cells n realised failed) (sym (length_push claims e)) (more_counted a.cells (length claims) realised failed w.counted);
  futures = w.futures;
}
  where
    b : Account
    b = record a { forms = a.forms ++ begun_form number (length claims) ∷ [] }

    e : Entry
    e = record { spot = At.Form (length a.forms); ended = false }

pub begun_whole_as : (a : Account) (cm fm : List ℕ) (settled : List Value) (claims : List Entry) (first realised failed number : ℕ) (forms : List Form) (fm2 : List ℕ) (settled2 : List Value) (claims2 : List Entry) → IsWhole a cm fm settled claims first realised failed →
    forms ≡ a.forms ++ begun_form number (length claims) ∷ [] → fm2 ≡ fm ++ 0 ∷ [] → settled2 ≡ values_in a.forms → claims2 ≡ claims ++ record { spot = At.Form (length a.forms); ended = false } ∷ [] → IsWhole (record a { forms = forms }) cm fm2 settled2 claims2 first realised failed
begun_whole_as a cm fm settled claims first realised failed number forms fm2 settled2 claims2 w e g h i =
    subst (λ (z : List Form × List ℕ × List Value × List Entry). IsWhole (record a { forms = z.0 }) cm z.1 z.2 z.3 first realised failed) (λ j. (sym e j, sym g j, sym h j, sym i j)) (begun_whole a cm fm settled claims first realised failed number w)

-- a work makes a cell
pub made_whole_as : (a : Account) (cm fm : List ℕ) (settled : List Value) (claims : List Entry) (first realised failed n : ℕ) (by : Duty) (t : Term) (kind : Kind) (cells : List Cell) (cm1 cm2 fm2 : List ℕ) → IsWhole a cm fm settled claims first realised failed → IsOpenIn a by → length a.cells < a.limit → n ≡ length (made_by by.claim a) + 1 →
    cells ≡ a.cells ++ new_cell a by t kind ∷ [] → cm1 ≡ cm ++ 0 ∷ [] → cm2 ≡ cell_counts by.place cm1 n → fm2 ≡ form_counts by.place fm n → IsWhole (record a { cells = cells }) cm2 fm2 settled claims first realised failed
made_whole_as a cm fm settled claims first realised failed n by t kind cells cm1 cm2 fm2 w o h e c1 c2 c3 c4 =
    subst (λ (z : List Cell × List ℕ × List ℕ). IsWhole (record a { cells = z.0 }) z.1 z.2 settled claims first realised failed) (λ i. (sym c1 i, sym (c3 ∙ ap (λ l. cell_counts by.place l n) c2) i, sym c4 i)) (record {
      kept = made_kept a cm fm settled (length claims) n by t kind w.kept o h (omega arith);
      registered = same_registered a (record a { cells = a.cells ++ new_cell a by t kind ∷ [] }) claims (made_reaches a by t kind) (λ c. made_opens a by t kind c) w.registered;
      counted = made_counted a by t kind (length claims) realised failed w.counted;
      futures = made_past a.cells (new_cell a by t kind) first w.futures;
    })

-- a claim is opened on a cell
claimed_whole : (a : Account) (cm fm : List ℕ) (settled : List Value) (claims : List Entry) (first realised failed i : ℕ) (asker : Option ℕ) (p : Cell) → IsWhole a cm fm settled claims first realised failed → slice_get a.cells i ≡ Some p → p.state ≡ S.Empty → ((c : ℕ) → length claims ≤ c → asker ≢ Some c) →
    IsWhole (with_cell a (suc i) (claimed p (length claims) asker)) (slice_set cm i 0) fm settled (claims ++ record { spot = At.Part (suc i) (length p.attempts); ended = false } ∷ []) first realised failed
claimed_whole a cm fm settled claims first realised failed i asker p w at s named = record {
  kept = subst (λ (n : ℕ). IsKept b (slice_set cm i 0) fm settled n) (let l = length_push claims e in omega arith) (claimed_kept a cm fm settled (length claims) i asker p w.kept at s named);
  registered = opened_registered a b claims (At.Part (suc i) (length p.attempts)) (written_reaches a i 0 p q at (claimed_stays p (length claims) asker s)) (λ n. claimed_opens a (suc i) (length claims) asker p n at s)
      (fresh_opens a (length claims) (w.kept.fresh (length claims) (le_refl (length claims)))) (q, opened (length claims) asker, set_here a.cells i p q at, get_last p.attempts (opened (length claims) asker) (length p.attempts) refl, refl) w.registered;
  counted = subst (λ (n : ℕ). IsCounted b.cells n realised failed) (sym (length_push claims e)) (claimed_counted a.cells i (length claims) (length claims) realised failed asker p at s w.counted);
  futures = claimed_past a.cells i (length claims) first asker p w.futures;
}
  where
    q : Cell
    q = claimed p (length claims) asker

    b : Account
    b = with_cell a (suc i) q

    e : Entry
    e = record { spot = At.Part (suc i) (length p.attempts); ended = false }

pub claimed_whole_as : (a : Account) (cm fm : List ℕ) (settled : List Value) (claims : List Entry) (first realised failed id i : ℕ) (asker : Option ℕ) (p : Cell) (cells : List Cell) (claims2 : List Entry) → IsWhole a cm fm settled claims first realised failed → i + 1 ≡ id → slice_get a.cells i ≡ Some p → p.state ≡ S.Empty → ((c : ℕ) → IsFresh a c → asker ≢ Some c) →
    cells ≡ (with_cell a id (claimed p (length claims) asker)).cells → claims2 ≡ claims ++ record { spot = At.Part id (length p.attempts); ended = false } ∷ [] → IsWhole (record a { cells = cells }) (slice_set cm i 0) fm settled claims2 first realised failed
claimed_whole_as a cm fm settled claims first realised failed id i asker p cells claims2 w is at s named g h =
    let k : suc i ≡ id = omega arith in
    subst (λ (z : List Cell × List Entry). IsWhole (record a { cells = z.0 }) (slice_set cm i 0) fm settled z.1 first realised failed) (λ j. (sym g j, sym h j))
    (subst (λ (n : ℕ). IsWhole (with_cell a n (claimed p (length claims) asker)) (slice_set cm i 0) fm settled (claims ++ record { spot = At.Part n (length p.attempts); ended = false } ∷ []) first realised failed) k (claimed_whole a cm fm settled claims first realised failed i asker p w at s (λ c l. named c (w.kept.fresh c l))))

-- a claim on a cell ends
ended_whole : (a : Account) (cm fm : List ℕ) (settled : List Value) (claims : List Entry) (first realised failed realised2 failed2 i claim : ℕ) (asker : Option ℕ) (past : List Attempt) (end : ClaimEnd) (state : State) (p : Cell) → IsWhole a cm fm settled claims first realised failed → slice_get a.cells i ≡ Some p → HasOpen p claim asker past → ((c : ℕ) → forces c state ≡ false) → realised2 ≡ realised + cond (is_done state) 1 0 → failed2 ≡ failed + cond (is_error end) 1 0 →
    IsWhole (with_cell a (suc i) (after_claim p claim asker past end state)) cm fm settled (closed_at claim claims) (lowered_to first i p.kind state) realised2 failed2
ended_whole a cm fm settled claims first realised failed realised2 failed2 i claim asker past end state p w at h idle r f = record {
  kept = subst (λ (n : ℕ). IsKept b cm fm settled n) (sym (closed_long claim claims)) (ended_kept a cm fm settled (length claims) i claim asker past end state p w.kept at h idle);
  registered = closed_registered a b claims claim (written_reaches a i 0 p q at (after_stays p claim asker past end state h)) w.kept.sound (λ n. ended_opens a (suc i) claim asker past end state p n at h (idle n)) w.registered;
  counted = subst (λ (n : ℕ). IsCounted b.cells n realised2 failed2) (sym (closed_long claim claims)) (ended_counted a.cells i claim (length claims) realised realised2 failed failed2 asker past end state p at h w.counted r f);
  futures = lowered_past a.cells i first p.kind state q refl refl w.futures;
}
  where
    q : Cell
    q = after_claim p claim asker past end state

    b : Account
    b = with_cell a (suc i) q

pub ended_whole_as : (a : Account) (cm fm : List ℕ) (settled : List Value) (claims claims2 : List Entry) (first realised failed first2 realised2 failed2 id i claim : ℕ) (end : ClaimEnd) (state : State) (seen old new : Cell) → IsWhole a cm fm settled claims first realised failed → i + 1 ≡ id → seen ≡ get_or a.cells i seen → old ≡ get_or a.cells i old →
    ((c : ℕ) (asker : Option ℕ) (past : List Attempt) → HasOpen old c asker past → new ≡ after_claim old c asker past end state) → ((p : Cell) × (asker : Option ℕ) × (past : List Attempt) × (cell_at a id ≡ Some p) × HasOpen p claim asker past) → ((c : ℕ) → forces c state ≡ false) →
    realised2 ≡ realised + cond (is_done state) 1 0 → failed2 ≡ failed + cond (is_error end) 1 0 → first2 ≡ lowered_to first i seen.kind state → claims2 ≡ closed_at claim claims → IsWhole (record a { cells = slice_set a.cells i new }) cm fm settled claims2 first2 realised2 failed2
ended_whole_as a cm fm settled claims claims2 first realised failed first2 realised2 failed2 id i claim end state seen old new w e g1 g2 writes (p, asker, past, at, h) idle r f l c =
    let here = at_place a id i p e at in
    let in_range = slice_get_within a.cells i p here in
    let same : p ≡ seen = same_Some p seen (sym here ∙ read_at a.cells i seen in_range g1) in
    let low : lowered_to first i p.kind state ≡ first2 = ap (λ (x : Cell). lowered_to first i x.kind state) same ∙ sym l in
    subst (λ (z : Cell × ℕ × List Entry). IsWhole (record a { cells = slice_set a.cells i z.0 }) cm fm settled z.2 z.1 realised2 failed2) (λ j. (sym (end_is a id i claim asker past end state p old new e g2 writes at h) j, low j, sym c j)) (ended_whole a cm fm settled claims first realised failed realised2 failed2 i claim asker past end state p w here h idle r f)

-- the claim on a form ends
form_whole : (a : Account) (cm fm : List ℕ) (settled : List Value) (claims : List Entry) (first realised failed k number claim : ℕ) (end : ClaimEnd) (value : Option Value) → IsWhole a cm fm settled claims first realised failed → slice_get a.forms k ≡ Some (begun_form number claim) → is_open end ≡ false →
    IsWhole (with_form a k (record { number = number; attempt = closed claim None end; value = value })) cm fm (take k settled) (closed_at claim claims) first realised failed
form_whole a cm fm settled claims first realised failed k number claim end value w at n = record {
  kept = subst (λ (i : ℕ). IsKept b cm fm (take k settled) i) (sym (closed_long claim claims)) (form_kept a cm fm settled (take k settled) (length claims) k number claim end value w.kept at n refl);
  registered = closed_registered a b claims claim ((form_onward a k number claim end value (suc claim) at n (λ e. absurd (omega arith))).holds.reaches) w.kept.sound (λ i. form_opens a k number claim end value i at n) w.registered;
  counted = subst (λ (i : ℕ). IsCounted a.cells i realised failed) (sym (closed_long claim claims)) w.counted;
  futures = w.futures;
}
  where
    b : Account
    b = with_form a k (record { number = number; attempt = closed claim None end; value = value })

pub form_whole_as : (a : Account) (cm fm : List ℕ) (settled settled2 : List Value) (claims claims2 : List Entry) (first realised failed k claim : ℕ) (end : ClaimEnd) (value : Option Value) (old new : Form) → IsWhole a cm fm settled claims first realised failed → ((number : ℕ) × (slice_get a.forms k ≡ Some (begun_form number claim))) → is_open end ≡ false → old ≡ get_or a.forms k old →
    new ≡ record old { attempt = record old.attempt { end = end }; value = value } → settled2 ≡ take k settled → claims2 ≡ closed_at claim claims → IsWhole (record a { forms = slice_set a.forms k new }) cm fm settled2 claims2 first realised failed
form_whole_as a cm fm settled settled2 claims claims2 first realised failed k claim end value old new w (number, at) n g e s c =
    subst (λ (z : Form × List Value × List Entry). IsWhole (record a { forms = slice_set a.forms k z.0 }) cm fm z.1 z.2 first realised failed) (λ j. (sym (form_is a k number claim end value old new at g e) j, sym s j, sym c j)) (form_whole a cm fm settled claims first realised failed k number claim end value w at n)

-- there is room in the counts
pub forced_room : (a : Account) (cm fm : List ℕ) (settled : List Value) (claims : List Entry) (first realised failed id i claim : ℕ) → IsWhole a cm fm settled claims first realised failed → i + 1 ≡ id → ((p : Cell) × (asker : Option ℕ) × (past : List Attempt) × (cell_at a id ≡ Some p) × HasOpen p claim asker past) → realised < a.limit
forced_room a cm fm settled claims first realised failed id i claim w e (p, asker, past, at, h) = room_for a.cells (length claims) realised failed i p a.limit w.counted w.kept.sound.within (at_place a id i p e at) (ap is_done h.state)
