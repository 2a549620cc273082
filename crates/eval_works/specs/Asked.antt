-- What an ask comes to.
use Rattle.std.specs.Prelude.{◌≡◌, ◌≢◌, ℕ, ◌+◌, Some, Result, Ok, Err, IsTrue}
use Rattle.seq_base.specs.declared.thrown.Thrown.{Thrown}
use Rattle.seq_values.specs.declared.value.Value.{Value as Coded}
use Rattle.seq_values.specs.Plain.{plain}
use Rattle.eval_frames.specs.Frames.{Ground, beneath, asking_plan}
use Rattle.eval_frames.specs.Leads.{LeadsTo}
use Rattle.eval_frames.specs.declared.state.Asker.{Asker}
use Rattle.eval_frames.specs.declared.state.Event.{Event}
use Rattle.eval_frames.specs.declared.state.Event.TheVariants as E
use Rattle.cell_book.specs.declared.answers.Look.{Look}
use Rattle.cell_book.specs.declared.answers.Look.TheVariants as L
use Rattle.cell_book.specs.Account.{Duty}
use Rattle.cell_book.specs.Steps.{shown}
use Rattle.cell_book.specs.Glimpses.{Glimpse, at_claim}
use Rattle.lawful_works.specs.Calls.{Opened}
use Rattle.eval_works.specs.Standing.{AskerOn, EventOn}
use Rattle.cell_book.specs.declared.answers.ClaimRefusal.{ClaimRefusal}
use Rattle.cell_book.specs.declared.answers.ClaimRefusal.TheVariants as C
use Rattle.seq_values.specs.WellFormed.{is_well_formed}
use Rattle.eval_works.specs.declared.state.Halt.{Halt}
use Rattle.eval_works.specs.declared.state.Halt.TheVariants as H
use Rattle.eval_works.specs.declared.state.Asked.{Asked}
use Rattle.eval_works.specs.declared.state.Asked.TheVariants as A
use Rattle.eval_works.specs.declared.state.Claimed.{Claimed}
use Rattle.eval_works.specs.declared.state.Claimed.TheVariants as K

-- a part that was made; its value is well formed
abbrev pub IsKnown : Look → Type 0
IsKnown (L.Done v) = IsTrue (is_well_formed v)
IsKnown L.Unknown = ⊥
IsKnown _ = Unit {0}

abbrev pub IsKnownRefusal : ClaimRefusal → Type 0
IsKnownRefusal (C.Seen look) = (look ≢ L.Empty) × IsKnown look
IsKnownRefusal _ = Unit {0}

module _ {S : Type 0} {b : _} (by : Ground S) where
  -- what the asker does with what the part shows
  pub data Told (a : Asker S b) : Look → Asked S b → Type 0 where
    told_done : {v : Coded} {e : Event S b} → LeadsTo by a.rest.left (asking_plan by a.asking (beneath by a.rest) (plain v)) e → Told a (L.Done v) (A.Comes e)
    told_failed : {why : Thrown} → Told a (L.Failed why) (A.Comes (E.Throws why a.rest.left))
    told_empty : Told a L.Empty (A.Empty a)
    told_waits : {claim : ℕ} → Told a (L.Forcing claim) (A.Waits a claim)

  -- after a refused claim
  abbrev pub NotOpened : Asker S b → ClaimRefusal → Result (Claimed S b) Halt → Type 0
  NotOpened a (C.Seen look) (Ok (K.Comes e)) = Told a look (A.Comes e)
  NotOpened a (C.Seen look) (Ok (K.Waits x claim)) = Told a look (A.Waits x claim)
  NotOpened a (C.Seen look) (Ok (K.Opened x v)) = ⊥
  NotOpened a (C.Seen look) (Err why) = why ≡ H.Memory
  NotOpened a C.GaveUp r = r ≡ Err H.GaveUp
  NotOpened a C.Memory r = r ≡ Err H.Memory

  module _ (limit : ℕ) (h : Glimpse) (w : Duty) where
    -- the work goes on, or asks as before
    abbrev pub AskedOn : Asked S b → Type 0
    AskedOn (A.Comes e) = EventOn by limit h w e
    AskedOn (A.Empty a) = AskerOn by limit h w a × (shown (h.cells a.cell) ≡ L.Empty)
    AskedOn (A.Waits a claim) = AskerOn by limit h w a × (shown (h.cells a.cell) ≡ L.Forcing claim)

    -- or a work was opened for it
    abbrev pub ClaimedOn : Claimed S b → Type 0
    ClaimedOn (K.Opened a v) = AskerOn by limit h w a × Opened h (Some w.claim) a.cell v
    ClaimedOn (K.Comes e) = AskedOn (A.Comes e)
    ClaimedOn (K.Waits a claim) = AskedOn (A.Waits a claim)

module _ {S : Type 0} {b : _} where
  -- how often each claim is open afterwards
  abbrev pub held_then : (ℕ → ℕ) → Result (Claimed S b) Halt → ℕ → ℕ
  held_then mine (Ok (K.Opened a v)) c = at_claim v.claim c + mine c
  held_then mine (Ok (K.Comes e)) c = mine c
  held_then mine (Ok (K.Waits a claim)) c = mine c
  held_then mine (Err why) c = mine c

  -- a claim that was opened is a new one
  abbrev pub OpensNew : (ℕ → ℕ) → Claimed S b → Type 0
  OpensNew mine (K.Opened a v) = mine v.claim ≡ 0
  OpensNew mine (K.Comes e) = Unit {0}
  OpensNew mine (K.Waits a claim) = Unit {0}
