-- What a call of a work leaves of a book that nobody shares, by the call on the book that it makes.
use Rattle.std.proofs.Common.{◌≡◌, Bool, Result, Ok, Err, sym, subst}
use Rattle.std.specs.Prelude.{IfErr}
use Rattle.cell_book.specs.declared.answers.MakeRefusal.{MakeRefusal}
use Rattle.cell_book.specs.declared.answers.MakeRefusal.TheVariants as M
use Rattle.cell_book.specs.declared.answers.ClaimRefusal.{ClaimRefusal}
use Rattle.cell_book.specs.declared.answers.ClaimRefusal.TheVariants as C
use Rattle.cell_book.specs.Account.{Account}
use Rattle.cell_book.specs.Steps.{MakeAnswer, ClaimAnswer}
use Rattle.eval_frames.specs.Frames.{Ground}
use Rattle.eval_frames.specs.declared.state.Asker.{Asker}
use Rattle.lawful_works.specs.Alone.{Becomes, Grows, Quiets, MakesQuietly, ClaimsQuietly}
use Rattle.eval_works.specs.declared.state.Halt.{Halt}
use Rattle.eval_works.specs.declared.state.Halt.TheVariants as H
use Rattle.eval_works.specs.declared.state.Claimed.{Claimed}
use Rattle.eval_works.specs.Halts.{make_halt}
use Rattle.eval_works.specs.Meanwhile.{HaltNotes, Meanwhile}
use Rattle.eval_works.specs.Asked.{NotOpened}

pub becomes_also : (alone : Bool) (noted noted2 : Account → Type 0) (P Q : Account → Account → Type 0) → ((a b : Account) → P a b → Q a b) → Becomes alone noted noted2 P → Becomes alone noted noted2 Q
becomes_also alone noted noted2 P Q f s = λ is a n. (let r = s is a n in (r.0, r.1, f a r.0 r.2))

-- a halt for want of memory
pub halted : (h : Halt) → h ≡ H.Memory → (a b : Account) → Quiets a b → Grows a b × HaltNotes h a b
halted h e a b s = (s.0, subst (λ z. HaltNotes z a b) (sym e) s.1)

pub quiet_meanwhile : {X : Type 0} (r : Result X Halt) → IfErr r (λ h. h ≡ H.Memory) → (a b : Account) → Quiets a b → Meanwhile r a b
quiet_meanwhile (Ok x) e a b s = s
quiet_meanwhile (Err h) e a b s = halted h e a b s

-- the part was made, or was not
pub made_meanwhile : {X : Type 0} (m : MakeAnswer) (id : _) → m ≡ Ok id → (r : Result X Halt) → IfErr r (λ h. h ≡ H.Memory) → (a b : Account) → MakesQuietly m a b → Meanwhile r a b
made_meanwhile m id is r e a b s = quiet_meanwhile r e a b (subst (λ z. MakesQuietly z a b) is s)

refused_meanwhile : (why : MakeRefusal) (a b : Account) → MakesQuietly (Err why) a b → Grows a b × HaltNotes (make_halt why) a b
refused_meanwhile (M.Spent back) a b s = s
refused_meanwhile (M.Memory back) a b s = s

pub unmade_meanwhile : (m : MakeAnswer) (why : MakeRefusal) → m ≡ Err why → (h : Halt) → h ≡ make_halt why → (a b : Account) → MakesQuietly m a b → Grows a b × HaltNotes h a b
unmade_meanwhile m why is h e a b s = subst (λ z. Grows a b × HaltNotes z a b) (sym e) (refused_meanwhile why a b (subst (λ z. MakesQuietly z a b) is s))

-- the claim was opened, or was not
pub opened_meanwhile : (m : ClaimAnswer) (w : _) → m ≡ Ok w → (a b : Account) → ClaimsQuietly m a b → Quiets a b
opened_meanwhile m w is a b s = subst (λ z. ClaimsQuietly z a b) is s

module _ {S : Type 0} {b : _} (by : Ground S) (x : Asker S b) where
  unopened : (why : ClaimRefusal) (r : Result (Claimed S b) Halt) → NotOpened by x why r → (c d : Account) → ClaimsQuietly (Err why) c d → Meanwhile r c d
  unopened (C.Seen l) (Ok z) t c d s = s
  unopened (C.Seen l) (Err h) t c d s = halted h t c d s
  unopened C.GaveUp r t c d s = subst (λ z. Meanwhile z c d) (sym t) s
  unopened C.Memory r t c d s = subst (λ z. Meanwhile z c d) (sym t) s

  pub unopened_meanwhile : (m : ClaimAnswer) (why : ClaimRefusal) → m ≡ Err why → (r : Result (Claimed S b) Halt) → NotOpened by x why r → (c d : Account) → ClaimsQuietly m c d → Meanwhile r c d
  unopened_meanwhile m why is r t c d s = unopened why r t c d (subst (λ z. ClaimsQuietly z c d) is s)
