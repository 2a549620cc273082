-- What is noted in a book that nobody shares, over several calls.
use Rattle.std.proofs.Common.{◌≡◌, Bool, Result, Ok, Err, refl, sym, subst, ◌∙◌}
use Rattle.seq_values.specs.declared.value.Value.{Value as Coded}
use Rattle.cell_book.specs.Account.{Account}
use Rattle.cell_book.specs.Glimpses.{glimpse}
use Rattle.cell_book.proofs.Onwards.{reaches_same, reaches_then}
use Rattle.lawful_works.specs.Evaluated.{SameNotes}
use Rattle.lawful_works.specs.Alone.{Becomes, Grows, Quiets}
use Rattle.lawful_works.specs.declared.stop.Stop.{Stop}
use Rattle.eval_works.specs.Meanwhile.{HaltNotes}
use Rattle.eval_works.specs.declared.state.Halt.{Halt}
use Rattle.eval_works.specs.declared.state.Halt.TheVariants as H
use Rattle.eval_stack.specs.declared.state.Turned.{Turned}
use Rattle.eval_stack.specs.declared.state.Turned.TheVariants as T
use Rattle.eval_stack.specs.Turned.{TurnNotes}
use Rattle.eval_stack.specs.Came.{Comes, Concludes, EvaluationNotes, stop_of}

pub grows_same : (a : Account) → Grows a a
grows_same a = record { reaches = reaches_same (glimpse a); begun_same = refl }

pub grows_then : (a b c : Account) → Grows a b → Grows b c → Grows a c
grows_then a b c f g = record { reaches = reaches_then (glimpse a) (glimpse b) (glimpse c) f.reaches g.reaches; begun_same = g.begun_same ∙ f.begun_same }

pub notes_same : (a : Account) → SameNotes a a
notes_same a = (refl, refl)

pub notes_then : (a b c : Account) → SameNotes a b → SameNotes b c → SameNotes a c
notes_then a b c f g = (g.0 ∙ f.0, g.1 ∙ f.1)

pub quiets_same : (a : Account) → Quiets a a
quiets_same a = (grows_same a, notes_same a)

pub quiets_then : (a b c : Account) → Quiets a b → Quiets b c → Quiets a c
quiets_then a b c f g = (grows_then a b c f.0 g.0, notes_then a b c f.1 g.1)

halt_then : (h : Halt) (a b c : Account) → SameNotes a b → HaltNotes h b c → HaltNotes h a c
halt_then H.Spent a b c f g = g
halt_then H.GaveUp a b c f g = (notes_then a b c f g.0, sym f.1 ∙ g.1)
halt_then H.Memory a b c f g = notes_then a b c f g

pub halts_then : (h : Halt) (a b c : Account) → Quiets a b → Grows b c × HaltNotes h b c → Grows a c × HaltNotes h a c
halts_then h a b c f g = (grows_then a b c f.0 g.0, halt_then h a b c f.1 g.1)

pub halt_memory : (a b : Account) → Quiets a b → Grows a b × HaltNotes H.Memory a b
halt_memory a b q = (q.0, q.1)

-- one is alone over a book after each of two calls
pub becomes_then : (alone alone2 : Bool) (n1 n2 n3 : Account → Type 0) (P Q R : Account → Account → Type 0) → alone2 ≡ alone → Becomes alone n1 n2 P → Becomes alone2 n2 n3 Q → ((a b c : Account) → P a b → Q b c → R a c) → Becomes alone n1 n3 R
becomes_then alone alone2 n1 n2 n3 P Q R e p q f = λ is a n. (let x = p is a n in let z = q (e ∙ is) x.0 x.1 in (z.0, z.1, f a x.0 z.0 x.2 z.2))

pub becomes_as : (alone : Bool) (n1 n2 : Account → Type 0) (P Q : Account → Account → Type 0) → Becomes alone n1 n2 P → ((a b : Account) → P a b → Q a b) → Becomes alone n1 n2 Q
becomes_as alone n1 n2 P Q p f = λ is a n. (let x = p is a n in (x.0, x.1, f a x.0 x.2))

pub becomes_same : (alone : Bool) (n : Account → Type 0) (P : Account → Account → Type 0) → ((a : Account) → P a a) → Becomes alone n n P
becomes_same alone n P f = λ is a m. (a, m, f a)

halted_as : (why : Halt) (a d c : Account) → Grows a d → HaltNotes why a d → Grows d c → EvaluationNotes (Err (stop_of why)) a c
halted_as H.Spent a d c f n g = (grows_then a d c f g, g.reaches.spent n)
halted_as H.GaveUp a d c f n g = (grows_then a d c f g, n.1)
halted_as H.Memory a d c f n g = grows_then a d c f g

module _ {R : Type 0} {b : _} where
  pub turn_then : (r : Turned R b) (a d c : Account) → Quiets a d → TurnNotes r d c → TurnNotes r a c
  turn_then (T.On k) a d c f g = quiets_then a d c f g
  turn_then (T.Waits k cell claim) a d c f g = quiets_then a d c f g
  turn_then (T.Over o) a d c f g = quiets_then a d c f g
  turn_then (T.Halts below w why) a d c f g = (grows_then a d c f.0 g.0, halt_then why a d c f.1 g.1)

  pub concluded_as : (t : Turned R b) (r : Result Coded Stop) → Comes t r → (a d c : Account) → TurnNotes t a d → Concludes t d c → EvaluationNotes r a c
  concluded_as (T.On k) r is a d c f g = subst (λ z. EvaluationNotes z a c) (sym is) (grows_then a d c f.0 g)
  concluded_as (T.Waits k cell claim) r is a d c f g = subst (λ z. EvaluationNotes z a c) (sym is) (grows_then a d c f.0 g)
  concluded_as (T.Over (Ok v)) r is a d c f g = subst (λ z. EvaluationNotes z a c) (sym is) (quiets_then a d c f g)
  concluded_as (T.Over (Err why)) r is a d c f g = subst (λ z. EvaluationNotes z a c) (sym is) (quiets_then a d c f g)
  concluded_as (T.Halts below w why) r is a d c f g = subst (λ z. EvaluationNotes z a c) (sym is) (halted_as why a d c f.0 f.1 g)
