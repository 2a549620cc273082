-- The book stays good over each call, and so the demands of the calls are met.
use Rattle.std.proofs.Common.{◌≡◌, ℕ, suc, ◌<◌, Bool, true, false, Option, Some, sym, subst, ◌∙◌}
use Rattle.std.specs.Prelude.{IsTrue}
use Rattle.seq_base.specs.declared.thrown.Thrown.{Thrown}
use Rattle.seq_values.specs.declared.words.Kind.{Kind}
use Rattle.seq_values.specs.declared.words.Kind.TheVariants.{Future}
use Rattle.seq_values.specs.declared.term.Term.{Term as CodedTerm}
use Rattle.seq_values.specs.declared.value.Value.{Value as Coded}
use Rattle.seq_values.specs.Model.{Value}
use Rattle.seq_values.specs.Plain.{plain, plain_term}
use Rattle.seq_values.specs.WellFormed.{is_well_formed}
use Rattle.seq_values.specs.WellFormedTerms.{is_well_formed_term}
use Rattle.seq_plan.specs.Plan.{Plan, ask, make, give, throw, Rules}
use Rattle.seq_meaning.specs.Names.{Name}
use Rattle.seq_lawful.specs.Renaming.{NamesRename}
use Rattle.cell_book.specs.declared.cell.Cell.{Cell}
use Rattle.cell_book.specs.Account.{Account, Duty}
use Rattle.cell_book.specs.Steps.{asker_of, Begins, BeginAnswer, Makes, MakeAnswer, Claims, ClaimAnswer, Finishes, Fails, GivesUp, IsOpenIn}
use Rattle.cell_book.specs.Glimpses.{Glimpse, glimpse, IsOpen, Fits, LawIs}
use Rattle.cell_book.proofs.Laws.{meets_law, lawful, still_lawful}
use Rattle.cell_book.proofs.Onwards.{fits_onward, fits_open, fits_reaches}
use Rattle.seq_lawful.specs.Lawful.{Lawful}
use Rattle.seq_lawful.specs.Runs.{Kept, MayBegin}
use Rattle.seq_lawful.proofs.Keeps.{kept}
use Rattle.seq_lawful.proofs.OnRuns.{on_onward}
use Rattle.lawful_works.specs.Basis.{Basis, RunsTo, IsGood, Governs}
use Rattle.lawful_works.proofs.Holding.{proper_begins, proper_makes, proper_claims, proper_finishes, proper_fails, proper_gives_up}
use Rattle.lawful_works.proofs.Works.{proper_outcomes}

-- a book that is alone meets its law
abbrev pub Free : Bool → (Account → Type 0) → Type 0
Free alone law = (b : Account) → alone ≡ true → law b

-- one step on a book that is governed
module _ (alone leads : Bool) (law noted : Account → Type 0) (g : Glimpse) (mine : ℕ → ℕ) (y : Basis) (o : Governs alone law noted y) (a b : Account) (fits : Fits alone leads law noted g mine a) where
  abbrev Good : Account → Type 0
  Good = IsGood o.names y

  keeps : Kept y.rules y.program y.limit (Lawful o.names y.program y.limit)
  keeps = kept y.rules o.names y.program y.limit o.alike

  pub good_now : IsGood o.names y a
  good_now = meets_law alone leads law noted g mine Good a o.is fits

  pub run_now : (w : Duty) (n : ℕ) (p : Plan ℕ) → 0 < mine w.claim → RunsTo y g w n p → RunsTo y (glimpse a) w n p
  run_now w n p own r = on_onward y.rules y.program y.limit g (glimpse a) w n p r (fits_onward alone leads law noted g mine a w.claim fits own)

  -- what stays the same is good
  pub after_same : b ≡ a → IsGood o.names y b
  after_same e = subst Good (sym e) good_now

  pub after_make : (w : Duty) (n : ℕ) (kind : Kind) (t : CodedTerm) (k : ℕ → Plan ℕ) (answer : MakeAnswer) → 0 < mine w.claim → RunsTo y g w n (make kind (plain_term t) k) → IsTrue (is_well_formed_term t) → Makes a w t kind answer b → IsGood o.names y b
  after_make w n kind t k answer own r well s =
      let q = run_now w n (make kind (plain_term t) k) own r in
      (keeps.make a b w n kind t k answer good_now.0 q s, proper_makes a b w t kind answer good_now.1 well (proper_outcomes y.rules y.program y.limit a w good_now.1 n (make kind (plain_term t) k) q) s)

  pub after_claim : (w : Duty) (n c : ℕ) (k : Value ℕ → Plan ℕ) (answer : ClaimAnswer) → 0 < mine w.claim → RunsTo y g w (suc n) (ask c k) → Claims a c (asker_of (Some w)) answer b → IsGood o.names y b
  after_claim w n c k answer own r s = (keeps.claim a b w n c k answer good_now.0 (run_now w (suc n) (ask c k) own r) s, proper_claims a b c (Some w.claim) answer good_now.1 s)

  pub after_claim_future : (c : ℕ) (p : Cell) (by : Option Duty) (answer : ClaimAnswer) → g.cells c ≡ Some p → p.kind ≡ Future → Claims a c (asker_of by) answer b → IsGood o.names y b
  after_claim_future c p by answer at future s =
      let q = (fits_reaches alone leads law noted g mine a fits).cells c p at in
      (keeps.claim_future a b c q.0 (asker_of by) answer good_now.0 q.1 (q.2.kind ∙ future) s, proper_claims a b c (asker_of by) answer good_now.1 s)

  pub after_finish : (w : Duty) (n : ℕ) (v : Coded) → 0 < mine w.claim → RunsTo y g w n (give (plain v)) → IsTrue (is_well_formed v) → Finishes a w v b → IsGood o.names y b
  after_finish w n v own r well s = (keeps.finish a b w n v good_now.0 (run_now w n (give (plain v)) own r) s, proper_finishes a b w v good_now.1 well s)

  pub after_fail : (w : Duty) (n : ℕ) (why : Thrown) → 0 < mine w.claim → RunsTo y g w n (throw why) → Fails a w why b → IsGood o.names y b
  after_fail w n why own r s = (keeps.fail a b w n why good_now.0 (run_now w n (throw why) own r) s, proper_fails a b w why good_now.1 s)

  pub open_now : (w : Duty) → 0 < mine w.claim → IsOpen g w → IsOpenIn a w
  open_now w own h = fits_open alone leads law noted g mine a w fits own h

  pub after_give_up : (w : Duty) → 0 < mine w.claim → IsOpen g w → GivesUp a w b → IsGood o.names y b
  after_give_up w own h s = (keeps.give_up a b w good_now.0 (open_now w own h) s, proper_gives_up a b w good_now.1 s)

  -- a leader knows the whole book that it noted
  known_now : ((c d : Account) → noted c → noted d → c ≡ d) → leads ≡ true → (m : Account) → noted m → a ≡ m
  known_now one lead m n = go alone fits
    where
      go : (t : Bool) → Fits t leads law noted g mine a → a ≡ m
      go true f = one a m f.0 n
      go false f = f.whole lead m n

  pub after_begin : ((c d : Account) → noted c → noted d → c ≡ d) → leads ≡ true → (number : ℕ) (m : Account) → noted m → MayBegin y.rules y.program y.limit (glimpse m) number → (answer : BeginAnswer) → Begins a number answer b → IsGood o.names y b
  after_begin one lead number m n may answer s =
      let e = known_now one lead m n in
      (keeps.begin_form a b number answer good_now.0 (subst (λ x. MayBegin y.rules y.program y.limit (glimpse x) number) (sym e) may) s, proper_begins a b number answer good_now.1 s)

  -- what a call demands
  pub demand : Free alone law → IsGood o.names y b → law b
  demand free p = lawful alone law noted Good b (free b) o.is p

  -- by the same rules it is good after it
  pub good_on : (alone2 : Bool) (law2 noted2 : Account → Type 0) → alone2 ≡ alone → ((c : Account) → (law c → law2 c) × (law2 c → law c)) → ((c d : Account) → noted2 c → noted2 d → c ≡ d) → (alone ≡ true → noted2 b) → IsGood o.names y b → LawIs alone2 law2 noted2 (IsGood o.names y)
  good_on alone2 law2 noted2 same_alone same_law one new p = still_lawful alone alone2 law law2 noted noted2 Good b same_alone same_law one new p o.is

  -- what stays so after it
  pub governs_on : (alone2 : Bool) (law2 noted2 : Account → Type 0) → alone2 ≡ alone → ((c : Account) → (law c → law2 c) × (law2 c → law c)) → ((c d : Account) → noted2 c → noted2 d → c ≡ d) → (alone ≡ true → noted2 b) → IsGood o.names y b → Governs alone2 law2 noted2 y
  governs_on alone2 law2 noted2 same_alone same_law one new p = record { names = o.names; alike = o.alike; is = still_lawful alone alone2 law law2 noted noted2 Good b same_alone same_law one new p o.is }

-- the book is good by these rules
abbrev pub governed : (alone : Bool) (law noted : Account → Type 0) (y : Basis) (names : Rules Name) → NamesRename y.rules names y.program y.limit → LawIs alone law noted (IsGood names y) → Governs alone law noted y
governed alone law noted y names alike is = record { names = names; alike = alike; is = is }
