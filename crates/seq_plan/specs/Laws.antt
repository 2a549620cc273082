-- What holds of plans and of nodes, as statements. A renaming is given by a test that tells which cells are the same.
use Rattle.std.specs.Prelude.{◌≡◌, ℕ, Bool, true, List, ◌∷◌, Some}
use Rattle.seq_values.specs.Model.{Value, vector, values}
use Rattle.seq_values.specs.Depth.{depth as depth_in_code, keeps_depth, keep_depth}
use Rattle.seq_values.specs.Plain.{plain, plain_term}
use Rattle.seq_values.specs.WellFormed.{is_well_formed}
use Rattle.seq_values.specs.WellFormedTerms.{is_well_formed_term}
use Rattle.seq_values.specs.declared.value.Value.{Value as Held}
use Rattle.seq_values.specs.declared.term.Term.{Term as HeldTerm}
use Rattle.seq_plan.specs.Plan.{Plan, then, give}
use Rattle.seq_plan.specs.Nodes.{depth, first_of, rest_of, rests_of, chunk_of, now, found}
use Rattle.seq_plan.specs.Sound.{Sound, SoundList}
use Rattle.seq_plan.specs.WellFormed.{Well, WellList, WellTerm}
use Rattle.seq_plan.specs.declared.cursor.Cursor.{Cursor}
use Rattle.seq_plan.specs.Cursors.{stands, IsFound}
use Rattle.seq_plan.specs.Stages.{Sink, Onward, sink_values, standing, entered, enter, each_round, enter_round, complete}
use Rattle.seq_plan.specs.Alike.{Tells, Like, LikePlan}

-- what goes on after two plans may be joined in either order, and a value that is given goes straight on
abbrev pub ThenJoins : Type 0
ThenJoins = (p : Plan ℕ) (f g : Value ℕ → Plan ℕ) → then (then p f) g ≡ then p (λ v. then (f v) g)

abbrev pub ThenGives : Type 0
ThenGives = (p : Plan ℕ) → then p give ≡ p

-- like values are equally deep
abbrev pub LikeIsAsDeep : Type 0
LikeIsAsDeep = (test : ℕ → ℕ → Bool) (v w : Value ℕ) → Like (Tells test) v w → depth v ≡ depth w

-- like nodes have like firsts and like rests
abbrev pub LikeFirsts : Type 0
LikeFirsts = (test : ℕ → ℕ → Bool) (v w : Value ℕ) → Like (Tells test) v w → Like (Tells test) (first_of v) (first_of w)

abbrev pub LikeRests : Type 0
LikeRests = (test : ℕ → ℕ → Bool) (n : ℕ) (v w : Value ℕ) → Like (Tells test) v w → Like (Tells test) (rests_of n v) (rests_of n w)

-- like plans that go on alike are alike
abbrev pub LikeThen : Type 0
LikeThen = (test : ℕ → ℕ → Bool) (p q : Plan ℕ) (f g : Value ℕ → Plan ℕ) → LikePlan (Tells test) p q → ((v w : Value ℕ) → Like (Tells test) v w → LikePlan (Tells test) (f v) (g w)) → LikePlan (Tells test) (then p f) (then q g)

-- `seq` of what a cursor stands for is that itself, so that a walk may go straight on
abbrev pub CursorIsFound : Type 0
CursorIsFound = (c : Cursor) → IsFound (stands c)

-- a value of the code is as deep as the value that it stands for
abbrev pub DepthIsPlain : Type 0
DepthIsPlain = (v : Held) → depth (plain v) ≡ depth_in_code v

-- a well-formed value of the code stands for a sound one
abbrev pub WellFormedIsSound : Type 0
WellFormedIsSound = (v : Held) → is_well_formed v ≡ true → Sound (plain v)

-- a value of the code is well formed if and only if the depths that it keeps are right and the value that it stands for is well formed, and so is a term
abbrev pub WellFormedIsWell : Type 0
WellFormedIsWell = (v : Held) → (is_well_formed v ≡ true → (keeps_depth v ≡ true) × Well (plain v)) × (keeps_depth v ≡ true → Well (plain v) → is_well_formed v ≡ true)

abbrev pub TermsAreWell : Type 0
TermsAreWell = (t : HeldTerm) → (is_well_formed_term t ≡ true → (keep_depth t.args ≡ true) × WellTerm (plain_term t)) × (keep_depth t.args ≡ true → WellTerm (plain_term t) → is_well_formed_term t ≡ true)

-- a well-formed value is sound
abbrev pub WellIsSound : Type 0
WellIsSound = (v : Value ℕ) → Well v → Sound v

-- what is taken of a sound node is sound, and so is what `seq` finds
abbrev pub SoundNodes : Type 0
SoundNodes = (v : Value ℕ) → Sound v →
    Sound (first_of v) × Sound (rest_of v)
    × ((size : ℕ) (xs : List (Value ℕ)) (r : Value ℕ) → chunk_of size v ≡ Some (xs, r) → SoundList xs × Sound r)
    × ((s : Value ℕ) → found v ≡ now s → Sound s)

-- and what is taken of a well-formed node is well formed
abbrev pub WellNodes : Type 0
WellNodes = (v : Value ℕ) → Well v →
    Well (first_of v) × Well (rest_of v)
    × ((size : ℕ) (xs : List (Value ℕ)) (r : Value ℕ) → chunk_of size v ≡ Some (xs, r) → WellList xs × Well r)
    × ((s : Value ℕ) → found v ≡ now s → Well s)

-- what the loop of stages gives is handed on as it is
abbrev pub StandingEnters : Type 0
StandingEnters = (k : Onward ℕ) (states : List (Value ℕ)) (sink : Sink ℕ) (done : Bool) → entered k (standing states sink done) ≡ k states sink done

-- and a round of it has the variables with which it began
abbrev pub RoundIsOfEach : Type 0
RoundIsOfEach = (stages states : List (Value ℕ)) (s : Value ℕ) (sink : Sink ℕ) → enter_round (vector (values stages) ∷ vector (values states) ∷ s ∷ sink_values sink) ≡ each_round stages states sink s

-- what goes on after an input has entered stages, or after their completion, goes on after each of its ends
abbrev pub ThenEnters : Type 0
ThenEnters = (stages states : List (Value ℕ)) (sink : Sink ℕ) (x : Value ℕ) (k : Onward ℕ) (h : Value ℕ → Plan ℕ) → then (enter stages states sink x k) h ≡ enter stages states sink x (λ new after done. then (k new after done) h)

abbrev pub ThenCompletes : Type 0
ThenCompletes = (stages states : List (Value ℕ)) (sink : Sink ℕ) (k : Sink ℕ → Plan ℕ) (h : Value ℕ → Plan ℕ) → then (complete stages states sink k) h ≡ complete stages states sink (λ after. then (k after) h)
