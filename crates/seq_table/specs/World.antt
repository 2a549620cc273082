-- What cells are parts of and what they show, and what plans come to there. What the parts that a plan makes are called doesn't count.
use Rattle.std.specs.Prelude.{◌≡◌, ℕ, zero, suc, List}
use Rattle.seq_values.specs.declared.words.Kind.{Kind}
use Rattle.seq_values.specs.Model.{Value, nil, Term, gave}
use Rattle.clj_script.specs.Trees.{Expr, Program}
use Rattle.seq_plan.specs.Plan.{Plan, visit, ask, seq, call, go, make, give, Loop, plan_of, Rules}
use Rattle.seq_plan.specs.Nodes.{first_of, rest_of, now, asks_for, found}
use Rattle.seq_meaning.specs.Evaluates.{Script, called}
use Rattle.seq_meaning.specs.Names.{Name}
use Rattle.seq_meaning.specs.Gives.{work, of_term, Part, Gives}

-- The rules, the functions and the bodies of a program; which part a cell is, with the values of the forms that it keeps; and what a cell gives.
pub record World (C : Type 0) : Type 1 where
  pub rules : Rules C
  pub functions : List (List (ℕ × Expr))
  pub bodies : List Expr
  pub IsPart : C → Kind → List (Value C) → Term C → Type 0
  pub Shows : C → Value C → Type 0

-- the world of a program, where a cell is the name of a part
abbrev pub names_world : Rules Name → Program → ℕ → World Name
names_world rules program limit = record {
  rules = rules;
  functions = program.functions;
  bodies = program.bodies;
  IsPart = λ n kind defs t. Part rules program limit n kind (work defs (of_term t));
  Shows = λ n v. Gives rules program limit n (gave v);
}

-- The elements from the left, as far as they are read: `cut` is where reading stopped, `done` is the end of the list.
pub data Read (C : Type 0) : Type 0 where
  cut done : Read C
  ◌▸◌ : Value C → Read C → Read C

infixr 60 ◌▸◌
-- m elements are read, or fewer where the end came before
pub data IsWide {C : Type 0} : ℕ → Read C → Type 0 where
  wide_cut : IsWide zero cut
  wide_done : {m : ℕ} → IsWide (suc m) done
  wide_more : {m : ℕ} {x : Value C} {l : Read C} → IsWide m l → IsWide (suc m) (x ▸ l)

module _ {C : Type 0} (w : World C) where
  abbrev pub script_in : List (Value C) → Script C
  script_in defs = record { rules = w.rules; functions = w.functions; bodies = w.bodies; defs = defs }

  -- what `seq` comes to, where each cell on the way gives a value
  pub data SeqTo : Value C → Value C → Type 0 where
    seq_now : {v s : Value C} → found v ≡ now s → SeqTo v s
    seq_asked : {v u s : Value C} {c : C} → found v ≡ asks_for c → w.Shows c u → SeqTo u s → SeqTo v s

  -- What a plan comes to, where no error is thrown. A make goes on with any cell that is the part.
  pub data Comes (defs : List (Value C)) : Plan C → Value C → Type 0 where
    comes_visit : {p : Plan C} {v : Value C} → Comes defs p v → Comes defs (visit p) v
    comes_ask : {c : C} {u v : Value C} {k : Value C → Plan C} → w.Shows c u → Comes defs (k u) v → Comes defs (ask c k) v
    comes_seq : {x s v : Value C} {k : Value C → Plan C} → SeqTo x s → Comes defs (k s) v → Comes defs (seq x k) v
    comes_call : {f y v : Value C} {xs : List (Value C)} {k : Value C → Plan C} → Comes defs (called (script_in defs) f xs) y → Comes defs (k y) v → Comes defs (call f xs k) v
    comes_go : {l : Loop} {xs : List (Value C)} {y v : Value C} {k : Value C → Plan C} → Comes defs (plan_of (w.rules.on_loop l xs)) y → Comes defs (k y) v → Comes defs (go l xs k) v
    comes_make : {kind : Kind} {t : Term C} {c : C} {v : Value C} {k : C → Plan C} → w.IsPart c kind defs t → Comes defs (k c) v → Comes defs (make kind t k) v
    comes_give : {v : Value C} → Comes defs (give v) v

  -- a call of f comes to y
  abbrev pub CallTo : List (Value C) → Value C → List (Value C) → Value C → Type 0
  CallTo defs f xs y = Comes defs (called (script_in defs) f xs) y

  -- the elements of a value begin with these
  pub data Begins : Value C → Read C → Type 0 where
    not_read : {v : Value C} → Begins v cut
    asked : {v u : Value C} {c : C} {l : Read C} → found v ≡ asks_for c → w.Shows c u → Begins u l → Begins v l
    at_end : {v : Value C} → found v ≡ now nil → Begins v done
    element : {v s : Value C} {l : Read C} → found v ≡ now s → ¬ (s ≡ nil) → Begins (rest_of s) l → Begins v (first_of s ▸ l)

  -- the first m elements, with a mark where the end came before
  pub data Elements (v : Value C) (m : ℕ) (l : Read C) : Type 0 where
    elements : Begins v l → IsWide m l → Elements v m l
