-- A trail in numbers under a name of its evaluation has true answers, whatever the other names of its cells are.
use Rattle.std.proofs.Common.{◌≡◌, ℕ, zero, suc, List, length, Some, slice_get, refl, ap, sym, subst, ◌∙◌}
use Rattle.seq_base.specs.declared.thrown.Thrown.{Thrown}
use Rattle.seq_values.specs.declared.words.Kind.{Kind}
use Rattle.seq_values.specs.Model.{Value, Term, Outcome, threw}
use Rattle.clj_script.specs.Trees.{Program}
use Rattle.seq_plan.specs.Plan.{Plan, ask, make, give, throw, Rules}
use Rattle.seq_plan.specs.Alike.{Likeness, by, LikePlan, like_ask, like_make, like_give, like_throw}
use Rattle.seq_meaning.specs.Counts.{IsIn, here, there}
use Rattle.seq_meaning.specs.Follows.{LikeAsked, no_asked, one_asked, LikeNamed, no_named, one_named}
use Rattle.seq_meaning.specs.Gives.{work, Task, script_of, task_plan, run, part_of, Gives, gives}
use Rattle.seq_meaning.specs.Names.{Name, part}
use Rattle.seq_meaning.specs.Renamed.{TrailUnder, GoesInNames, NeedsCell, needs_cell, GivesLike, gives_like, IsLikePart, is_like_part}
use Rattle.seq_meaning.specs.Trail.{Trail, answers_of, Calls}
use Rattle.seq_meaning.specs.TrueTrail.{TrueSo}
use Rattle.seq_meaning.specs.Walk.{Made, made, makes_of}
use Rattle.seq_meaning.proofs.Makes.{trail_makes}
use Rattle.seq_meaning.proofs.Trails.{trail_needs, trail_gives, trail_throws}
use Rattle.seq_meaning.proofs.TrailsAlike.{follows}
use Rattle.seq_meaning.proofs.TrailsTrue.{same_run, true_so}

module _ {C D : Type 0} {R : Likeness C D} where
  pub named_so : {named : C → D} {xs : List (C × Made C)} {ys : List (D × Made D)} → LikeNamed R named xs ys → (i : ℕ) (y : D × Made D) → slice_get ys i ≡ Some y → (x : C × Made C) × (slice_get xs i ≡ Some x) × (y.0 ≡ named x.0)
  named_so no_named i y q = absurd cc
  named_so (one_named {x = x} {y = z} e m h) zero y q = let p : z ≡ y = cc in (x, refl, sym (ap (λ w. w.0) p) ∙ e)
  named_so (one_named e m h) (suc i) y q = named_so h i y q

  pub named_long : {named : C → D} {xs : List (C × Made C)} {ys : List (D × Made D)} → LikeNamed R named xs ys → length ys ≡ length xs
  named_long no_named = refl
  named_long (one_named e m h) = ap suc (named_long h)

  pub good_all : {Good : D → Outcome D → Type 0} {xs : List (C × Outcome C)} {ys : List (D × Outcome D)} → LikeAsked R Good xs ys → (c : D) (o : Outcome D) → IsIn (c, o) ys → Good c o
  good_all no_asked c o i = elim i [ ]
  good_all (one_asked {y = y} r l g h) c o here = g
  good_all (one_asked r l g h) c o (there i) = good_all h c o i

module _ (same : ℕ → Name → Type 0) (rules : Rules Name) (program : Program) (limit : ℕ) (named : ℕ → Name) (e : Name) (defs : List (Value Name)) (task : Task) where
  abbrev Under : ℕ → Plan ℕ → List (ℕ × Outcome ℕ) → List (ℕ × Made ℕ) → Type 0
  Under left plan asked mades = TrailUnder same rules program limit named e defs task left plan asked mades

  abbrev TrailHere : ℕ → Plan Name → List (Name × Outcome Name) → List (Name × Made Name) → Type 0
  TrailHere left q asks makes = Trail (script_of rules program limit defs) limit (task_plan rules program limit defs task) left q asks makes

  abbrev TrueHere : List (Name × Outcome Name) → Type 0
  TrueHere asks = TrueSo rules program limit e (work defs task) asks

  calls_on : {asked : List (ℕ × Outcome ℕ)} {mades : List (ℕ × Made ℕ)} {left : ℕ} {plan : Plan ℕ} → Under left plan asked mades → {makes : List (Name × Made Name)} → LikeNamed (by same) named mades makes → Calls (λ j. part e j) makes
  calls_on t h i y q = let x = named_so h i y q in sym (x.2 ∙ t.called i x.0 x.1)

  pub in_names : {left : ℕ} {plan : Plan ℕ} {asked : List (ℕ × Outcome ℕ)} {mades : List (ℕ × Made ℕ)} → Under left plan asked mades → GoesInNames same rules program limit named e defs task left plan asked mades
  in_names t =
      let f = follows (by same) named (Gives rules program limit) t.like_script limit t.like_whole t.trail t.likes in
      record { follows = f; is_true = true_so rules program limit t.of f.trail (calls_on t f.like_makes) (good_all f.like_asks); calls = calls_on t f.like_makes }

  pub on_needs : {left c : ℕ} {k : Value ℕ → Plan ℕ} {asked : List (ℕ × Outcome ℕ)} {mades : List (ℕ × Made ℕ)} → Under (suc left) (ask c k) asked mades → NeedsCell same rules program limit e (work defs task) c
  on_needs {left = left} {c = c} {k = k} {mades = mades} t = let g = in_names t in at g.follows.like_plan g.calls g.follows.trail g.is_true
    where
      at : {q : Plan Name} {asks : List (Name × Outcome Name)} {makes : List (Name × Made Name)} → LikePlan (by same) (ask c k) q → Calls (λ j. part e j) makes → TrailHere (suc left) q asks makes → TrueHere asks → NeedsCell same rules program limit e (work defs task) c
      at {asks = asks} {makes = makes} (like_ask {d = d} {h = h} x y) co u s = needs_cell x s.all_true (same_run rules program limit t.of s.answers (answers_of asks) s.order ∙ trail_needs (script_of rules program limit defs) (λ j. part e j) limit (task_plan rules program limit defs task) left d h asks makes u co)

  pub on_gives : {left : ℕ} {v : Value ℕ} {asked : List (ℕ × Outcome ℕ)} {mades : List (ℕ × Made ℕ)} → Under left (give v) asked mades → GivesLike same rules program limit e v
  on_gives {left = left} {v = v} t = let g = in_names t in at g.follows.like_plan g.calls g.follows.trail g.is_true
    where
      at : {q : Plan Name} {asks : List (Name × Outcome Name)} {makes : List (Name × Made Name)} → LikePlan (by same) (give v) q → Calls (λ j. part e j) makes → TrailHere left q asks makes → TrueHere asks → GivesLike same rules program limit e v
      at {asks = asks} {makes = makes} (like_give {w = w} x) co u s = gives_like x (gives t.of s.all_true (same_run rules program limit t.of s.answers (answers_of asks) s.order ∙ trail_gives (script_of rules program limit defs) (λ j. part e j) limit (task_plan rules program limit defs task) left w asks makes u co))

  pub on_throws : {left : ℕ} {x : Thrown} {asked : List (ℕ × Outcome ℕ)} {mades : List (ℕ × Made ℕ)} → Under left (throw x) asked mades → Gives rules program limit e (threw x)
  on_throws {left = left} {x = x} t = let g = in_names t in at g.follows.like_plan g.calls g.follows.trail g.is_true
    where
      at : {q : Plan Name} {asks : List (Name × Outcome Name)} {makes : List (Name × Made Name)} → LikePlan (by same) (throw x) q → Calls (λ j. part e j) makes → TrailHere left q asks makes → TrueHere asks → Gives rules program limit e (threw x)
      at {asks = asks} {makes = makes} like_throw co u s = gives t.of s.all_true (same_run rules program limit t.of s.answers (answers_of asks) s.order ∙ trail_throws (script_of rules program limit defs) (λ j. part e j) limit (task_plan rules program limit defs task) left x asks makes u co)

  pub on_makes : {left : ℕ} {kind : Kind} {r : Term ℕ} {k : ℕ → Plan ℕ} {asked : List (ℕ × Outcome ℕ)} {mades : List (ℕ × Made ℕ)} → Under left (make kind r k) asked mades → IsLikePart same rules program limit (part e (suc (length mades))) kind defs r
  on_makes {left = left} {kind = kind} {r = r} {k = k} {mades = mades} t = let g = in_names t in at g.follows.like_plan g.follows.like_makes g.follows.trail g.is_true
    where
      at : {q : Plan Name} {asks : List (Name × Outcome Name)} {makes : List (Name × Made Name)} → LikePlan (by same) (make kind r k) q → LikeNamed (by same) named mades makes → TrailHere left q asks makes → TrueHere asks → IsLikePart same rules program limit (part e (suc (length mades))) kind defs r
      at {asks = asks} {makes = makes} (like_make {u = u} {h = h} x y) hm tr s =
          let m : slice_get (makes_of (run rules program limit e (work defs task) s.answers)) (length makes) ≡ Some (made kind u) = subst (λ z. slice_get (makes_of z) (length makes) ≡ Some (made kind u)) (sym (same_run rules program limit t.of s.answers (answers_of asks) s.order)) (trail_makes (script_of rules program limit defs) (λ j. part e j) limit (task_plan rules program limit defs task) left kind u h asks makes tr (calls_on t hm)) in
          is_like_part x (part_of t.of s.all_true (subst (λ n. slice_get (makes_of (run rules program limit e (work defs task) s.answers)) n ≡ Some (made kind u)) (named_long hm) m))
