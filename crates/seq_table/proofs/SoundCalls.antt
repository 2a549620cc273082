-- What a plan comes to is sound, where the rules and what cells show are.
use Rattle.std.proofs.Common.{ℕ, List, refl}
use Rattle.seq_values.specs.Model.{Value}
use Rattle.clj_script.specs.Trees.{Program}
use Rattle.seq_plan.specs.Plan.{Plan}
use Rattle.seq_plan.specs.Sound.{Sound, SoundList, SoundRules}
use Rattle.seq_plan.specs.Alike.{Likeness, LikeList, LikePlan, like_visit, like_ask, like_seq, like_call, like_go, like_make, like_give, LikeRules}
use Rattle.seq_plan.proofs.AlikePlans.{like-plan_of}
use Rattle.seq_plan.proofs.SoundByLikes.{Itself, sound_value, sound_list, value_itself, list_itself, sound_rules}
use Rattle.seq_meaning.specs.Names.{Name}
use Rattle.seq_meaning.specs.Alike.{LikeScript, like_script}
use Rattle.seq_meaning.proofs.AlikeWalk.{like-called}
use Rattle.seq_meaning.proofs.SoundRuns.{sound_given}
use Rattle.seq_table.specs.Table.{chunk_size, language}
use Rattle.seq_table.specs.World.{World, names_world, script_in, Comes, comes_visit, comes_ask, comes_seq, comes_call, comes_go, comes_make, comes_give, CallTo}
use Rattle.seq_table.specs.Lists.{ShowsSound}
use Rattle.seq_table.proofs.AlikeWhole.{like-rules_of}
use Rattle.seq_table.proofs.Seqs.{seq_sound}

module _ {C : Type 0} (w : World C) (keeps : LikeRules (Itself C) w.rules w.rules) (shown : ShowsSound w) where
  abbrev S : Likeness C C
  S = Itself C

  script_itself : {defs : List (Value C)} → LikeList S defs defs → LikeScript S (script_in w defs) (script_in w defs)
  script_itself l = like_script {functions = w.functions} {bodies = w.bodies} keeps l

  comes_sound : {defs : List (Value C)} → LikeList S defs defs → {p : Plan C} {v : Value C} → Comes w defs p v → {q : Plan C} → LikePlan S p q → Sound v
  comes_sound l (comes_visit d) (like_visit h) = comes_sound l d h
  comes_sound l (comes_ask s d) (like_ask r h) = comes_sound l d (h _ _ (value_itself (shown _ _ s)))
  comes_sound l (comes_seq s d) (like_seq x h) = comes_sound l d (h _ _ (value_itself (seq_sound w shown s (sound_value refl x))))
  comes_sound l (comes_call a d) (like_call f xs h) =
      let y = comes_sound l a (like-called (script_itself l) (value_itself (sound_value refl f)) (list_itself (sound_list refl xs))) in
      comes_sound l d (h _ _ (value_itself y))
  comes_sound l (comes_go a d) (like_go {l = loop} xs h) =
      let y = comes_sound l a (like-plan_of (keeps.loops loop _ _ (list_itself (sound_list refl xs)))) in
      comes_sound l d (h _ _ (value_itself y))
  comes_sound l (comes_make p d) (like_make t h) = comes_sound l d (h _ _ refl)
  comes_sound l comes_give (like_give h) = sound_value refl h

module _ (processors : ℕ) (program : Program) (limit : ℕ) where
  keeps : SoundRules {C = Name} (language processors)
  keeps = sound_rules (like-rules_of processors chunk_size)

  pub calls_sound : (defs : List (Value Name)) (f : Value Name) (xs : List (Value Name)) (y : Value Name) → SoundList defs → Sound f → SoundList xs → CallTo (names_world (language processors) program limit) defs f xs y → Sound y
  calls_sound defs f xs y ds h hs d =
      let w = names_world (language processors) program limit in
      let k : LikeRules (Itself Name) (language processors) (language processors) = like-rules_of processors chunk_size in
      let s : ShowsSound w = λ c v g. sound_given (language processors) program limit keeps g in
      comes_sound w k s (list_itself ds) d (like-called (script_itself w k s (list_itself ds)) (value_itself h) (list_itself hs))
