-- What is taken of a sound node is sound.
use Rattle.std.proofs.Common.{◌≡◌, ℕ, List, Option, Some, refl, ap, subst}
use Rattle.seq_values.specs.Model.{Value}
use Rattle.seq_plan.specs.Nodes.{first_of, rest_of, chunk_of, Found, now, found}
use Rattle.seq_plan.specs.Sound.{Sound, SoundList}
use Rattle.seq_plan.proofs.AlikeNodes.{LikeChunk, like_unchunked, like_chunked, LikeFound, like_now, like_asks_for, like_no_seq, like-first_of, like-rest_of, like-chunk_of, like-found}
use Rattle.seq_plan.proofs.SoundByLikes.{Itself, sound_value, sound_list, value_itself}

module _ {C : Type 0} where
  pub first_sound : {v : Value C} → Sound v → Sound (first_of v)
  first_sound h = sound_value refl (like-first_of (value_itself h))

  pub rest_sound : {v : Value C} → Sound v → Sound (rest_of v)
  rest_sound h = sound_value refl (like-rest_of (value_itself h))

  pub chunk_sound : (size : ℕ) {v : Value C} → Sound v → {xs : List (Value C)} {r : Value C} → chunk_of size v ≡ Some (xs, r) → SoundList xs × Sound r
  chunk_sound size h {xs = xs} {r = r} e = by (like-chunk_of size (value_itself h)) e
    where
      by : {a b : Option (List (Value C) × Value C)} → LikeChunk (Itself C) a b → a ≡ Some (xs, r) → SoundList xs × Sound r
      by like_unchunked q = absurd cc
      by (like_chunked {xs = ys} {r = s} k l) q = let p : ◌≡◌ {A = List (Value C) × Value C} (ys, s) (xs, r) = cc in (subst (λ z. SoundList z) (ap (λ z. z.0) p) (sound_list refl k), subst (λ z. Sound z) (ap (λ z. z.1) p) (sound_value refl l))

  pub found_sound : {v s : Value C} → Sound v → found v ≡ now s → Sound s
  found_sound {s = s} h e = by (like-found (value_itself h)) e
    where
      by : {f g : Found C} → LikeFound (Itself C) f g → f ≡ now s → Sound s
      by (like_now {v = u} k) q = let z : u ≡ s = cc in subst (λ x. Sound x) z (sound_value refl k)
      by (like_asks_for r) q = absurd cc
      by like_no_seq q = absurd cc
