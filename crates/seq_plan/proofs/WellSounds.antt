-- A well-formed value is sound, and no deeper than it may be.
use Rattle.std.proofs.Common.{refl}
use Rattle.seq_values.specs.Model.{Value, Values}
use Rattle.seq_plan.specs.Sound.{Sound, sound_nil, sound_bool, sound_int, sound_keyword, sound_text, sound_vector, sound_function, sound_reduced, sound_cell, sound_empty, sound_cons, sound_chunk, sound_range, sound_vec_seq, SoundAll, sound_none, sound_more}
use Rattle.seq_plan.specs.WellFormed.{Shallow, Well, well_nil, well_bool, well_int, well_keyword, well_text, well_cell, well_empty, well_vector, well_function, well_reduced, well_cons, well_chunk, well_range, well_vec_seq, WellAll, well_none, well_more}

module _ {C : Type 0} where
  pub well-shallow : {v : Value C} → Well v → Shallow v
  well-shallow well_nil = refl
  well-shallow well_bool = refl
  well-shallow well_int = refl
  well-shallow well_keyword = refl
  well-shallow well_text = refl
  well-shallow well_cell = refl
  well-shallow well_empty = refl
  well-shallow (well_vector d h) = d
  well-shallow (well_function b d h) = d
  well-shallow (well_reduced d h) = d
  well-shallow (well_cons n d h k) = d
  well-shallow (well_chunk n d h k) = d
  well-shallow (well_range n) = refl
  well-shallow (well_vec_seq n d h) = d

  mutual
    pub well-sound : {v : Value C} → Well v → Sound v
    well-sound well_nil = sound_nil
    well-sound well_bool = sound_bool
    well-sound well_int = sound_int
    well-sound well_keyword = sound_keyword
    well-sound well_text = sound_text
    well-sound well_cell = sound_cell
    well-sound well_empty = sound_empty
    well-sound (well_vector d h) = sound_vector (all-sound h)
    well-sound (well_function b d h) = sound_function (all-sound h)
    well-sound (well_reduced d h) = sound_reduced (well-sound h)
    well-sound (well_cons n d h k) = sound_cons n (all-sound h) (well-sound k)
    well-sound (well_chunk n d h k) = sound_chunk n (all-sound h) (well-sound k)
    well-sound (well_range n) = sound_range n
    well-sound (well_vec_seq n d h) = sound_vec_seq n (all-sound h)

    all-sound : {xs : Values C} → WellAll xs → SoundAll xs
    all-sound well_none = sound_none
    all-sound (well_more h k) = sound_more (well-sound h) (all-sound k)
