-- Parts of a vector's items.
use Rattle.std.proofs.Common.{◌≡◌, ℕ, ◌+◌, ◌≤◌, List, length, take, drop, subst, sym, ap, ◌∙◌, arith}
use Rattle.std.specs.Prelude.{IsTrue}
use Rattle.seq_values.specs.Depth.{depth_of_all}
use Rattle.std.proofs.lemmas.List.{length-map}
use Rattle.seq_values.specs.Sight.{a_vector}
use Rattle.seq_values.specs.WellFormed.{is_well_formed, are_well_formed, seen, sight_of}
use Rattle.seq_values.specs.declared.value.Value.{Value}
use Rattle.seq_values.specs.declared.value.Value.TheVariants as V
use Rattle.seq_values.proofs.Rolls.{seen_vector}
use Rattle.seq_values.proofs.WellFormedLemmas.{vector_well, vector_items, vector_kept, well_front, well_back}
use Rattle.seq_values.proofs.PartLemmas.{window_within}

pub part_vector : (items : List Value) (kept : ℕ) → IsTrue (are_well_formed items) → depth_of_all items ≤ 255 → kept ≡ depth_of_all items + 1 → IsTrue (is_well_formed (V.Vector kept items))
part_vector items kept h b e = vector_well items kept h b e

pub part_well : (xs : List Value) (kept from count : ℕ) (ys : List Value) → ys ≡ take count (drop from xs) → IsTrue (is_well_formed (V.Vector kept xs)) → IsTrue (are_well_formed ys)
part_well xs kept from count ys e h = subst (λ zs. IsTrue (are_well_formed zs)) (sym e) (well_front (drop from xs) count (well_back xs from (vector_items xs kept h)))

pub part_deep : (xs : List Value) (kept from count : ℕ) (ys : List Value) → ys ≡ take count (drop from xs) → IsTrue (is_well_formed (V.Vector kept xs)) → depth_of_all ys + 1 ≤ kept
part_deep xs kept from count ys e h =
    let k = vector_kept xs kept h in
    omega (arith, k.0, window_within from count xs, ap depth_of_all e)

pub kept_bound : (xs : List Value) (kept : ℕ) → IsTrue (is_well_formed (V.Vector kept xs)) → kept ≤ 256
kept_bound xs kept h = let k = vector_kept xs kept h in omega (arith, k.0, k.1)

pub vector_sight : (items : List Value) (kept : ℕ) → sight_of (V.Vector kept items) ≡ a_vector (length items)
vector_sight items kept = ap (λ s. s.sight) (seen_vector items kept) ∙ ap a_vector (length-map items seen)
