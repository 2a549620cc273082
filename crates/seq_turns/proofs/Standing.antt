-- What a cursor stands for is well formed.
use Rattle.std.proofs.Common.{◌≡◌, ℕ, ◌+◌, max, refl, subst, take, drop}
use Rattle.std.specs.Prelude.{IsTrue}
use Rattle.seq_values.specs.Model as M
use Rattle.seq_values.specs.Plain.{plain}
use Rattle.seq_values.specs.declared.value.Node.{Node}
use Rattle.seq_values.specs.Depth.{depth, depth_of_all}
use Rattle.seq_values.specs.WellFormed.{is_well_formed_node}
use Rattle.seq_values.specs.declared.value.Value.TheVariants as V
use Rattle.seq_values.specs.declared.value.Node.TheVariants as N
use Rattle.seq_values.proofs.WellFormedLemmas.{node_well, range_well}
use Rattle.seq_values.proofs.PartLemmas.{cons_part_well, chunk_part_well}
use Rattle.seq_plan.specs.Cursors.{stands}
use Rattle.seq_plan.specs.WellFormed.{Well}
use Rattle.seq_plan.specs.declared.cursor.Cursor.{Cursor}
use Rattle.seq_plan.specs.declared.cursor.Cursor.TheVariants as C
use Rattle.seq_plan.proofs.CursorLemmas.{plain_cons, plain_chunk, plain_vec_seq}
use Rattle.seq_plan.proofs.WellValues.{well_formed}
use Rattle.seq_turns.proofs.Seeing.{plain_range}

of_node : (n : Node) (v : M.Value ℕ) → IsTrue (is_well_formed_node n) → plain (V.Node n) ≡ v → Well v
of_node n v h e = subst Well e (well_formed (V.Node n) (node_well n h))

pub stands_well : (c : Cursor) → Well (stands c)
stands_well (C.Heads h) =
    let k : ℕ = max (depth_of_all (take h.left h.heads)) (depth h.rest) + 1 in
    of_node (N.Cons k (take h.left h.heads) h.rest) _ (cons_part_well h.heads h.rest h.depth h.left h.well k h.within.0 h.within.1 refl) (plain_cons k (take h.left h.heads) h.rest)
stands_well (C.Items i) =
    let k : ℕ = max (depth_of_all (drop i.done i.items)) (depth i.rest) + 1 in
    of_node (N.Chunk k (drop i.done i.items) i.rest) _ (chunk_part_well i.items i.rest i.depth i.done i.well k i.within refl) (plain_chunk k (drop i.done i.items) i.rest)
stands_well (C.Range r) = of_node (N.Range r.from r.at r.end) _ (range_well r.from r.at r.end r.begun r.within) (plain_range r.from r.at r.end)
stands_well (C.Vector v) = of_node (N.VecSeq v.depth v.items v.at) _ v.well (plain_vec_seq v.depth v.items v.at)
