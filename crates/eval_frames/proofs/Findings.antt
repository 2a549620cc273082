-- What `seq` of a node and of a vector finds.
use Rattle.std.proofs.Common.{◌≡◌, ℕ, ℤ, List, true, refl, ap}
use Rattle.std.specs.Prelude.{IsTrue}
use Rattle.seq_values.specs.Model as M
use Rattle.seq_values.specs.Model.{◌&◌}
use Rattle.seq_values.specs.Plain.{plain}
use Rattle.seq_values.specs.WellFormedTerms.{is_seq}
use Rattle.seq_values.specs.declared.value.Value.{Value}
use Rattle.seq_values.specs.declared.value.Value.TheVariants as V
use Rattle.seq_values.specs.declared.value.Node.TheVariants as N
use Rattle.seq_plan.specs.Nodes.{now, found}
use Rattle.seq_plan.specs.WellFormed.{sight}
use Rattle.seq_turns.proofs.Seeing.{found_cons, found_chunk, found_range, found_vec_seq}

-- ## Nodes

pub cons_itself : (kept : ℕ) (hs : List Value) (r : Value) → found (plain (V.Node (N.Cons kept hs r))) ≡ now (plain (V.Node (N.Cons kept hs r)))
cons_itself kept hs r = found_cons kept hs r _ refl

pub chunk_itself : (kept : ℕ) (xs : List Value) (r : Value) → found (plain (V.Node (N.Chunk kept xs r))) ≡ now (plain (V.Node (N.Chunk kept xs r)))
chunk_itself kept xs r = found_chunk kept xs r _ refl

pub range_itself : (from at end : ℤ) → found (plain (V.Node (N.Range from at end))) ≡ now (plain (V.Node (N.Range from at end)))
range_itself from at end = found_range from at end _ refl

pub vec_seq_itself : (kept : ℕ) (xs : List Value) (at : ℕ) → found (plain (V.Node (N.VecSeq kept xs at))) ≡ now (plain (V.Node (N.VecSeq kept xs at)))
vec_seq_itself kept xs at = found_vec_seq kept xs at _ refl

-- ## What `seq` gives

seq_of : (v : M.Value ℕ) → found v ≡ now v → is_seq (sight v) ≡ true
seq_of M.nil e = refl
seq_of M.empty e = absurd cc
seq_of (M.bool b) e = absurd cc
seq_of (M.int n) e = absurd cc
seq_of (M.keyword n) e = absurd cc
seq_of (M.text t) e = absurd cc
seq_of (M.vector M.no_values) e = absurd cc
seq_of (M.vector (x & xs)) e = absurd cc
seq_of (M.function t xs) e = absurd cc
seq_of (M.reduced v) e = absurd cc
seq_of (M.cell c) e = absurd cc
seq_of (M.cons xs r) e = refl
seq_of (M.chunk xs r) e = refl
seq_of (M.range from at end) e = refl
seq_of (M.vec_seq xs at) e = refl

pub itself_is_seq : (v : Value) → found (plain v) ≡ now (plain v) → IsTrue (is_seq (sight (plain v)))
itself_is_seq v e = seq_of (plain v) e

pub nil_is_seq : (v : Value) → plain v ≡ M.nil → IsTrue (is_seq (sight (plain v)))
nil_is_seq v e = ap (λ x. is_seq (sight x)) e
