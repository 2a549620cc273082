-- The values of the code that stand for texts.
use Rattle.std.proofs.Common.{◌≡◌, ℕ, List, refl, ap, sym, ◌∙◌}
use Rattle.seq_values.specs.Model as M
use Rattle.seq_values.specs.Plain.{plain, plains, node_step, value_step, function_step}
use Rattle.seq_values.specs.declared.value.Value.{Value, map-Value, roll-Value}
use Rattle.seq_values.specs.declared.value.Value.TheVariants as V
use Rattle.seq_values.specs.declared.value.Node.{Node, out-Node}
use Rattle.seq_values.specs.declared.value.FnValue.{FnValue}
use Rattle.seq_values.specs.declared.value.Node.TheOpen.{Node-F, Value-F}
use Rattle.seq_values.specs.declared.value.Node.TheFolds.{ind-Value, fold-Node, fold-FnValue, fold_out-Node, fold_out-FnValue, fold-roll-Value}

abbrev plain_node : Node → M.Value ℕ
plain_node = fold-Node (M.Value ℕ) (M.Value ℕ) (M.Value ℕ) node_step value_step function_step

abbrev plain_function : FnValue → M.Value ℕ
plain_function = fold-FnValue (M.Value ℕ) (M.Value ℕ) (M.Value ℕ) node_step value_step function_step

pub plain_text : (bytes : List ℕ) → plain (V.Text bytes) ≡ M.text bytes
plain_text bytes = ap plain (sym (V.rolls-Text bytes)) ∙ fold-roll-Value (M.Value ℕ) (M.Value ℕ) (M.Value ℕ) node_step value_step function_step (Value-F.Text bytes)

no_text : (v w : M.Value ℕ) → v ≡ w → (bytes : List ℕ) → v ≡ M.text bytes → w ≡ M.text bytes
no_text v w e bytes t = sym e ∙ t

-- a node stands for no text
node_at : (n : Node) (m : Node-F Node Value FnValue) → out-Node n ≡ m → (bytes : List ℕ) → plain_node n ≡ M.text bytes → ⊥
node_at n Node-F.Empty e bytes t = let z : ◌≡◌ {A = M.Value ℕ} M.empty (M.text bytes) = no_text _ M.empty (rw e at (fold_out-Node (M.Value ℕ) (M.Value ℕ) (M.Value ℕ) node_step value_step function_step n)) bytes t in cc
node_at n (Node-F.Cons kept heads rest) e bytes t = let z : M.cons (M.values (plains heads)) (plain rest) ≡ M.text bytes = no_text _ (M.cons (M.values (plains heads)) (plain rest)) (rw e at (fold_out-Node (M.Value ℕ) (M.Value ℕ) (M.Value ℕ) node_step value_step function_step n)) bytes t in cc
node_at n (Node-F.Chunk kept items rest) e bytes t = let z : M.chunk (M.values (plains items)) (plain rest) ≡ M.text bytes = no_text _ (M.chunk (M.values (plains items)) (plain rest)) (rw e at (fold_out-Node (M.Value ℕ) (M.Value ℕ) (M.Value ℕ) node_step value_step function_step n)) bytes t in cc
node_at n (Node-F.Range from at end) e bytes t = let z : ◌≡◌ {A = M.Value ℕ} (M.range from at end) (M.text bytes) = no_text _ (M.range from at end) (rw e at (fold_out-Node (M.Value ℕ) (M.Value ℕ) (M.Value ℕ) node_step value_step function_step n)) bytes t in cc
node_at n (Node-F.VecSeq kept items at) e bytes t = let z : M.vec_seq (M.values (plains items)) at ≡ M.text bytes = no_text _ (M.vec_seq (M.values (plains items)) at) (rw e at (fold_out-Node (M.Value ℕ) (M.Value ℕ) (M.Value ℕ) node_step value_step function_step n)) bytes t in cc

function_at : (f : FnValue) (bytes : List ℕ) → plain_function f ≡ M.text bytes → ⊥
function_at f bytes t = let z : M.function f.target (M.values (plains f.bound)) ≡ M.text bytes = no_text _ (M.function f.target (M.values (plains f.bound))) (fold_out-FnValue (M.Value ℕ) (M.Value ℕ) (M.Value ℕ) node_step value_step function_step f) bytes t in cc

-- one level that stands for a text is that text
level_is : (x : Value-F Node Value FnValue) (bytes : List ℕ) → value_step (map-Value Node Value FnValue (M.Value ℕ) (M.Value ℕ) (M.Value ℕ) plain_node plain plain_function x) ≡ M.text bytes → roll-Value x ≡ V.Text bytes
level_is (Value-F.Text b) bytes t = let q : b ≡ bytes = cc in V.rolls-Text b ∙ ap V.Text q
level_is Value-F.Nil bytes t = absurd cc
level_is (Value-F.Bool b) bytes t = absurd cc
level_is (Value-F.Int n) bytes t = absurd cc
level_is (Value-F.Keyword name) bytes t = absurd cc
level_is (Value-F.Vector kept items) bytes t = absurd cc
level_is (Value-F.Function f) bytes t = absurd (function_at f bytes t)
level_is (Value-F.Node n) bytes t = absurd (node_at n (out-Node n) refl bytes t)
level_is (Value-F.Reduced kept held) bytes t = absurd cc
level_is (Value-F.Cell id) bytes t = absurd cc

abbrev IsTextIf : Value → Type 0
IsTextIf v = (bytes : List ℕ) → plain v ≡ M.text bytes → v ≡ V.Text bytes

level_text : (x : Value-F Node Value FnValue) → IsTextIf (roll-Value x)
level_text x bytes t = level_is x bytes (sym (fold-roll-Value (M.Value ℕ) (M.Value ℕ) (M.Value ℕ) node_step value_step function_step x) ∙ t)

all_texts : (v : Value) → IsTextIf v
all_texts = ind-Value (λ n. Unit {0}) IsTextIf (λ f. Unit {0}) (λ x y is. tt) (λ x y is. level_text x) (λ x y is. tt)

-- a value that stands for a text is that text
pub is_text_of : (v : Value) (bytes : List ℕ) → plain v ≡ M.text bytes → v ≡ V.Text bytes
is_text_of v bytes t = all_texts v bytes t
