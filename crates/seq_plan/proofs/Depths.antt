-- The depth of a value of the code is that of the value that it stands for.
use Rattle.std.proofs.Common.{◌≡◌, ℕ, suc, ◌+◌, max, List, [], ◌∷◌, map, refl, ap, sym, ◌∙◌, subst, arith}
use Rattle.seq_values.specs.Model as M
use Rattle.seq_values.specs.Plain.{plain, node_step, value_step, function_step}
use Rattle.seq_values.specs.Depth as D
use Rattle.seq_values.specs.declared.value.Value.{Value, map-Value, roll-Value}
use Rattle.seq_values.specs.declared.value.Node.{Node, map-Node, roll-Node}
use Rattle.seq_values.specs.declared.value.FnValue.{FnValue, map-FnValue, roll-FnValue}
use Rattle.seq_values.specs.declared.value.Node.TheOpen.{Node-F, Value-F, FnValue-F}
use Rattle.seq_values.specs.declared.value.Node.TheFolds.{ind-Value, fold-Node, fold-FnValue, fold-roll-Node, fold-roll-Value, fold-roll-FnValue}
use Rattle.seq_plan.specs.Nodes.{depth, depths}

abbrev plain_node : Node → M.Value ℕ
plain_node = fold-Node (M.Value ℕ) (M.Value ℕ) (M.Value ℕ) node_step value_step function_step

abbrev plain_function : FnValue → M.Value ℕ
plain_function = fold-FnValue (M.Value ℕ) (M.Value ℕ) (M.Value ℕ) node_step value_step function_step

abbrev NodeAgrees : Node → Type 0
NodeAgrees n = depth (plain_node n) ≡ D.depth_of_node n

abbrev Agrees : Value → Type 0
Agrees v = depth (plain v) ≡ D.depth v

abbrev FunctionAgrees : FnValue → Type 0
FunctionAgrees f = depth (plain_function f) ≡ D.depth_of_function f

abbrev With : (A : Type 0) → (A → Type 0) → Type 0
With A P = (a : A) × P a

all_agree : (xs : List (With Value Agrees)) → depths (M.values (map plain (map (λ x. x.0) xs))) ≡ D.deepest (map D.graded (map (λ x. x.0) xs))
all_agree [] = refl
all_agree (x ∷ xs) = rw (x.1, all_agree xs)

abbrev NodeIn : Type 0
NodeIn = With Node NodeAgrees

abbrev ValueIn : Type 0
ValueIn = With Value Agrees

abbrev FunctionIn : Type 0
FunctionIn = With FnValue FunctionAgrees

deeper : (n m : ℕ) → n ≡ m → suc n ≡ m + 1
deeper n m p = omega (arith, p)

-- one level, on both sides
node_level : (x : Node-F Node Value FnValue) → depth (node_step (map-Node Node Value FnValue (M.Value ℕ) (M.Value ℕ) (M.Value ℕ) plain_node plain plain_function x)) ≡ (D.node_grade (map-Node Node Value FnValue D.Grade D.Grade D.Grade D.graded_node D.graded D.graded_function x)).depth → NodeAgrees (roll-Node x)
node_level x e = ap depth (fold-roll-Node (M.Value ℕ) (M.Value ℕ) (M.Value ℕ) node_step value_step function_step x) ∙ e ∙ sym (ap (λ g. g.depth) (fold-roll-Node D.Grade D.Grade D.Grade D.node_grade D.value_grade D.function_grade x))

value_level : (x : Value-F Node Value FnValue) → depth (value_step (map-Value Node Value FnValue (M.Value ℕ) (M.Value ℕ) (M.Value ℕ) plain_node plain plain_function x)) ≡ (D.value_grade (map-Value Node Value FnValue D.Grade D.Grade D.Grade D.graded_node D.graded D.graded_function x)).depth → Agrees (roll-Value x)
value_level x e = ap depth (fold-roll-Value (M.Value ℕ) (M.Value ℕ) (M.Value ℕ) node_step value_step function_step x) ∙ e ∙ sym (ap (λ g. g.depth) (fold-roll-Value D.Grade D.Grade D.Grade D.node_grade D.value_grade D.function_grade x))

function_level : (x : FnValue-F Node Value FnValue) → depth (function_step (map-FnValue Node Value FnValue (M.Value ℕ) (M.Value ℕ) (M.Value ℕ) plain_node plain plain_function x)) ≡ (D.function_grade (map-FnValue Node Value FnValue D.Grade D.Grade D.Grade D.graded_node D.graded D.graded_function x)).depth → FunctionAgrees (roll-FnValue x)
function_level x e = ap depth (fold-roll-FnValue (M.Value ℕ) (M.Value ℕ) (M.Value ℕ) node_step value_step function_step x) ∙ e ∙ sym (ap (λ g. g.depth) (fold-roll-FnValue D.Grade D.Grade D.Grade D.node_grade D.value_grade D.function_grade x))

two_agree : (hs : List ValueIn) (r : ValueIn) → max (depths (M.values (map plain (map (λ e. e.0) hs)))) (depth (plain r.0)) ≡ max (D.deepest (map D.graded (map (λ e. e.0) hs))) (D.depth r.0)
two_agree hs r = rw (all_agree hs, r.1) refl

node_case : (x : Node-F Node Value FnValue) (y : Node-F NodeIn ValueIn FunctionIn) → map-Node NodeIn ValueIn FunctionIn Node Value FnValue (λ e. e.0) (λ e. e.0) (λ e. e.0) y ≡ x → NodeAgrees (roll-Node x)
node_case x Node-F.Empty is = subst (λ z. NodeAgrees (roll-Node z)) is (node_level _ refl)
node_case x (Node-F.Cons kept hs r) is = subst (λ z. NodeAgrees (roll-Node z)) is (node_level _ (deeper _ _ (two_agree hs r)))
node_case x (Node-F.Chunk kept hs r) is = subst (λ z. NodeAgrees (roll-Node z)) is (node_level _ (deeper _ _ (two_agree hs r)))
node_case x (Node-F.Range from at end) is = subst (λ z. NodeAgrees (roll-Node z)) is (node_level _ refl)
node_case x (Node-F.VecSeq kept hs at) is = subst (λ z. NodeAgrees (roll-Node z)) is (node_level _ (deeper _ _ (all_agree hs)))

value_case : (x : Value-F Node Value FnValue) (y : Value-F NodeIn ValueIn FunctionIn) → map-Value NodeIn ValueIn FunctionIn Node Value FnValue (λ e. e.0) (λ e. e.0) (λ e. e.0) y ≡ x → Agrees (roll-Value x)
value_case x (Value-F.Vector kept hs) is = subst (λ z. Agrees (roll-Value z)) is (value_level _ (deeper _ _ (all_agree hs)))
value_case x (Value-F.Function f) is = subst (λ z. Agrees (roll-Value z)) is (value_level _ f.1)
value_case x (Value-F.Node n) is = subst (λ z. Agrees (roll-Value z)) is (value_level _ n.1)
value_case x (Value-F.Reduced kept v) is = subst (λ z. Agrees (roll-Value z)) is (value_level _ (deeper _ _ v.1))
value_case x y is = subst (λ z. Agrees (roll-Value z)) is (value_level _ refl)

function_case : (x : FnValue-F Node Value FnValue) (y : FnValue-F NodeIn ValueIn FunctionIn) → map-FnValue NodeIn ValueIn FunctionIn Node Value FnValue (λ e. e.0) (λ e. e.0) (λ e. e.0) y ≡ x → FunctionAgrees (roll-FnValue x)
function_case x y is = subst (λ z. FunctionAgrees (roll-FnValue z)) is (function_level _ (deeper _ _ (all_agree y.bound)))

pub depth_agrees : (v : Value) → Agrees v
depth_agrees = ind-Value NodeAgrees Agrees FunctionAgrees (λ x y is. node_case x y is) (λ x y is. value_case x y is) (λ x y is. function_case x y is)
