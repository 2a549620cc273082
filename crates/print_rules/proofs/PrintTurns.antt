-- Turns of printing.
use Rattle.std.specs.declared.result.Result.{Result}
use Rattle.std.proofs.Common.{◌≡◌, ℕ, ◌+◌, ◌<◌, Ok, Err, IfOk, Bool, true, false, List, [], ◌∷◌, ◌++◌, length, drop, refl, sym, subst, ap, ◌∙◌, arith, rules}
use Rattle.std.specs.Prelude.{codes, is_some, unwrap_or, Option, Some, None}
use Rattle.std.proofs.lemmas.List.{append-nil}
use Rattle.seq_values.specs.Model as M
use Rattle.seq_values.specs.Layers.{fold_node, fold_function}
use Rattle.seq_values.specs.Plain.{plain, plains, node_step, value_step, function_step}
use Rattle.seq_values.specs.Text.{atom_text, text_at}
use Rattle.seq_values.specs.declared.value.Value.{Value, out-Value}
use Rattle.seq_values.specs.declared.value.Value.TheVariants as V
use Rattle.seq_values.specs.declared.value.Node.{Node, out-Node}
use Rattle.seq_values.specs.declared.value.FnValue.{FnValue}
use Rattle.seq_values.specs.declared.value.Node.TheOpen.{Value-F, Node-F}
use Rattle.seq_values.specs.declared.value.Node.TheFolds.{the_lemmas, fold_out-Value, fold_out-Node, fold_out-FnValue}
use Rattle.seq_plan.specs.Plan.{Plan, visit, seq, give, then, print_value}
use Rattle.seq_plan.specs.Nodes.{found, now, first_of, rest_of}
use Rattle.seq_plan.specs.Cursors.{stands}
use Rattle.seq_plan.specs.declared.cursor.Cursor.{Cursor}
use Rattle.seq_plan.proofs.CursorLemmas.{list_values}
use Rattle.seq_plan.proofs.Thens.{then_joins}
use Rattle.seq_turns.specs.Turning.{Silent, arrives, opens, finds}
use Rattle.seq_turns.specs.Seen.{rested}
use Rattle.seq_turns.specs.declared.places.Rest.{Rest}
use Rattle.seq_turns.specs.declared.next.Next.{Next}
use Rattle.seq_turns.specs.declared.proper.Proper.{Proper}
use Rattle.seq_turns.specs.declared.proper.ProperList.{ProperList}
use Rattle.seq_turns.proofs.Seeing.{plain_vector}
use Rattle.seq_turns.proofs.Taking.{joins, some_cursor, takes_from, takes_same, takes_loop}
use Rattle.seq_meaning.specs.Prints.{spaced, print_items, print_on, print_vector, prints_next}
use Rattle.print_rules.specs.Left.{after_value, elements_from, is_print, items_from, print_round, prints, resolved, resolved_by, resumes, Takes}
use Rattle.print_rules.specs.Closing.{Resumes}
use Rattle.print_rules.specs.declared.closing.Resumed.{Resumed}
use Rattle.print_rules.specs.declared.closing.Resumed.TheVariants as R
use Rattle.print_rules.specs.declared.state.Around.{Around}
use Rattle.print_rules.specs.declared.state.Around.TheVariants as A
use Rattle.print_rules.specs.declared.state.Printing.{Printing}
use Rattle.print_rules.specs.declared.state.State.{State}

-- ## What a plan may be passed on to

pub silent_same : {p q : Plan ℕ} → p ≡ q → Silent is_print print_round p q
silent_same {p = p} e = subst (λ q. Silent is_print print_round p q) e arrives

pub resumes_from : {p q : Plan ℕ} (c : Resumed) → Silent is_print print_round p q → Resumes q c → Resumes p c
resumes_from (R.Turn n) s h = takes_from prints s h
resumes_from (R.Closed p) s h = joins s h

-- what a callee took
pub ok_from : {E : Type 0} (r : Result Resumed E) {p q : Plan ℕ} → Silent is_print print_round p q → IfOk r (λ c. Resumes q c) → IfOk r (λ c. Resumes p c)
ok_from (Ok c) s h = resumes_from c s h
ok_from (Err e) s h = tt

-- ## What waits

pub push : (h : M.Value ℕ → Plan ℕ) (others : List Around) (a : Around) (t : M.Value ℕ) → resolved_by h (others ++ a ∷ []) t ≡ then (after_value a t) (resolved_by h others)
push h [] a t = refl
push h (b ∷ others) a t = push (λ u. then (after_value b u) h) others a t

-- with one more that waits
waits_more : (p q : Printing) (a : Around) → q.around.items ≡ p.around.items ++ a ∷ [] → resolved q ≡ (λ t. then (after_value a t) (resolved p))
waits_more p q a e = ap (resolved_by give) e ∙ (λ i t. push give p.around.items a t i)

-- with the same that waits, and this text
pub text_grows : (p q : Printing) (l : List ℕ) → q.text ≡ l → q.around.items ≡ p.around.items → resolved p (M.text l) ≡ resumes q
text_grows p q l et er = sym (λ i. resolved_by give (er i) (M.text (et i)))

-- ## Atoms and functions

abbrev plain_node : Node → M.Value ℕ
plain_node = fold_node (M.Value ℕ) node_step value_step function_step

abbrev plain_function : FnValue → M.Value ℕ
plain_function = fold_function (M.Value ℕ) node_step value_step function_step

shown_by : (v : Value) (w : M.Value ℕ) (t : List ℕ) (h : M.Value ℕ → Plan ℕ) → plain v ≡ w → then (print_on t (plain v)) h ≡ then (print_on t w) h
shown_by v w t h e = ap (λ u. then (print_on t u) h) e

atom_at : (v : Value) (l : Value-F Node Value FnValue) → out-Value v ≡ l → (t : List ℕ) (h : M.Value ℕ → Plan ℕ) → is_some (text_at l) ≡ true → then (print_on t (plain v)) h ≡ h (M.text (t ++ unwrap_or (text_at l) []))
atom_at v Value-F.Nil e t h b = shown_by v M.nil t h (rw e at (fold_out-Value (M.Value ℕ) (M.Value ℕ) (M.Value ℕ) node_step value_step function_step v))
atom_at v (Value-F.Bool true) e t h b = shown_by v (M.bool true) t h (rw e at (fold_out-Value (M.Value ℕ) (M.Value ℕ) (M.Value ℕ) node_step value_step function_step v))
atom_at v (Value-F.Bool false) e t h b = shown_by v (M.bool false) t h (rw e at (fold_out-Value (M.Value ℕ) (M.Value ℕ) (M.Value ℕ) node_step value_step function_step v))
atom_at v (Value-F.Int n) e t h b = shown_by v (M.int n) t h (rw e at (fold_out-Value (M.Value ℕ) (M.Value ℕ) (M.Value ℕ) node_step value_step function_step v))
atom_at v (Value-F.Keyword name) e t h b = shown_by v (M.keyword name) t h (rw e at (fold_out-Value (M.Value ℕ) (M.Value ℕ) (M.Value ℕ) node_step value_step function_step v))
atom_at v (Value-F.Text bytes) e t h b = shown_by v (M.text bytes) t h (rw e at (fold_out-Value (M.Value ℕ) (M.Value ℕ) (M.Value ℕ) node_step value_step function_step v))
atom_at v (Value-F.Function f) e t h b =
    let p : plain v ≡ plain_function f = rw e at (fold_out-Value (M.Value ℕ) (M.Value ℕ) (M.Value ℕ) node_step value_step function_step v) in
    let q : plain_function f ≡ M.function f.target (M.values (plains f.bound)) = fold_out-FnValue (M.Value ℕ) (M.Value ℕ) (M.Value ℕ) node_step value_step function_step f in
    shown_by v (M.function f.target (M.values (plains f.bound))) t h (p ∙ q)
atom_at v (Value-F.Vector kept xs) e t h b = absurd cc
atom_at v (Value-F.Node n) e t h b = absurd cc
atom_at v (Value-F.Reduced kept held) e t h b = absurd cc
atom_at v (Value-F.Cell c) e t h b = absurd cc

atom_on : (v : Value) (t : List ℕ) (h : M.Value ℕ → Plan ℕ) → is_some (atom_text v) ≡ true → then (print_on t (plain v)) h ≡ h (M.text (t ++ unwrap_or (atom_text v) []))
atom_on v t h b = atom_at v (out-Value v) refl t h b

pub atom_goes : (v : Value) (p q : Printing) (r : Next State) → is_some (atom_text v) ≡ true → q.text ≡ p.text ++ unwrap_or (atom_text v) [] → q.around.items ≡ p.around.items → Takes (resumes q) r → Takes (then (print_on p.text (plain v)) (resolved p)) r
atom_goes v p q r b et er h = takes_same prints (sym (atom_on v p.text (resolved p) b ∙ text_grows p q (p.text ++ unwrap_or (atom_text v) []) et er)) h

none_more : (o : Option (List ℕ)) (l : List ℕ) → is_some o ≡ false → l ++ unwrap_or o [] ≡ l
none_more None l b = append-nil l
none_more (Some t) l b = absurd cc

pub members_go : (v : Value) (p q : Printing) (r : Next State) → is_some (atom_text v) ≡ false → q.text ≡ p.text ++ unwrap_or (atom_text v) [] → q.around.items ≡ p.around.items → Takes (then (print_on q.text (plain v)) (resolved q)) r → Takes (then (print_on p.text (plain v)) (resolved p)) r
members_go v p q r b et er h = takes_same prints (λ i. then (print_on ((et ∙ none_more (atom_text v) p.text b) i) (plain v)) (resolved_by give (er i))) h

-- ## Vectors

pub vector_on : (kept : ℕ) (xs : List Value) (l : List ℕ) (h : M.Value ℕ → Plan ℕ) → then (print_on l (plain (V.Vector kept xs))) h ≡ then (print_vector l (plains xs)) h
vector_on kept xs l h = ap (λ v. then (print_on l v) h) (plain_vector kept xs) ∙ ap (λ ys. then (print_vector l ys) h) (list_values (plains xs))

pub vector_empty : (xs : List Value) (p q : Printing) (r : Next State) → length xs ≡ 0 → q.text ≡ p.text ++ codes "[]" → q.around.items ≡ p.around.items → Takes (resumes q) r → Takes (then (print_vector p.text (plains xs)) (resolved p)) r
vector_empty [] p q r b et er h = takes_same prints (sym (text_grows p q (p.text ++ codes "[]") et er)) h
vector_empty (x ∷ xs) p q r b et er h = absurd cc

pub vector_opens : (xs : List Value) (l : List ℕ) (h : M.Value ℕ → Plan ℕ) → 0 < length xs → items_from (l ++ codes "[") (plains xs) h ≡ then (print_vector l (plains xs)) h
vector_opens [] l h b = absurd (omega arith)
vector_opens (x ∷ xs) l h b = refl

pub items_more : (xs : List Value) (l : List ℕ) (h : M.Value ℕ → Plan ℕ) → 0 < length xs → items_from (l ++ codes " ") (plains xs) h ≡ then (print_items (plains xs) (M.text l)) h
items_more [] l h b = absurd (omega arith)
items_more (x ∷ xs) l h b = refl

pub items_end : (xs : List Value) (p q : Printing) → length xs ≡ 0 → q.text ≡ p.text ++ codes "]" → q.around.items ≡ p.around.items → Silent is_print print_round (then (print_items (plains xs) (M.text p.text)) (resolved p)) (resumes q)
items_end [] p q b et er = silent_same (text_grows p q (p.text ++ codes "]") et er)
items_end (x ∷ xs) p q b et er = absurd cc

pub item_goes : (p q : Printing) (l : List ℕ) (items : ProperList) (at : ℕ) (x : Proper) (r : Next State) → drop at items.items ≡ x.value ∷ drop (at + 1) items.items → q.text ≡ l → q.around.items ≡ p.around.items ++ A.Items items (at + 1) ∷ [] → Takes (visit (then (print_on q.text (plain x.value)) (resolved q))) r → Takes (items_from l (plains (drop at items.items)) (resolved p)) r
item_goes p q l items at x r ex et er h =
    let k : M.Value ℕ → Plan ℕ = λ t. then (print_items (plains (drop (at + 1) items.items)) t) (resolved p) in
    let body : visit (then (print_on q.text (plain x.value)) (resolved q)) ≡ visit (then (print_on l (plain x.value)) k) = λ i. visit (then (print_on (et i) (plain x.value)) (waits_more p q (A.Items items (at + 1)) er i)) in
    takes_same prints (ap (λ vs. items_from l (plains vs) (resolved p)) (sym ex)) (takes_loop prints print_value (M.text l ∷ plain x.value ∷ []) k refl (takes_same prints body h))

-- ## Reduced values

pub reduced_on : (kept : ℕ) (v : Value) (l : List ℕ) (h : M.Value ℕ → Plan ℕ) → prints_next (l ++ codes "#reduced ") (plain v) h ≡ then (print_on l (plain (V.Reduced kept v))) h
reduced_on kept v l h =
    let e : plain (V.Reduced kept v) ≡ M.reduced (plain v) = search (rules, the_lemmas) in
    ap (λ w. then (print_on l w) h) (sym e)

pub reduced_goes : (p q : Printing) (v : Value) (x : Proper) (r : Next State) → x.value ≡ v → q.text ≡ p.text ++ codes "#reduced " → q.around.items ≡ p.around.items → Takes (visit (then (print_on q.text (plain x.value)) (resolved q))) r → Takes (prints_next (p.text ++ codes "#reduced ") (plain v) (resolved p)) r
reduced_goes p q v x r ex et er h =
    let body : visit (then (print_on q.text (plain x.value)) (resolved q)) ≡ visit (then (print_on (p.text ++ codes "#reduced ") (plain v)) (resolved p)) = λ i. visit (then (print_on (et i) (plain (ex i))) (resolved_by give (er i))) in
    takes_loop prints print_value (M.text (p.text ++ codes "#reduced ") ∷ plain v ∷ []) (resolved p) refl (takes_same prints body h)

-- ## Nodes and lazy parts

abbrev elements_on : List ℕ → M.Value ℕ → (M.Value ℕ → Plan ℕ) → Plan ℕ
elements_on l v h = seq v (λ s. elements_from (M.text (l ++ codes "(")) false s h)

pub cell_on : (l : List ℕ) (c : ℕ) (v : M.Value ℕ) (h : M.Value ℕ → Plan ℕ) → v ≡ M.cell c → elements_on l v h ≡ then (print_on l (plain (V.Cell c))) h
cell_on l c v h e =
    let p : plain (V.Cell c) ≡ M.cell c = search (rules, the_lemmas) in
    ap (λ w. elements_on l w h) e ∙ sym (shown_by (V.Cell c) (M.cell c) l h p)

-- what holds of the node of the meaning holds of the node
by_plain : (l : List ℕ) (h : M.Value ℕ → Plan ℕ) (v w : M.Value ℕ) → v ≡ w → elements_on l w h ≡ then (print_on l w) h → elements_on l v h ≡ then (print_on l v) h
by_plain l h v w e f = subst (λ u. elements_on l u h ≡ then (print_on l u) h) (sym e) f

node_at : (n : Node) (m : Node-F Node Value FnValue) → out-Node n ≡ m → (l : List ℕ) (h : M.Value ℕ → Plan ℕ) → elements_on l (plain_node n) h ≡ then (print_on l (plain_node n)) h
node_at n Node-F.Empty e l h = by_plain l h _ M.empty (rw e at (fold_out-Node (M.Value ℕ) (M.Value ℕ) (M.Value ℕ) node_step value_step function_step n)) refl
node_at n (Node-F.Cons kept heads rest) e l h = by_plain l h _ (M.cons (M.values (plains heads)) (plain rest)) (rw e at (fold_out-Node (M.Value ℕ) (M.Value ℕ) (M.Value ℕ) node_step value_step function_step n)) refl
node_at n (Node-F.Chunk kept items rest) e l h = by_plain l h _ (M.chunk (M.values (plains items)) (plain rest)) (rw e at (fold_out-Node (M.Value ℕ) (M.Value ℕ) (M.Value ℕ) node_step value_step function_step n)) refl
node_at n (Node-F.Range from at end) e l h = by_plain l h _ (M.range from at end) (rw e at (fold_out-Node (M.Value ℕ) (M.Value ℕ) (M.Value ℕ) node_step value_step function_step n)) refl
node_at n (Node-F.VecSeq kept items at) e l h = by_plain l h _ (M.vec_seq (M.values (plains items)) at) (rw e at (fold_out-Node (M.Value ℕ) (M.Value ℕ) (M.Value ℕ) node_step value_step function_step n)) refl

pub node_on : (l : List ℕ) (n : Node) (h : M.Value ℕ → Plan ℕ) → elements_on l (plain (V.Node n)) h ≡ then (print_on l (plain (V.Node n))) h
node_on l n h =
    let e : plain (V.Node n) ≡ plain_node n = search (rules, the_lemmas) in
    by_plain l h _ (plain_node n) e (node_at n (out-Node n) refl l h)

-- the seq of what is printed element by element is there
pub elements_found : (p q : Printing) (v w : M.Value ℕ) (r : Next State) → q.text ≡ p.text ++ codes "(" → q.around.items ≡ p.around.items → found v ≡ now w → Takes (elements_from (M.text q.text) false w (resolved q)) r → Takes (elements_on p.text v (resolved p)) r
elements_found p q v w r et er f h = takes_from prints (finds f arrives) (takes_same prints (λ i. elements_from (M.text (et i)) false w (resolved_by give (er i))) h)

-- it has to be asked for
pub elements_asked : (p q : Printing) (u v : M.Value ℕ) (r : Next State) → q.text ≡ p.text ++ codes "(" → q.around.items ≡ p.around.items → u ≡ v → Takes (seq u (λ s. elements_from (M.text q.text) false s (resolved q))) r → Takes (elements_on p.text v (resolved p)) r
elements_asked p q u v r et er e h = takes_same prints (λ i. seq (e i) (λ s. elements_from (M.text (et i)) false s (resolved_by give (er i)))) h

pub elements_end : (after : Bool) (p q : Printing) → q.text ≡ p.text ++ codes ")" → q.around.items ≡ p.around.items → Silent is_print print_round (elements_from (M.text p.text) after M.nil (resolved p)) (resumes q)
elements_end after p q et er = opens refl (silent_same (text_grows p q (p.text ++ codes ")") et er))

pub element_goes : (after : Bool) (c : Cursor) (p q : Printing) (x : Proper) (rest : Rest) (r : Next State) → plain x.value ≡ first_of (stands c) → rested rest ≡ rest_of (stands c) → q.text ≡ spaced after p.text → q.around.items ≡ p.around.items ++ A.Elements rest ∷ [] → Takes (visit (then (print_on q.text (plain x.value)) (resolved q))) r → Takes (elements_from (M.text p.text) after (stands c) (resolved p)) r
element_goes after c p q x rest r ex el et er h =
    let k : M.Value ℕ → M.Value ℕ → Plan ℕ = λ (u : M.Value ℕ) (t : M.Value ℕ). seq u (λ s. elements_from t true s give) in
    let one : visit (then (print_on q.text (plain x.value)) (resolved q)) ≡ visit (then (print_on (spaced after p.text) (first_of (stands c))) (λ t. then (k (rested rest) t) (resolved p))) = λ i. visit (then (print_on (et i) (ex i)) (waits_more p q (A.Elements rest) er i)) in
    let two : visit (then (print_on (spaced after p.text) (first_of (stands c))) (λ t. then (k (rested rest) t) (resolved p))) ≡ visit (then (print_on (spaced after p.text) (first_of (stands c))) (λ t. then (k (rest_of (stands c)) t) (resolved p))) = λ i. visit (then (print_on (spaced after p.text) (first_of (stands c))) (λ t. then (k (el i) t) (resolved p))) in
    let three : visit (then (then (print_on (spaced after p.text) (first_of (stands c))) (k (rest_of (stands c)))) (resolved p)) ≡ visit (then (print_on (spaced after p.text) (first_of (stands c))) (λ t. then (k (rest_of (stands c)) t) (resolved p))) = ap visit (then_joins (print_on (spaced after p.text) (first_of (stands c))) (k (rest_of (stands c))) (resolved p)) in
    takes_from prints (opens refl (rw (some_cursor c) arrives)) (takes_same prints (one ∙ two ∙ sym three) h)

-- ## The whole value

pub begins : (v : M.Value ℕ) (p : Printing) (r : Next State) → p.text ≡ [] → p.around.items ≡ [] → Takes (visit (then (print_on p.text v) (resolved p))) r → Takes (prints_next [] v give) r
begins v p r et er h = takes_loop prints print_value (M.text [] ∷ v ∷ []) give refl (takes_same prints (λ i. visit (then (print_on (et i) v) (resolved_by give (er i)))) h)
