-- What a program shows of itself.
use Rattle.std.proofs.Common.{◌≡◌, Bool, true, false, ◌&&◌, ℕ, ◌+◌, ◌<◌, zero, suc, List, [], ◌∷◌, ◌++◌, length, map, Option, Some, None, refl, sym, ◌∙◌, ap, subst, arith}
use Rattle.std.specs.Prelude.{slice_get, slice_index_or}
use Rattle.std.specs.declared.vec.Vec.{Vec}
use Rattle.std.specs.declared.alloc.Global.{Global}
use Rattle.std.specs.Option.{option_map}
use Rattle.clj_script.specs.declared.expr.Expr.{Expr}
use Rattle.std.specs.Prelude.{◌-◌, MatchOption, IfSome}
use Rattle.std.specs.Option.{option_copied}
use Rattle.std.specs.Borrow.{Bor}
use Rattle.clj_script.specs.declared.expr.Expr.TheVariants as node
use Rattle.clj_script.specs.Arena as arena
use Rattle.clj_script.specs.Seen.{numbered, body_in, body_of}
use Rattle.clj_script.proofs.ArenaLemmas.{at-kept, all_at-kept, below_more, no_item, no_item_there, trees-length, read_behind}
use Rattle.clj_script.specs.Trees as tree
use Rattle.clj_script.specs.Arena.{AllBelow, trees_behind, LowerFrom}
use Rattle.clj_script.specs.Nodes.{tree_over, trees_of, parts_of, is_writable, are_writable}
use Rattle.clj_script.specs.Numbered.{numbers_of_bodies, AreBodiesBelow, number_of_top, AreTopsBelow}
use Rattle.clj_script.specs.declared.program.Body.{Body}
use Rattle.clj_script.specs.declared.program.Top.{Top}

abbrev nil : tree.Expr
nil = tree.literal tree.nil_literal

some_is_none : {X : Type 0} {x : X} → Some x ≡ None → ⊥
some_is_none e = (cc)

pub mapped_item : {X Y : Type 0} (f : X → Y) (xs : List X) (n : ℕ) → slice_get (map f xs) n ≡ option_map f (slice_get xs n)
mapped_item f [] n = refl
mapped_item f (x ∷ xs) zero = refl
mapped_item f (x ∷ xs) (suc n) = mapped_item f xs n

pub numbered_item : {X Y : Type 0} (f : X → Y) (xs : List X) (n : ℕ) (o : Option X) → 0 < n → o ≡ slice_get xs (n - 1) → option_map f o ≡ numbered (map f xs) n
numbered_item f xs zero o h e = absurd (omega arith)
numbered_item f xs (suc n) o h e =
    let m : suc n - 1 ≡ n = omega arith in
    let g : o ≡ slice_get xs n = rw m at e in
    ap (option_map f) g ∙ sym (mapped_item f xs n)

pub stays : (ts more : List tree.Expr) (e : Expr) → AllBelow (length ts) (parts_of e) → tree_over (ts ++ more) e ≡ tree_over ts e
unfolding tree_over
stays ts more (node.Literal value) b = refl
stays ts more (node.Word w) b = refl
stays ts more (node.Function f) b = refl
stays ts more (node.Defined form) b = refl
stays ts more (node.Local n) b = refl
stays ts more (node.Vector items) b = ap (λ (us : List tree.Expr). tree.vector_of (tree.exprs us)) (all_at-kept nil ts more items b)
stays ts more (node.Call head args) b =
    let e : arena.at nil (ts ++ more) head ≡ arena.at nil ts head = at-kept nil ts more head b.0 in
    let f : map (arena.at nil (ts ++ more)) args ≡ map (arena.at nil ts) args = all_at-kept nil ts more args b.1 in
    (cc)
stays ts more (node.Let value body) b =
    let e : arena.at nil (ts ++ more) value ≡ arena.at nil ts value = at-kept nil ts more value b.0 in
    let f : arena.at nil (ts ++ more) body ≡ arena.at nil ts body = at-kept nil ts more body b.1.0 in
    (cc)
stays ts more (node.If test a z) b =
    let e : arena.at nil (ts ++ more) test ≡ arena.at nil ts test = at-kept nil ts more test b.0 in
    let f : arena.at nil (ts ++ more) a ≡ arena.at nil ts a = at-kept nil ts more a b.1.0 in
    let g : arena.at nil (ts ++ more) z ≡ arena.at nil ts z = at-kept nil ts more z b.1.1.0 in
    (cc)
stays ts more (node.And items) b = ap (λ (us : List tree.Expr). tree.and_of (tree.exprs us)) (all_at-kept nil ts more items b)
stays ts more (node.Or items) b = ap (λ (us : List tree.Expr). tree.or_of (tree.exprs us)) (all_at-kept nil ts more items b)
stays ts more (node.LazySeq body) b = refl

got_at : {X : Type 0} (other : X) (xs : List X) (n : ℕ) → n < length xs → slice_get xs n ≡ Some (arena.at other xs n)
got_at other [] n h = absurd (omega arith)
got_at other (x ∷ xs) zero h = refl
got_at other (x ∷ xs) (suc n) h = got_at other xs n (omega arith)

is_within : {X : Type 0} (xs : List X) (n : ℕ) (x : X) → slice_get xs n ≡ Some x → n < length xs
is_within [] n x e = absurd (no_item n x e)
is_within (y ∷ ys) zero x e = omega arith
is_within (y ∷ ys) (suc n) x e = omega (arith, is_within ys n x e)

none_past : {X Y : Type 0} (xs : List X) (ys : List Y) (n : ℕ) → length ys ≡ length xs → slice_get xs n ≡ None → slice_get ys n ≡ None
none_past xs [] n h e = no_item_there n
none_past [] (y ∷ ys) n h e = absurd (omega arith)
none_past (x ∷ xs) (y ∷ ys) zero h e = absurd (some_is_none e)
none_past (x ∷ xs) (y ∷ ys) (suc n) h e = none_past xs ys n (omega arith) e

pub nodes-length : (es : List Expr) → length (trees_of es) ≡ length es
unfolding trees_of
nodes-length es =
    let k : length (trees_behind tree_over [] es) ≡ 0 + length es = trees-length tree_over parts_of [] es in
    omega (arith, k)

read_node : (es : List Expr) (n : ℕ) (e : Expr) → LowerFrom parts_of 0 es → slice_get es n ≡ Some e → slice_get (trees_of es) n ≡ Some (tree_over (trees_of es) e)
unfolding trees_of
read_node es n e l f =
    let m : n ≡ 0 + n = omega arith in
    let k : length (trees_behind tree_over [] es) ≡ 0 + length es = trees-length tree_over parts_of [] es in
    got_at nil (trees_behind tree_over [] es) n (omega (arith, k, is_within es n e f)) ∙ ap (λ (t : tree.Expr). Some t) (ap (λ (i : ℕ). arena.at nil (trees_behind tree_over [] es) i) m ∙ read_behind tree_over parts_of nil stays [] es n e l f)

-- an expression of a program by its tree
pub shown : (o : Option (Bor Expr)) (es : List Expr) (n : ℕ) → LowerFrom parts_of 0 es → option_copied o ≡ slice_get es n → MatchOption o (slice_get (trees_of es) n ≡ None) (λ e. slice_get (trees_of es) n ≡ Some (tree_over (trees_of es) e.now))
shown None es n l e = none_past es (trees_of es) n (nodes-length es) (sym e)
shown (Some b) es n l e = read_node es n b.now l (sym e)

lower_at : (k : ℕ) (es : List Expr) (n : ℕ) (e : Expr) → LowerFrom parts_of k es → slice_get es n ≡ Some e → AllBelow (k + n) (parts_of e)
lower_at k [] n e l f = absurd (no_item n e f)
lower_at k (x ∷ es) zero e l f =
    let g : x ≡ e = (cc) in
    below_more k (k + 0) (parts_of e) (omega arith) (subst (λ (y : Expr). AllBelow k (parts_of y)) g l.0)
lower_at k (x ∷ es) (suc n) e l f = subst (λ (m : ℕ). AllBelow m (parts_of e)) (omega arith) (lower_at (k + 1) es n e l.1 f)

pub shown_lower : (o : Option (Bor Expr)) (es : List Expr) (n : ℕ) → LowerFrom parts_of 0 es → option_copied o ≡ slice_get es n → IfSome o (λ e. AllBelow n (parts_of e.now))
shown_lower None es n l e = tt
shown_lower (Some b) es n l e = subst (λ (m : ℕ). AllBelow m (parts_of b.now)) (omega arith) (lower_at 0 es n b.now l (sym e))

-- ## What is named is there

pub number_there : (o : Option ℕ) (ns : List ℕ) (i : ℕ) (es : List Expr) → AllBelow (length es) ns → o ≡ slice_get ns i → IfSome o (λ n. n < length (trees_of es))
number_there None ns i es b e = tt
number_there (Some n) [] i es b e = absurd (no_item i n (sym e))
number_there (Some n) (k ∷ ns) zero es b e = let g : k ≡ n = (cc) in omega (arith, g, b.0, nodes-length es)
number_there (Some n) (k ∷ ns) (suc i) es b e = number_there (Some n) ns i es b.1 e

pub top_there : (o : Option Top) (ts : List Top) (i : ℕ) (es : List Expr) → AreTopsBelow (length es) ts → o ≡ slice_get ts i → IfSome o (λ t. AllBelow (length (trees_of es)) (number_of_top t))
top_there None ts i es b e = tt
top_there (Some t) [] i es b e = absurd (no_item i t (sym e))
top_there (Some t) (u ∷ ts) zero es b e =
    let g : u ≡ t = (cc) in
    subst (λ (n : ℕ). AllBelow n (number_of_top t)) (sym (nodes-length es)) (subst (λ (x : Top). AllBelow (length es) (number_of_top x)) g b.0)
top_there (Some t) (u ∷ ts) (suc i) es b e = top_there (Some t) ts i es b.1 e

pub bodies_there : {F : Type 0} (bound : ℕ) (bodies_of : F → List Body) (fs : List F) (i : ℕ) (f : F) → AreBodiesBelow bound bodies_of fs → slice_get fs i ≡ Some f → AllBelow bound (numbers_of_bodies (bodies_of f))
bodies_there bound bodies_of [] i f b e = absurd (no_item i f e)
bodies_there bound bodies_of (g ∷ fs) zero f b e = let h : g ≡ f = (cc) in subst (λ x. AllBelow bound (numbers_of_bodies (bodies_of x))) h b.0
bodies_there bound bodies_of (g ∷ fs) (suc i) f b e = bodies_there bound bodies_of fs i f b.1 e

pub body_there : (bound : ℕ) (bodies : List Body) (i : ℕ) (body : Body) → AllBelow bound (numbers_of_bodies bodies) → slice_get bodies i ≡ Some body → body.expr < bound
body_there bound [] i body b e = absurd (no_item i body e)
body_there bound (x ∷ bodies) zero body b e = let h : x ≡ body = (cc) in subst (λ (y : Body). y.expr < bound) h b.0
body_there bound (x ∷ bodies) (suc i) body b e = body_there bound bodies i body b.1 e

pub body_below : (bound : ℕ) (bodies : List Body) (i : ℕ) (other : Body) → AllBelow bound (numbers_of_bodies bodies) → i < length bodies → (slice_index_or bodies i other).expr < bound
body_below bound [] i other b h = absurd (omega arith)
body_below bound (x ∷ bodies) zero other b h = b.0
body_below bound (x ∷ bodies) (suc i) other b h = body_below bound bodies i other b.1 (omega arith)

-- a function's body is there, where each of the function's bodies is
pub function_there : (o : Option ℕ) (es : List Expr) (fs : List (Vec Body Global)) (i : ℕ) (f : Vec Body Global) (bodies : List Body) → AreBodiesBelow (length es) (λ bodies. bodies.items) fs → slice_get fs i ≡ Some f → bodies ≡ f.items → ((bound : ℕ) → AllBelow bound (numbers_of_bodies bodies) → IfSome o (λ n. n < bound)) → IfSome o (λ n. n < length (trees_of es))
function_there o es fs i f bodies b e g h =
    let below : AllBelow (length es) (numbers_of_bodies bodies) = subst (λ (bs : List Body). AllBelow (length es) (numbers_of_bodies bs)) (sym g) (bodies_there (length es) (λ (bodies : Vec Body Global). bodies.items) fs i f b e) in
    subst (λ (m : ℕ). IfSome o (λ n. n < m)) (sym (nodes-length es)) (h (length es) below)

-- a function that isn't there has no body
pub no_function : {F : Type 0} (bodies_of : F → List (ℕ × tree.Expr)) (fs : List F) (i count : ℕ) → slice_get fs i ≡ None → None ≡ body_of (map bodies_of fs) i count
no_function bodies_of fs i count e = sym (ap (λ o. body_in o count) (mapped_item bodies_of fs i ∙ ap (option_map bodies_of) e))

writable_at : (es : List Expr) (n : ℕ) (e : Expr) → are_writable es ≡ true → slice_get es n ≡ Some e → is_writable e ≡ true
writable_at [] n e h f = absurd (no_item n e f)
writable_at (x ∷ es) zero e h f = let g : x ≡ e = (cc) in subst (λ (y : Expr). is_writable y ≡ true) g (first_true (is_writable x) h) where
  first_true : (b : Bool) → (b && are_writable es) ≡ true → b ≡ true
  first_true true h = refl
  first_true false h = absurd cc
writable_at (x ∷ es) (suc n) e h f = writable_at es n e (rest_true (is_writable x) h) f where
  rest_true : (b : Bool) → (b && are_writable es) ≡ true → are_writable es ≡ true
  rest_true true h = h
  rest_true false h = absurd cc

pub written_there : (o : Option (Bor Expr)) (es : List Expr) (n : ℕ) → are_writable es ≡ true → option_copied o ≡ slice_get es n → IfSome o (λ e. is_writable e.now ≡ true)
written_there None es n h e = tt
written_there (Some b) es n h e = writable_at es n b.now h (sym e)
