-- What a form means as an expression, and all that is refused of it.
use Rattle.std.specs.Prelude.{◌≡◌, ℕ, List, [], ◌∷◌, ◌++◌, length, Some, None, Ok, Err}
use Rattle.clj_reader.specs.declared.place.Place.{Place}
use Rattle.clj_script.specs.declared.refusal.ScriptRefusal.{ScriptRefusal}
use Rattle.clj_script.specs.Trees.{Literal, nil_literal, empty_literal, Expr, exprs}
use Rattle.clj_script.specs.Trees as tree
use Rattle.clj_script.specs.Refusals.{refusal}
use Rattle.clj_script.specs.Sources.{Source, Sources, atom, symbol, round, square, listed}
use Rattle.clj_script.specs.Scopes.{Definitions, named, name_of, binding_refusals}
use Rattle.clj_script.specs.Readings.{Reading, reading, nothing, refused, stands_for, call, let_of, if_of, and_of, or_of, lazy_seq}

abbrev pub nil_expr : Expr
nil_expr = tree.literal nil_literal

module _ (definitions : Definitions) where
  mutual
    -- With these locals in scope, the outermost first, and these bodies of `lazy-seq`s before it, a form means the expression
    -- and leaves these bodies, and this is refused of it. A body gets the next number once it is finished. For a form that is
    -- refused whole stands nil.
    pub data Judged : (locals : List (List ℕ)) (bodies : List Expr) → Source → Expr → List Expr → List ScriptRefusal → Type 0 where
      of_atom : {ls : List (List ℕ)} {b : List Expr} {p : Place} {l : Literal} → Judged ls b (atom p l) (tree.literal l) b []
      of_name : {ls : List (List ℕ)} {b : List Expr} {p : Place} {name : List ℕ} {e : Expr} → named definitions ls name ≡ Ok e → Judged ls b (symbol p name) e b []
      of_no_name : {ls : List (List ℕ)} {b : List Expr} {p : Place} {name : List ℕ} {n : ℕ} → named definitions ls name ≡ Err n → Judged ls b (symbol p name) nil_expr b (refusal n p ∷ [])
      of_vector : {ls : List (List ℕ)} {b b' : List Expr} {p : Place} {items : Sources} {es : List Expr} {rs : List ScriptRefusal} → JudgedAll ls b (listed items) es b' rs → Judged ls b (square p items) (tree.vector_of (exprs es)) b' rs
      of_list : {ls : List (List ℕ)} {b b' : List Expr} {p : Place} {items : Sources} {e : Expr} {rs : List ScriptRefusal} → JudgedList ls b p (reading (listed items)) e b' rs → Judged ls b (round p items) e b' rs

    -- the same of a list at a place, by what it asks for
    pub data JudgedList : (locals : List (List ℕ)) (bodies : List Expr) → Place → Reading → Expr → List Expr → List ScriptRefusal → Type 0 where
      of_nothing : {ls : List (List ℕ)} {b : List Expr} {p : Place} → JudgedList ls b p nothing (tree.literal empty_literal) b []
      of_refused : {ls : List (List ℕ)} {b : List Expr} {p : Place} {n : ℕ} → JudgedList ls b p (refused n) nil_expr b (refusal n p ∷ [])
      of_threading : {ls : List (List ℕ)} {b b' : List Expr} {p : Place} {s : Source} {e : Expr} {steps rs : List ScriptRefusal} → Judged ls b s e b' rs → JudgedList ls b p (stands_for s steps) e b' (steps ++ rs)
      of_call : {ls : List (List ℕ)} {b b' b'' : List Expr} {p : Place} {head : Source} {args : List Source} {e : Expr} {es : List Expr} {rs rs' : List ScriptRefusal} → Judged ls b head e b' rs → JudgedAll ls b' args es b'' rs' → JudgedList ls b p (call head args) (tree.call_of e (exprs es)) b'' (rs ++ rs')
      of_let : {ls : List (List ℕ)} {b b' : List Expr} {p : Place} {pairs : List (Source × Source)} {body : Source} {e : Expr} {rs : List ScriptRefusal} → JudgedLet ls b pairs body e b' rs → JudgedList ls b p (let_of pairs body) e b' rs
      of_if : {ls : List (List ℕ)} {b b' b'' b''' : List Expr} {p : Place} {test a z : Source} {e e' e'' : Expr} {rs rs' rs'' : List ScriptRefusal} → Judged ls b test e b' rs → Judged ls b' a e' b'' rs' → Judged ls b'' z e'' b''' rs'' → JudgedList ls b p (if_of test a (Some z)) (tree.if_of e e' e'') b''' (rs ++ rs' ++ rs'')
      -- where the third is missing it is nil
      of_if_alone : {ls : List (List ℕ)} {b b' b'' : List Expr} {p : Place} {test a : Source} {e e' : Expr} {rs rs' : List ScriptRefusal} → Judged ls b test e b' rs → Judged ls b' a e' b'' rs' → JudgedList ls b p (if_of test a None) (tree.if_of e e' nil_expr) b'' (rs ++ rs')
      of_and : {ls : List (List ℕ)} {b b' : List Expr} {p : Place} {args : List Source} {es : List Expr} {rs : List ScriptRefusal} → JudgedAll ls b args es b' rs → JudgedList ls b p (and_of args) (tree.and_of (exprs es)) b' rs
      of_or : {ls : List (List ℕ)} {b b' : List Expr} {p : Place} {args : List Source} {es : List Expr} {rs : List ScriptRefusal} → JudgedAll ls b args es b' rs → JudgedList ls b p (or_of args) (tree.or_of (exprs es)) b' rs
      of_lazy_seq : {ls : List (List ℕ)} {b b' : List Expr} {p : Place} {body : Source} {e : Expr} {rs : List ScriptRefusal} → Judged ls b body e b' rs → JudgedList ls b p (lazy_seq body) (tree.lazy_seq (length b')) (b' ++ e ∷ []) rs

    -- the same of forms from left to right
    pub data JudgedAll : (locals : List (List ℕ)) (bodies : List Expr) → List Source → List Expr → List Expr → List ScriptRefusal → Type 0 where
      of_none : {ls : List (List ℕ)} {b : List Expr} → JudgedAll ls b [] [] b []
      of_more : {ls : List (List ℕ)} {b b' b'' : List Expr} {s : Source} {ss : List Source} {e : Expr} {es : List Expr} {rs rs' : List ScriptRefusal} → Judged ls b s e b' rs → JudgedAll ls b' ss es b'' rs' → JudgedAll ls b (s ∷ ss) (e ∷ es) b'' (rs ++ rs')

    -- The same of names with expressions and a body: the first name is bound for the pairs after it and the body. A name that
    -- can't be bound is refused, and bound for the rest.
    pub data JudgedLet : (locals : List (List ℕ)) (bodies : List Expr) → List (Source × Source) → Source → Expr → List Expr → List ScriptRefusal → Type 0 where
      of_body : {ls : List (List ℕ)} {b b' : List Expr} {body : Source} {e : Expr} {rs : List ScriptRefusal} → Judged ls b body e b' rs → JudgedLet ls b [] body e b' rs
      of_pair : {ls : List (List ℕ)} {b b' b'' : List Expr} {name value : Source} {pairs : List (Source × Source)} {body : Source} {e e' : Expr} {rs rs' : List ScriptRefusal} → Judged ls b value e b' rs → JudgedLet (ls ++ name_of name ∷ []) b' pairs body e' b'' rs' → JudgedLet ls b ((name, value) ∷ pairs) body (tree.let_in e e') b'' (rs ++ binding_refusals name ++ rs')
