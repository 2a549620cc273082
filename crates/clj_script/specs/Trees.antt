-- What contracts see of a program: its functions, the bodies of its `lazy-seq`s, its names and its top forms, with each expression as a tree.
use Rattle.std.specs.Prelude.{ℕ, ℤ, Bool, List, [], ◌∷◌}
use Rattle.seq_values.specs.declared.words.Builtin.{Builtin}

pub data Literal : Type 0 where
  nil_literal : Literal
  bool_literal : Bool → Literal
  int_literal : ℤ → Literal
  -- the name, without the colon
  keyword_literal : List ℕ → Literal
  text_literal : List ℕ → Literal
  -- `()`
  empty_literal : Literal

mutual
  pub data Expr : Type 0 where
    literal : Literal → Expr
    -- a built-in word as a value
    word : Builtin → Expr
    -- a function of the program, by its number from 0
    function_of : ℕ → Expr
    -- the value of a `def` form, by the form's number from 1
    defined : ℕ → Expr
    -- a local in scope, by its number from 0, the outermost first and parameters before the rest
    local : ℕ → Expr
    vector_of : Exprs → Expr
    call_of : Expr → Exprs → Expr
    -- binds one more local, for the body
    let_in : Expr → Expr → Expr
    if_of : Expr → Expr → Expr → Expr
    and_of : Exprs → Expr
    or_of : Exprs → Expr
    -- a lazy part, by the number of its body from 0; it keeps all locals in scope
    lazy_seq : ℕ → Expr

  pub data Exprs : Type 0 where
    no_exprs : Exprs
    more_exprs : Expr → Exprs → Exprs

-- the expressions in order
abbrev pub exprs : List Expr → Exprs
exprs [] = no_exprs
exprs (e ∷ es) = more_exprs e (exprs es)

pub data Top : Type 0 where
  -- defines the name with this number, from 0
  def : ℕ → Expr → Top
  defn : Top
  prn : Expr → Top
  ledger : Top

pub record Program : Type 0 where
  -- the bodies of each function, each with its number of parameters
  pub functions : List (List (ℕ × Expr))
  -- the bodies of the `lazy-seq`s
  pub bodies : List Expr
  -- the texts of the defined names
  pub names : List (List ℕ)
  -- the top forms in order, form 1 first
  pub tops : List Top
