-- Which texts are refused, for what, and where.
use Rattle.std.specs.Prelude.{ℕ, Bool, true, false, List, [], ◌∷◌, length, nat_lt, if◌then◌else◌, Option, Some, None, Result, Ok, Err}
use Rattle.clj_reader.specs.declared.place.Place.{Place}
use Rattle.clj_reader.specs.declared.token.Token.{Token}
use Rattle.clj_reader.specs.declared.token.Token.TheVariants.{Open, Close, Atom, Bad}
use Rattle.clj_reader.specs.declared.token.Bracket.{Bracket}
use Rattle.clj_reader.specs.declared.token.Bracket.TheVariants.{Round, Square}
use Rattle.clj_reader.specs.declared.token.Flaw.{Flaw}
use Rattle.clj_reader.specs.declared.token.Flaw.TheVariants.{Unreadable, TooLarge}
use Rattle.clj_reader.specs.declared.token.Lexeme.{Lexeme}
use Rattle.clj_reader.specs.declared.refusal.ReadRefusal.{ReadRefusal}

abbrev pub same_bracket : Bracket → Bracket → Bool
same_bracket Round Round = true
same_bracket Square Square = true
same_bracket _ _ = false

-- the refusal of a token that is none
abbrev pub flaw_number : Flaw → ℕ
flaw_number Unreadable = 3
flaw_number TooLarge = 4

abbrev pub refusal : ℕ → Place → ReadRefusal
refusal number place = record { number = number; place = place }

-- The brackets that stand open behind a token, the innermost first, or the token's refusal: an opening bracket where
-- 200 stand open, a closing one that doesn't match the innermost, and a token that is none.
abbrev pub opened_behind : List (Place × Bracket) → Place → Token → Result (List (Place × Bracket)) ReadRefusal
opened_behind opened p (Open b) = if nat_lt (length opened) 200 then Ok ((p, b) ∷ opened) else Err (refusal 5 p)
opened_behind [] p (Close b) = Err (refusal 2 p)
opened_behind (o ∷ opened) p (Close b) = if same_bracket b o.1 then Ok opened else Err (refusal 2 p)
opened_behind opened p (Atom atom) = Ok opened
opened_behind opened p (Bad flaw) = Err (refusal (flaw_number flaw) p)

-- the innermost bracket that is open at the end is refused
abbrev pub refusal_at_end : List (Place × Bracket) → Option ReadRefusal
refusal_at_end [] = None
refusal_at_end (o ∷ opened) = Some (refusal 2 o.0)

abbrev pub refusal_of_rest : Result (List (Place × Bracket)) ReadRefusal → (List (Place × Bracket) → Option ReadRefusal) → Option ReadRefusal
refusal_of_rest (Ok opened) rest = rest opened
refusal_of_rest (Err r) rest = Some r

-- the first refusal among tokens, from the left, where these brackets stand open before them
abbrev pub first_refusal : List (Place × Bracket) → List Lexeme → Option ReadRefusal
first_refusal opened [] = refusal_at_end opened
first_refusal opened (l ∷ ls) = refusal_of_rest (opened_behind opened l.place l.token) (λ more. first_refusal more ls)
