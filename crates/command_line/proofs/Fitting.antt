-- What settings are among others, and what is to be done by what was given.
use Rattle.std.proofs.Common.{◌≡◌, ℕ, Bool, true, false, ◌&&◌, List, [], ◌∷◌, Option, Some, None, refl, ap, sym, ◌∙◌}
use Rattle.std.specs.Prelude.{nat_eq, if◌then◌else◌, unwrap_or}
use Rattle.command_line.specs.declared.setting.Setting.{Setting}
use Rattle.command_line.specs.declared.setting.Setting.TheVariants.{Check, Generate, Processors, Cells, Steps}
use Rattle.command_line.specs.declared.given.Given.{Given}
use Rattle.command_line.specs.declared.given.Request.{Request}
use Rattle.command_line.specs.declared.given.Request.TheVariants as R
use Rattle.command_line.specs.declared.given.Options.{Options}
use Rattle.command_line.specs.Asking.{made_or_run, request_of, options_of, place_of, same_kind, number_of, number_in, is_among, Holds}

pub left_of : (a b : Bool) → (a && b) ≡ true → a ≡ true
left_of true b e = refl
left_of false b e = absurd cc

pub right_of : (a b : Bool) → (a && b) ≡ true → b ≡ true
right_of true b e = e
right_of false b e = absurd cc

-- settings of one kind are looked for alike
pub number_same : (s t : Setting) (xs : List Setting) → place_of s ≡ place_of t → number_in s xs ≡ number_in t xs
number_same s t [] e = refl
number_same s t (x ∷ xs) e = ap (λ n. if nat_eq n (place_of x) then Some (number_of x) else number_in s xs) e ∙ ap (λ o. if same_kind t x then Some (number_of x) else o) (number_same s t xs e)

pub among_same : (s t : Setting) (xs : List Setting) → place_of s ≡ place_of t → is_among s xs ≡ is_among t xs
among_same s t [] e = refl
among_same s t (x ∷ xs) e = ap (λ n. if nat_eq n (place_of x) then true else is_among s xs) e ∙ ap (λ b. if same_kind t x then true else b) (among_same s t xs e)

pub none_among : (s : Setting) (xs : List Setting) → number_in s xs ≡ None → is_among s xs ≡ false
none_among s [] e = refl
none_among s (x ∷ xs) e = here (none_among s xs) (same_kind s x) e
  where
    here : (number_in s xs ≡ None → is_among s xs ≡ false) → (b : Bool) → (if b then Some (number_of x) else number_in s xs) ≡ None → (if b then true else is_among s xs) ≡ false
    here h true p = absurd cc
    here h false p = h p

pub some_among : (s : Setting) (xs : List Setting) (n : ℕ) → number_in s xs ≡ Some n → is_among s xs ≡ true
some_among s [] n e = absurd cc
some_among s (x ∷ xs) n e = here (some_among s xs n) (same_kind s x) e
  where
    here : (number_in s xs ≡ Some n → is_among s xs ≡ true) → (b : Bool) → (if b then Some (number_of x) else number_in s xs) ≡ Some n → (if b then true else is_among s xs) ≡ true
    here h true p = refl
    here h false p = h p

-- ## What is to be done

checked : (g : Given) (all : List Setting) → Holds g all → (b : Bool) → g.check ≡ b → is_among Check all ≡ b
checked g all h true e = some_among Check all 0 (sym (h.numbers Check) ∙ ap (λ b. if b then Some 0 else None) e)
checked g all h false e = none_among Check all (sym (h.numbers Check) ∙ ap (λ b. if b then Some 0 else None) e)

-- what is to be done is told by what was given
pub request_held : (g : Given) (all : List Setting) (r : Request) → Holds g all → (g.check ≡ true → r ≡ R.Check) → (g.check ≡ false → (n : ℕ) → g.generate ≡ Some n → r ≡ R.Generate n) → (g.check ≡ false → g.generate ≡ None → r ≡ R.Run) → r ≡ request_of all
request_held g all r h a b d = here g.check refl
  where
    now : (c : Bool) → g.check ≡ c → request_of all ≡ (if c then R.Check else made_or_run (number_in (Generate 0) all))
    now c e = ap (λ x. if x then R.Check else made_or_run (number_in (Generate 0) all)) (checked g all h c e)

    made_now : (o : Option ℕ) → g.generate ≡ o → g.check ≡ false → r ≡ made_or_run o
    made_now (Some n) e p = b p n e
    made_now None e p = d p e

    here : (c : Bool) → g.check ≡ c → r ≡ request_of all
    here true e = a e ∙ sym (now true e)
    here false e = made_now g.generate refl e ∙ (ap made_or_run (h.numbers (Generate 0)) ∙ sym (now false e))

pub options_held : (r : Request) (cells steps processors : ℕ) (all : List Setting) → r ≡ request_of all → cells ≡ unwrap_or (number_in (Cells 0) all) 65536 → steps ≡ unwrap_or (number_in (Steps 0) all) 1000000 → processors ≡ unwrap_or (number_in (Processors 0) all) 4 → ◌≡◌ {A = Options} (record { request = r; limits = record { cells = cells; steps = steps; processors = processors } }) (options_of all)
options_held r cells steps processors all p q t u = ap (λ x. record { request = x; limits = record { cells = cells; steps = steps; processors = processors } }) p ∙ (ap (λ x. record { request = request_of all; limits = record { cells = x; steps = steps; processors = processors } }) q ∙ (ap (λ x. record { request = request_of all; limits = record { cells = unwrap_or (number_in (Cells 0) all) 65536; steps = x; processors = processors } }) t ∙ ap (λ x. record { request = request_of all; limits = record { cells = unwrap_or (number_in (Cells 0) all) 65536; steps = unwrap_or (number_in (Steps 0) all) 1000000; processors = x } }) u))
