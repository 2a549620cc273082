-- Words are read one setting after the other, in one way.
use Rattle.std.proofs.Common.{◌≡◌, ◌≤◌, List, [], ◌∷◌, drop, length, Option, Some, refl, ap, sym, subst, ◌∙◌, arith}
use Rattle.command_line.specs.declared.setting.Setting.{Setting}
use Rattle.command_line.specs.Settings.{Text, first_of}
use Rattle.command_line.specs.Asking.{Spells, spells_none, spells_more, OneRequest, BareNameRuns, options_of}

pub same_pair : (s t : Setting) (r q : List Text) → ◌≡◌ {A = Option (Setting × List Text)} (Some (s, r)) (Some (t, q)) → (s ≡ t) × (r ≡ q)
same_pair s t r q e = let p : ◌≡◌ {A = Setting × List Text} (s, r) (t, q) = cc in (ap (λ (x : Setting × List Text). x.0) p, ap (λ (x : Setting × List Text). x.1) p)

spelled_once : (words other : List Text) (all more : List Setting) → words ≡ other → Spells words all → Spells other more → all ≡ more
spelled_once words other all more e spells_none spells_none = refl
spelled_once words other all more e spells_none (spells_more f p) = absurd (cc (ap first_of e))
spelled_once words other all more e (spells_more f p) spells_none = absurd (cc (ap first_of e))
spelled_once words other all more e (spells_more {rest = r} {s = s} {more = m} f p) (spells_more {rest = q} {s = t} {more = n} g h) =
    let x : (s ≡ t) × (r ≡ q) = same_pair s t r q (sym f ∙ (ap first_of e ∙ g)) in
    ap (λ z. z ∷ m) x.0 ∙ ap (λ z. t ∷ z) (spelled_once r q m n x.1 p h)

pub one_request : OneRequest
one_request words a b p q = p.are ∙ (ap options_of (spelled_once _ _ p.settings q.settings refl p.spelled q.spelled) ∙ sym q.are)

nothing_behind : (words : List Text) → length words ≤ 1 → drop 1 words ≡ []
nothing_behind [] b = refl
nothing_behind (w ∷ []) b = refl
nothing_behind (w ∷ v ∷ ws) b = absurd (omega (arith, b))

pub bare_name_runs : BareNameRuns
bare_name_runs words b = record { settings = []; spelled = subst (λ w. Spells w []) (sym (nothing_behind words b)) spells_none; fit = refl; are = refl }
