-- Words that spell settings, none of them twice, pass `clap`'s walk.
use Rattle.std.proofs.Common.{◌≡◌, ℕ, zero, suc, ◌≤◌, Bool, true, false, ◌||◌, not, List, [], ◌∷◌, ◌++◌, length, Option, Some, None, refl, ap, ap₂, sym, subst, ◌∙◌, arith}
use Rattle.std.specs.Prelude.{codes, is_some, option_and_then, option_map, if◌then◌else◌}
use Rattle.std.proofs.lemmas.Bool.{eqb-true}
use Rattle.clap.specs.Lexer.{long_of}
use Rattle.clap.specs.Walk.{Row, has_row, walk_from, walked}
use Rattle.command_line.specs.declared.setting.Setting.{Setting}
use Rattle.command_line.specs.declared.setting.Setting.TheVariants.{Check}
use Rattle.command_line.specs.Settings.{Text, before, first_of, in_range, number_by}
use Rattle.command_line.specs.Asking.{Spells, spells_none, spells_more, is_among, none_twice, place_of, same_kind}
use Rattle.command_line.specs.Reading.{Kind, name_of, least_of, most_of, read_by, setting_by}
use Rattle.command_line.proofs.Fitting.{among_same, left_of, right_of}
use Rattle.command_line.proofs.Spelling.{same_pair}
use Rattle.command_line.proofs.Names.{clash, equal_text, ours, same_text}
use Rattle.command_line.proofs.Lexing.{First, alone, alone_of, first, flag_alone, flag_valued, joined, no_long, no_name, number_plain}
use Rattle.command_line.proofs.Walking.{Pending, alone_fault, alone_next, both_none, dashes, flag_next, flag_passes, held, idle_turn, idle_walked, joined_next, joined_passes, paid, paid_rows, repeat_fresh, settle, settled_at, value_taken, waits_for}
use Rattle.command_line.proofs.Rows.{Added, added_none, flag_used, has_more, kind_reads, kind_row, kinds, number_used, row, row_name}
use Rattle.command_line.proofs.Agreeing.{Free, add_to, free_none, free_step, has_dashed, outcome, outcome_step}

-- no row is of these settings yet
abbrev pub Fresh : List Setting → List Row → Type 0
Fresh ss rows = (t : Setting) → is_among t ss ≡ true → has_row (row_name t) rows ≡ false

abbrev pub Passes : List Row → Pending → List Text → List Setting → Type 0
Passes rows p ws ss = (has_dashed ws ≡ false) × Free (walk_from (held rows p)) ws × Added (settled_at rows p) ss (outcome (walk_from (held rows p)) ws)

same_itself : (t : Setting) → same_kind t t ≡ true
same_itself t = kinds t t ∙ equal_text (row_name t) (row_name t) refl

fresh_head : (t : Setting) (ss : List Setting) (rows : List Row) → Fresh (t ∷ ss) rows → has_row (row_name t) rows ≡ false
fresh_head t ss rows f = f t (ap (λ b. if b then true else is_among t ss) (same_itself t))

not_false : (b : Bool) → not b ≡ true → b ≡ false
not_false true e = absurd cc
not_false false e = refl

fresh_more : (t : Setting) (v : Text) (ss : List Setting) (rows : List Row) → none_twice (t ∷ ss) ≡ true → Fresh (t ∷ ss) rows → Fresh ss (rows ++ row (row_name t) v ∷ [])
fresh_more t v ss rows n f u e =
    has_more (row_name u) rows (row (row_name t) v ∷ [])
    ∙ ap₂ (λ a b. a || (b || false)) (f u (later (same_kind u t))) (sym (kinds u t) ∙ apart (same_kind u t) refl)
  where
    later : (b : Bool) → (if b then true else is_among u ss) ≡ true
    later true = refl
    later false = e

    apart : (b : Bool) → same_kind u t ≡ b → same_kind u t ≡ false
    apart false k = k
    apart true k = absurd (clash (is_among t ss) (sym (among_same u t ss (eqb-true (place_of u) (place_of t) k)) ∙ e) (not_false (is_among t ss) (left_of (not (is_among t ss)) (none_twice ss) n)))

long_clean : (w : Text) (p : Text × Option Text) → long_of w ≡ Some p → dashes w ≡ false
long_clean w p l = here (dashes w) refl
  where
    here : (b : Bool) → dashes w ≡ b → dashes w ≡ false
    here false e = e
    here true e = absurd (clash (is_some (long_of w)) (ap is_some l) (ap (λ t. is_some (long_of t)) (same_text w (codes "--") e)))

number_before : (k : Kind) (rest r : List Text) (o : Option ℕ) (t : Setting) → before rest (option_map (setting_by k) o) ≡ Some (t, r) → (m : ℕ) × (o ≡ Some m) × (setting_by k m ≡ t) × (rest ≡ r)
number_before k rest r None t e = absurd cc
number_before k rest r (Some m) t e = let x = same_pair (setting_by k m) t rest r e in (m, refl, x.0, x.1)

-- a number that is in its range is a number
read_number : (k : Kind) (v : Text) (m : ℕ) → read_by k v ≡ Some m → (n : ℕ) × (number_by v ≡ Some n)
read_number k v m = here (number_by v)
  where
    here : (o : Option ℕ) → option_and_then (in_range (least_of k) (most_of k)) o ≡ Some m → (n : ℕ) × (o ≡ Some n)
    here None e = absurd cc
    here (Some n) e = (n, refl)

abbrev Passed : ℕ → Type 0
Passed n = (ws : List Text) (ss : List Setting) (rows : List Row) (p : Pending) → length ws ≤ n → Spells ws ss → settle rows p ≡ [] → none_twice ss ≡ true → Fresh ss (settled_at rows p) → Passes rows p ws ss

-- the settings behind the first one pass, so all pass
pass_flag : (n : ℕ) → Passed n → (w : Text) (ws : List Text) (rows : List Row) (p : Pending) (ss : List Setting) → length ws ≤ n → settle rows p ≡ [] → none_twice (Check ∷ ss) ≡ true → Fresh (Check ∷ ss) (settled_at rows p) → Spells ws ss → long_of w ≡ Some (codes "check", None) → Passes rows p (w ∷ ws) (Check ∷ ss)
pass_flag n ih w ws rows p ss b s nt f q l =
    let new = fresh_head Check ss (settled_at rows p) f in
    let next = settled_at rows p ++ row (codes "check") (codes "true") ∷ [] in
    let clean = long_clean w (codes "check", None) l in
    let e : walked ours.rules [] (walk_from (held rows p)) w ≡ walk_from (held next None) = idle_walked w (held rows p) (Some (codes "check", None)) clean l ∙ (flag_next w rows p ∙ ap (λ r. walk_from (held r None)) (flag_used (settled_at rows p) new)) in
    let i = ih ws ss next None b q refl (right_of (not (is_among Check ss)) (none_twice ss) nt) (fresh_more Check (codes "true") ss (settled_at rows p) nt f) in (
      ap₂ (λ x y. x || y) clean i.0,
      free_step (walk_from (held rows p)) (walk_from (held next None)) w ws (idle_turn w (held rows p) (Some (codes "check", None)) clean l ∙ flag_passes w rows p s new) e i.1,
      add_to (settled_at rows p) next _ _ Check (codes "true") (codes "check") ss new refl refl refl (outcome_step (walk_from (held rows p)) (walk_from (held next None)) w ws e) i.2,
    )

pass_joined : (n : ℕ) → Passed n → (w : Text) (ws : List Text) (rows : List Row) (p : Pending) (ss : List Setting) (k : Kind) (v : Text) (m : ℕ) → length ws ≤ n → settle rows p ≡ [] → none_twice (setting_by k m ∷ ss) ≡ true → Fresh (setting_by k m ∷ ss) (settled_at rows p) → Spells ws ss → long_of w ≡ Some (name_of k, Some v) → read_by k v ≡ Some m → Passes rows p (w ∷ ws) (setting_by k m ∷ ss)
pass_joined n ih w ws rows p ss k v m b s nt f q l r =
    let new : has_row (name_of k) (settled_at rows p) ≡ false = subst (λ x. has_row x (settled_at rows p) ≡ false) (kind_row k m) (fresh_head (setting_by k m) ss (settled_at rows p) f) in
    let next = settled_at rows p ++ row (name_of k) v ∷ [] in
    let clean = long_clean w (name_of k, Some v) l in
    let e : walked ours.rules [] (walk_from (held rows p)) w ≡ walk_from (held next None) = idle_walked w (held rows p) (Some (name_of k, Some v)) clean l ∙ (joined_next k v w rows p ∙ ap (λ z. walk_from (held z None)) (number_used (name_of k) v (settled_at rows p) new)) in
    let i = ih ws ss next None b q refl (right_of (not (is_among (setting_by k m) ss)) (none_twice ss) nt) (subst (λ x. Fresh ss (settled_at rows p ++ row x v ∷ [])) (kind_row k m) (fresh_more (setting_by k m) v ss (settled_at rows p) nt f)) in (
      ap₂ (λ x y. x || y) clean i.0,
      free_step (walk_from (held rows p)) (walk_from (held next None)) w ws (idle_turn w (held rows p) (Some (name_of k, Some v)) clean l ∙ joined_passes k v w rows p s new) e i.1,
      add_to (settled_at rows p) next _ _ (setting_by k m) v (name_of k) ss new (kind_row k m) (kind_reads k m v r) refl (outcome_step (walk_from (held rows p)) (walk_from (held next None)) w ws e) i.2,
    )

pass_alone : (n : ℕ) → Passed n → (w v : Text) (ws : List Text) (rows : List Row) (p : Pending) (ss : List Setting) (k : Kind) (m : ℕ) → length ws ≤ n → settle rows p ≡ [] → none_twice (setting_by k m ∷ ss) ≡ true → Fresh (setting_by k m ∷ ss) (settled_at rows p) → Spells ws ss → long_of w ≡ Some (name_of k, None) → read_by k v ≡ Some m → Passes rows p (w ∷ v ∷ ws) (setting_by k m ∷ ss)
pass_alone n ih w v ws rows p ss k m b s nt f q l r =
    let new : has_row (name_of k) (settled_at rows p) ≡ false = subst (λ x. has_row x (settled_at rows p) ≡ false) (kind_row k m) (fresh_head (setting_by k m) ss (settled_at rows p) f) in
    let clean = long_clean w (name_of k, None) l in
    let number = read_number k v m r in
    let digits = number_plain v number.0 number.1 in
    let taken = value_taken k (settled_at rows p) v digits.2 digits.0 digits.1 in
    let there : settled_at (settled_at rows p) (Some (name_of k, v ∷ [])) ≡ settled_at rows p ++ row (name_of k) v ∷ [] = paid_rows k v (settled_at rows p) ∙ number_used (name_of k) v (settled_at rows p) new in
    let e : walked ours.rules [] (walk_from (held rows p)) w ≡ waits_for (name_of k) (settled_at rows p) = idle_walked w (held rows p) (Some (name_of k, None)) clean l ∙ alone_next k w rows p in
    let i = ih ws ss (settled_at rows p) (Some (name_of k, v ∷ [])) b q (paid k v (settled_at rows p) ∙ both_none _ [] (repeat_fresh (name_of k) (settled_at rows p) new) refl) (right_of (not (is_among (setting_by k m) ss)) (none_twice ss) nt) (subst (λ x. Fresh ss x) (sym there) (subst (λ x. Fresh ss (settled_at rows p ++ row x v ∷ [])) (kind_row k m) (fresh_more (setting_by k m) v ss (settled_at rows p) nt f))) in (
      ap₂ (λ x y. x || y) clean (ap₂ (λ x y. x || y) digits.2 i.0),
      free_step (walk_from (held rows p)) (waits_for (name_of k) (settled_at rows p)) w (v ∷ ws) (idle_turn w (held rows p) (Some (name_of k, None)) clean l ∙ (alone_fault k w rows p ∙ both_none (settle rows p) [] s refl)) e
          (free_step (waits_for (name_of k) (settled_at rows p)) (walk_from (held (settled_at rows p) (Some (name_of k, v ∷ [])))) v ws taken.0 taken.1 i.1),
      add_to (settled_at rows p) (settled_at (settled_at rows p) (Some (name_of k, v ∷ []))) _ _ (setting_by k m) v (name_of k) ss new (kind_row k m) (kind_reads k m v r) there
          (outcome_step (walk_from (held rows p)) (waits_for (name_of k) (settled_at rows p)) w (v ∷ ws) e ∙ outcome_step (waits_for (name_of k) (settled_at rows p)) (walk_from (held (settled_at rows p) (Some (name_of k, v ∷ [])))) v ws taken.1) i.2,
    )

number_pass : (n : ℕ) → Passed n → (w : Text) (ws : List Text) (rows : List Row) (p : Pending) (t : Setting) (r : List Text) (ss : List Setting) (k : Kind) → length ws ≤ n → settle rows p ≡ [] → none_twice (t ∷ ss) ≡ true → Fresh (t ∷ ss) (settled_at rows p) → alone_of k ws ≡ Some (t, r) → Spells r ss → long_of w ≡ Some (name_of k, None) → Passes rows p (w ∷ ws) (t ∷ ss)
number_pass n ih w [] rows p t r ss k b s nt f e q l = absurd cc
number_pass n ih w (v ∷ ws) rows p t r ss k b s nt f e q l =
    let x = number_before k ws r (read_by k v) t e in
    subst (λ z. Passes rows p (w ∷ v ∷ ws) (z ∷ ss)) x.2 (pass_alone n ih w v ws rows p ss k x.0 (omega (arith, b)) s (subst (λ z. none_twice (z ∷ ss) ≡ true) (sym x.2) nt) (subst (λ z. Fresh (z ∷ ss) (settled_at rows p)) (sym x.2) f) (subst (λ z. Spells z ss) (sym x.3) q) l x.1)

none_some : (o : Option (Setting × List Text)) (x : Setting × List Text) → o ≡ None → o ≡ Some x → ⊥
none_some o x a b = cc

-- the first word passes, by what it is
pass_first : (n : ℕ) → Passed n → (w : Text) (ws : List Text) (rows : List Row) (p : Pending) (t : Setting) (r : List Text) (ss : List Setting) → length ws ≤ n → settle rows p ≡ [] → none_twice (t ∷ ss) ≡ true → Fresh (t ∷ ss) (settled_at rows p) → first_of (w ∷ ws) ≡ Some (t, r) → Spells r ss → First w → Passes rows p (w ∷ ws) (t ∷ ss)
pass_first n ih w ws rows p t r ss b s nt f e q (no_long l h) = absurd (none_some _ (t, r) (h ws) e)
pass_first n ih w ws rows p t r ss b s nt f e q (no_name m v l a h) = absurd (none_some _ (t, r) (h ws) e)
pass_first n ih w ws rows p t r ss b s nt f e q (flag_valued v l h) = absurd (none_some _ (t, r) (h ws) e)
pass_first n ih w ws rows p t r ss b s nt f e q (flag_alone l h) =
    let x = same_pair Check t ws r (sym (h ws) ∙ e) in
    subst (λ z. Passes rows p (w ∷ ws) (z ∷ ss)) x.0 (pass_flag n ih w ws rows p ss b s (subst (λ z. none_twice (z ∷ ss) ≡ true) (sym x.0) nt) (subst (λ z. Fresh (z ∷ ss) (settled_at rows p)) (sym x.0) f) (subst (λ z. Spells z ss) (sym x.1) q) l)
pass_first n ih w ws rows p t r ss b s nt f e q (joined k v l h) =
    let x = number_before k ws r (read_by k v) t (sym (h ws) ∙ e) in
    subst (λ z. Passes rows p (w ∷ ws) (z ∷ ss)) x.2 (pass_joined n ih w ws rows p ss k v x.0 b s (subst (λ z. none_twice (z ∷ ss) ≡ true) (sym x.2) nt) (subst (λ z. Fresh (z ∷ ss) (settled_at rows p)) (sym x.2) f) (subst (λ z. Spells z ss) (sym x.3) q) l x.1)
pass_first n ih w ws rows p t r ss b s nt f e q (alone k l h) = number_pass n ih w ws rows p t r ss k b s nt f (sym (h ws) ∙ e) q l

-- the first of the settings
spelled_first : (w : Text) (ws words : List Text) (ss : List Setting) → words ≡ w ∷ ws → Spells words ss → (t : Setting) × (r : List Text) × (more : List Setting) × (first_of (w ∷ ws) ≡ Some (t, r)) × Spells r more × (t ∷ more ≡ ss)
spelled_first w ws words ss e spells_none = absurd cc
spelled_first w ws words ss e (spells_more {rest = r} {s = t} {more = m} f q) = (t, r, m, ap first_of (sym e) ∙ f, q, refl)

nothing_spelled : (words : List Text) (ss : List Setting) → words ≡ [] → Spells words ss → [] ≡ ss
nothing_spelled words ss e spells_none = refl
nothing_spelled words ss e (spells_more f q) = absurd (cc (ap first_of e))

pub passes : (n : ℕ) (ws : List Text) (ss : List Setting) (rows : List Row) (p : Pending) → length ws ≤ n → Spells ws ss → settle rows p ≡ [] → none_twice ss ≡ true → Fresh ss (settled_at rows p) → Passes rows p ws ss
passes n [] ss rows p b q s nt f = subst (λ z. Passes rows p [] z) (nothing_spelled [] ss refl q) (refl, free_none (walk_from (held rows p)) s, added_none)
passes zero (w ∷ ws) ss rows p b q s nt f = absurd (omega (arith, b))
passes (suc n) (w ∷ ws) ss rows p b q s nt f =
    let x = spelled_first w ws (w ∷ ws) ss refl q in
    subst (λ z. Passes rows p (w ∷ ws) z) x.5 (pass_first n (passes n) w ws rows p x.0 x.1 x.2 (omega (arith, b)) s (subst (λ z. none_twice z ≡ true) (sym x.5) nt) (subst (λ z. Fresh z (settled_at rows p)) (sym x.5) f) x.3 x.4 (first w))
