-- `clap`'s walk over the words agrees with the settings that the words spell.
use Rattle.std.proofs.Common.{◌≡◌, ℕ, zero, suc, ◌≤◌, Bool, true, false, ◌||◌, List, [], ◌∷◌, ◌++◌, length, Option, Some, None, refl, ap, sym, subst, ◌∙◌, arith, append_assoc}
use Rattle.std.specs.Prelude.{codes, fold, option_map}
use Rattle.std.specs.List.{list_any}
use Rattle.std.specs.Str.{bytes_eq}
use Rattle.std.proofs.lemmas.List.{append-nil}
use Rattle.clap.specs.Lexer.{long_of}
use Rattle.clap.specs.Walk.{Row, Walk, has_row, settled, walk_from, walked}
use Rattle.clap.specs.Faults.{settle_fault, turn_fault, walk_fault}
use Rattle.command_line.specs.declared.setting.Setting.{Setting}
use Rattle.command_line.specs.declared.setting.Setting.TheVariants.{Check}
use Rattle.command_line.specs.Settings.{Text, before, first_of}
use Rattle.command_line.specs.Asking.{Spells, spells_none, spells_more}
use Rattle.command_line.specs.Reading.{Kind, name_of, read_by, setting_by}
use Rattle.command_line.proofs.Names.{ours}
use Rattle.command_line.proofs.Lexing.{First, alone, alone_of, first, flag_alone, flag_valued, joined, no_long, no_name}
use Rattle.command_line.proofs.Walking.{Pending, alone_fault, alone_next, both_none, dashes, flag_fault, flag_next, flag_with_value, fresh_repeat, held, idle_turn, idle_walked, joined_facts, joined_next, left_none, paid, paid_rows, refused_value, right_none, settle, settled_at, stray_name, stray_word, taken_value, unpaid_fault, Value, value, waits_for}
use Rattle.command_line.proofs.Rows.{Added, Reads, added, added_none, flag_used, found, found_here, kind_reads, kind_row, number_used, row, row_name}

-- the walk over these words has no fault, but for what comes after it
abbrev pub Free : Walk → List Text → Type 0
Free w ws = (walk_fault ours [] w ws ≡ []) × (settle_fault ours.rules false (fold (walked ours.rules []) w ws).held ≡ [])

-- the rows behind it
abbrev pub outcome : Walk → List Text → List Row
outcome w ws = (settled ours.rules (fold (walked ours.rules []) w ws).held).rows

pub free_step : (w next : Walk) (x : Text) (xs : List Text) → turn_fault ours [] w x ≡ [] → walked ours.rules [] w x ≡ next → Free next xs → Free w (x ∷ xs)
unfolding walk_fault
free_step w next x xs t e f = (both_none (turn_fault ours [] w x) _ t (ap (λ v. walk_fault ours [] v xs) e ∙ f.0), ap (λ (v : Walk). settle_fault ours.rules false (fold (walked ours.rules []) v xs).held) e ∙ f.1)

pub free_turn : (w : Walk) (x : Text) (xs : List Text) → Free w (x ∷ xs) → turn_fault ours [] w x ≡ []
unfolding walk_fault
free_turn w x xs f = left_none (turn_fault ours [] w x) _ f.0

pub free_rest : (w next : Walk) (x : Text) (xs : List Text) → walked ours.rules [] w x ≡ next → Free w (x ∷ xs) → Free next xs
unfolding walk_fault
free_rest w next x xs e f = (ap (λ v. walk_fault ours [] v xs) (sym e) ∙ right_none (turn_fault ours [] w x) _ f.0, ap (λ (v : Walk). settle_fault ours.rules false (fold (walked ours.rules []) v xs).held) (sym e) ∙ f.1)

pub outcome_step : (w next : Walk) (x : Text) (xs : List Text) → walked ours.rules [] w x ≡ next → outcome w (x ∷ xs) ≡ outcome next xs
outcome_step w next x xs e = ap (λ (v : Walk). outcome v xs) e

pub free_none : (w : Walk) → settle_fault ours.rules false w.held ≡ [] → Free w []
unfolding walk_fault
free_none w e = (refl, e)

-- no word is `--`
abbrev pub has_dashed : List Text → Bool
has_dashed ws = list_any (λ w. bytes_eq w (codes "--")) ws

pub or_left : (a b : Bool) → (a || b) ≡ false → a ≡ false
or_left true b e = absurd cc
or_left false b e = refl

pub or_right : (a b : Bool) → (a || b) ≡ false → b ≡ false
or_right true b e = absurd cc
or_right false b e = e

-- each option that was found has a value of its kind
abbrev pub Good : List Row → Type 0
Good rows = (k : Kind) (v : Text) → found (name_of k) rows ≡ Some (row (name_of k) v) → (m : ℕ) × (read_by k v ≡ Some m)

pub add_to : (rows next out after : List Row) (t : Setting) (v name : Text) (ss : List Setting) → has_row name rows ≡ false → row_name t ≡ name → Reads t v → next ≡ rows ++ row name v ∷ [] → out ≡ after → Added next ss after → Added rows (t ∷ ss) out
add_to rows next out after t v name ss f e r q o a = subst (λ x. Added rows (t ∷ ss) x) (sym o) (added t v (subst (λ n. has_row n rows ≡ false) (sym e) f) r (subst (λ x. Added x ss after) (q ∙ ap (λ n. rows ++ row n v ∷ []) (sym e)) a))

before_number : (k : Kind) (rest : List Text) (o : Option ℕ) (m : ℕ) → o ≡ Some m → before rest (option_map (setting_by k) o) ≡ Some (setting_by k m, rest)
before_number k rest o m e = ap (λ x. before rest (option_map (setting_by k) x)) e

-- ## Words without a fault spell settings

pub record Run (rows : List Row) (p : Pending) (ws : List Text) : Type 0 where
  pub settles : settle rows p ≡ []
  pub more : List Row
  pub grows : outcome (walk_from (held rows p)) ws ≡ settled_at rows p ++ more
  pub spells : Good (outcome (walk_from (held rows p)) ws) → (ss : List Setting) × Spells ws ss × Added (settled_at rows p) ss (outcome (walk_from (held rows p)) ws)

run_more : (rows : List Row) (p : Pending) (ws : List Text) (next : List Row) (q : Pending) (rest : List Text) (name v : Text) → settle rows p ≡ [] → has_row name (settled_at rows p) ≡ false → outcome (walk_from (held rows p)) ws ≡ outcome (walk_from (held next q)) rest → settled_at next q ≡ settled_at rows p ++ row name v ∷ [] → (Good (outcome (walk_from (held rows p)) ws) → (t : Setting) × (row_name t ≡ name) × Reads t v × (first_of ws ≡ Some (t, rest))) → Run next q rest → Run rows p ws
run_more rows p ws next q rest name v s f o e reads r = record {
  settles = s;
  more = row name v ∷ r.more;
  grows = o ∙ (r.grows ∙ (ap (λ x. x ++ r.more) e ∙ append_assoc (settled_at rows p) (row name v ∷ []) r.more));
  spells = λ good.
      let t = reads good in
      let x = r.spells (subst (λ y. Good y) o good) in
      (t.0 ∷ x.0, spells_more t.3 x.1, add_to (settled_at rows p) (settled_at next q) _ _ t.0 v name x.0 f t.1 t.2 e o x.2);
}

number_reads : (k : Kind) (v : Text) (rows out more : List Row) (ws rest : List Text) → has_row (name_of k) rows ≡ false → out ≡ (rows ++ row (name_of k) v ∷ []) ++ more → first_of ws ≡ before rest (option_map (setting_by k) (read_by k v)) → Good out → (t : Setting) × (row_name t ≡ name_of k) × Reads t v × (first_of ws ≡ Some (t, rest))
number_reads k v rows out more ws rest f o s good =
    let m = good k v (ap (found (name_of k)) o ∙ found_here (name_of k) v rows more f) in
    (setting_by k m.0, kind_row k m.0, kind_reads k m.0 v m.1, s ∙ before_number k rest (read_by k v) m.0 m.1)

abbrev Runs : ℕ → Type 0
Runs n = (ws : List Text) (rows : List Row) (p : Pending) → length ws ≤ n → has_dashed ws ≡ false → Free (walk_from (held rows p)) ws → Run rows p ws

run_alone : (n : ℕ) → Runs n → (w : Text) (ws : List Text) (rows : List Row) (p : Pending) (k : Kind) → length ws ≤ n → has_dashed (w ∷ ws) ≡ false → Free (walk_from (held rows p)) (w ∷ ws) → long_of w ≡ Some (name_of k, None) → ((rest : List Text) → first_of (w ∷ rest) ≡ alone_of k rest) → Run rows p (w ∷ ws)
run_alone n ih w [] rows p k b d f l s =
    let e = idle_walked w (held rows p) (Some (name_of k, None)) (or_left (dashes w) (has_dashed []) d) l ∙ alone_next k w rows p in
    absurd (unpaid_fault k (settled_at rows p) (free_rest (walk_from (held rows p)) (waits_for (name_of k) (settled_at rows p)) w [] e f).1)
run_alone n ih w (v ∷ rest) rows p k b d f l s = here (value k (settled_at rows p) v (or_left (dashes v) (has_dashed rest) (or_right (dashes w) (has_dashed (v ∷ rest)) d)))
  where
    e : walked ours.rules [] (walk_from (held rows p)) w ≡ waits_for (name_of k) (settled_at rows p)
    e = idle_walked w (held rows p) (Some (name_of k, None)) (or_left (dashes w) (has_dashed (v ∷ rest)) d) l ∙ alone_next k w rows p

    g : Free (waits_for (name_of k) (settled_at rows p)) (v ∷ rest)
    g = free_rest (walk_from (held rows p)) (waits_for (name_of k) (settled_at rows p)) w (v ∷ rest) e f

    settles : settle rows p ≡ []
    settles = left_none (settle rows p) [] (sym (alone_fault k w rows p) ∙ (sym (idle_turn w (held rows p) (Some (name_of k, None)) (or_left (dashes w) (has_dashed (v ∷ rest)) d) l) ∙ free_turn (walk_from (held rows p)) w (v ∷ rest) f))

    here : Value k (settled_at rows p) v → Run rows p (w ∷ v ∷ rest)
    here (refused_value bad) = absurd (bad (free_turn (waits_for (name_of k) (settled_at rows p)) v rest g))
    here (taken_value t u) =
        let r = ih rest (settled_at rows p) (Some (name_of k, v ∷ [])) (omega (arith, b)) (or_right (dashes v) (has_dashed rest) (or_right (dashes w) (has_dashed (v ∷ rest)) d)) (free_rest (waits_for (name_of k) (settled_at rows p)) (walk_from (held (settled_at rows p) (Some (name_of k, v ∷ [])))) v rest u g) in
        let new : has_row (name_of k) (settled_at rows p) ≡ false = fresh_repeat (name_of k) (settled_at rows p) (left_none _ [] (sym (paid k v (settled_at rows p)) ∙ r.settles)) in
        let q = paid_rows k v (settled_at rows p) ∙ number_used (name_of k) v (settled_at rows p) new in
        let o = outcome_step (walk_from (held rows p)) (waits_for (name_of k) (settled_at rows p)) w (v ∷ rest) e ∙ outcome_step (waits_for (name_of k) (settled_at rows p)) (walk_from (held (settled_at rows p) (Some (name_of k, v ∷ [])))) v rest u in
        run_more rows p (w ∷ v ∷ rest) (settled_at rows p) (Some (name_of k, v ∷ [])) rest (name_of k) v settles new o q
        (number_reads k v (settled_at rows p) _ r.more (w ∷ v ∷ rest) rest new (o ∙ (r.grows ∙ ap (λ x. x ++ r.more) q)) (s (v ∷ rest))) r

run_first : (n : ℕ) → Runs n → (w : Text) (ws : List Text) (rows : List Row) (p : Pending) → length ws ≤ n → has_dashed (w ∷ ws) ≡ false → Free (walk_from (held rows p)) (w ∷ ws) → First w → Run rows p (w ∷ ws)
run_first n ih w ws rows p b d f (no_long l s) = absurd (stray_word w rows p (sym (idle_turn w (held rows p) None (or_left (dashes w) (has_dashed ws) d) l) ∙ free_turn (walk_from (held rows p)) w ws f))
run_first n ih w ws rows p b d f (no_name m v l a s) = absurd (stray_name m v w (held rows p) a (sym (idle_turn w (held rows p) (Some (m, v)) (or_left (dashes w) (has_dashed ws) d) l) ∙ free_turn (walk_from (held rows p)) w ws f))
run_first n ih w ws rows p b d f (flag_valued v l s) = absurd (flag_with_value v w (held rows p) (sym (idle_turn w (held rows p) (Some (codes "check", Some v)) (or_left (dashes w) (has_dashed ws) d) l) ∙ free_turn (walk_from (held rows p)) w ws f))
run_first n ih w ws rows p b d f (flag_alone l s) =
    let clean = or_left (dashes w) (has_dashed ws) d in
    let x = flag_fault w rows p (sym (idle_turn w (held rows p) (Some (codes "check", None)) clean l) ∙ free_turn (walk_from (held rows p)) w ws f) in
    let next = settled_at rows p ++ row (codes "check") (codes "true") ∷ [] in
    let e : walked ours.rules [] (walk_from (held rows p)) w ≡ walk_from (held next None) = idle_walked w (held rows p) (Some (codes "check", None)) clean l ∙ (flag_next w rows p ∙ ap (λ r. walk_from (held r None)) (flag_used (settled_at rows p) x.1)) in
    run_more rows p (w ∷ ws) next None ws (codes "check") (codes "true") x.0 x.1 (outcome_step (walk_from (held rows p)) (walk_from (held next None)) w ws e) refl (λ g. (Check, refl, refl, s ws)) (ih ws next None b (or_right (dashes w) (has_dashed ws) d) (free_rest (walk_from (held rows p)) (walk_from (held next None)) w ws e f))
run_first n ih w ws rows p b d f (joined k v l s) =
    let clean = or_left (dashes w) (has_dashed ws) d in
    let x = joined_facts k v w rows p (sym (idle_turn w (held rows p) (Some (name_of k, Some v)) clean l) ∙ free_turn (walk_from (held rows p)) w ws f) in
    let next = settled_at rows p ++ row (name_of k) v ∷ [] in
    let e : walked ours.rules [] (walk_from (held rows p)) w ≡ walk_from (held next None) = idle_walked w (held rows p) (Some (name_of k, Some v)) clean l ∙ (joined_next k v w rows p ∙ ap (λ r. walk_from (held r None)) (number_used (name_of k) v (settled_at rows p) x.1)) in
    let o = outcome_step (walk_from (held rows p)) (walk_from (held next None)) w ws e in
    let r = ih ws next None b (or_right (dashes w) (has_dashed ws) d) (free_rest (walk_from (held rows p)) (walk_from (held next None)) w ws e f) in
    run_more rows p (w ∷ ws) next None ws (name_of k) v x.0 x.1 o refl (number_reads k v (settled_at rows p) _ r.more (w ∷ ws) ws x.1 (o ∙ r.grows) (s ws)) r
run_first n ih w ws rows p b d f (alone k l s) = run_alone n ih w ws rows p k b d f l s

pub run : (n : ℕ) (ws : List Text) (rows : List Row) (p : Pending) → length ws ≤ n → has_dashed ws ≡ false → Free (walk_from (held rows p)) ws → Run rows p ws
run n [] rows p b d f = record { settles = f.1; more = []; grows = sym (append-nil (settled_at rows p)); spells = λ good. ([], spells_none, added_none) }
run zero (w ∷ ws) rows p b d f = absurd (omega (arith, b))
run (suc n) (w ∷ ws) rows p b d f = run_first n (run n) w ws rows p (omega (arith, b)) d f (first w)
