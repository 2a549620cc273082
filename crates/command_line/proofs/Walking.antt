-- One step of `clap`'s walk over the words of our command.
use Rattle.std.proofs.Common.{◌≡◌, ◌⊎◌, inl, inr, ℕ, Bool, true, false, List, [], ◌∷◌, length, Option, Some, None, refl, ap, ap₂, sym, ◌∙◌}
use Rattle.std.specs.Prelude.{codes, is_some, not, ◌&&◌, slice_get, if◌then◌else◌}
use Rattle.std.specs.Option.{option_map_or}
use Rattle.std.specs.Str.{bytes_eq, chars}
use Rattle.clap.specs.Lexer.{long_of, short_of}
use Rattle.clap.specs.Walk.{Held, Row, Rule, Walk, after_flag, after_step, arg_by_long, bundle_met, bundle_step, has_row, idle, long_or_other, next, option, plain, plain_word, settled_rows, short_or_plain, takes_values, trailing, used, walk_from, walked, Step}
use Rattle.clap.specs.Kinds.{Kinds, or_else}
use Rattle.clap.specs.Faults.{bundle_fault, bundle_step_fault, flag_word_fault, flags_fault, long_fault, option_fault, react_fault, repeat_fault, settle_fault, step_fault, turn_fault}
use Rattle.clap.specs.declared.error.kind.ErrorKind.{ErrorKind}
use Rattle.clap.specs.declared.error.kind.ErrorKind.TheVariants as kind
use Rattle.command_line.specs.Settings.{Text}
use Rattle.command_line.specs.Reading.{Kind, generate, workers, processors, cells, steps, name_of}
use Rattle.command_line.proofs.Names.{flag, number, ours}

abbrev pub Pending : Type 0
Pending = Option (Text × List Text)

abbrev pub held : List Row → Pending → Held
held rows p = record { rows = rows; pending = p; skip = 0 }

-- the rows when what is pending is used
abbrev pub settled_at : List Row → Pending → List Row
settled_at rows p = settled_rows ours.rules p rows

abbrev pub settle : List Row → Pending → Kinds
settle rows p = settle_fault ours.rules false (held rows p)

-- an option waits for its value
abbrev pub waits_for : Text → List Row → Walk
waits_for name rows = record { held = held rows (Some (name, [])); waiting = option name; position = 1; is_trailing = false; stopped = None }

pub left_none : (a b : Kinds) → or_else a b ≡ [] → a ≡ []
left_none [] b e = refl
left_none (k ∷ ks) b e = e

pub right_none : (a b : Kinds) → or_else a b ≡ [] → b ≡ []
right_none [] b e = e
right_none (k ∷ ks) b e = absurd cc

pub both_none : (a b : Kinds) → a ≡ [] → b ≡ [] → or_else a b ≡ []
both_none a b p q = ap (λ x. or_else x b) p ∙ q

pub fresh_repeat : (id : Text) (rows : List Row) → repeat_fault false id rows ≡ [] → has_row id rows ≡ false
fresh_repeat id rows = here (has_row id rows)
  where
    here : (b : Bool) → (if b && not false then kind.ArgumentConflict ∷ [] else []) ≡ [] → b ≡ false
    here true e = absurd cc
    here false e = refl

pub repeat_fresh : (id : Text) (rows : List Row) → has_row id rows ≡ false → repeat_fault false id rows ≡ []
repeat_fresh id rows e = ap (λ b. if b && not false then kind.ArgumentConflict ∷ [] else []) e

-- ## A word where nothing waits

-- the fault of a word, by what it is as a long flag
abbrev pub idle_fault : Text → Held → Option (Text × Option Text) → Kinds
idle_fault word h o = or_else (flag_word_fault ours.rules false o word h) (step_fault ours 1 (long_or_other ours.rules idle word o h).0 (long_or_other ours.rules idle word o h).1)

abbrev pub idle_next : Text → Held → Option (Text × Option Text) → Walk
idle_next word h o = after_step ours.rules word (walk_from h) (long_or_other ours.rules idle word o h).0 (long_or_other ours.rules idle word o h).1

abbrev pub dashes : Text → Bool
dashes word = bytes_eq word (codes "--")

pub idle_turn : (word : Text) (h : Held) (o : Option (Text × Option Text)) → dashes word ≡ false → long_of word ≡ o → turn_fault ours [] (walk_from h) word ≡ idle_fault word h o
idle_turn word h o d l = ap₂ (λ (b : Bool) (p : Option (Text × Option Text)). or_else (if b then [] else flag_word_fault ours.rules false p word h) (step_fault ours 1 (if b then (h, trailing 1) else long_or_other ours.rules idle word p h).0 (if b then (h, trailing 1) else long_or_other ours.rules idle word p h).1)) d l

pub idle_walked : (word : Text) (h : Held) (o : Option (Text × Option Text)) → dashes word ≡ false → long_of word ≡ o → walked ours.rules [] (walk_from h) word ≡ idle_next word h o
unfolding walked
idle_walked word h o d l = ap₂ (λ (b : Bool) (p : Option (Text × Option Text)). after_step ours.rules word (walk_from h) (if b then (h, trailing 1) else long_or_other ours.rules idle word p h).0 (if b then (h, trailing 1) else long_or_other ours.rules idle word p h).1) d l

-- the flag
pub flag_fault : (word : Text) (rows : List Row) (p : Pending) → idle_fault word (held rows p) (Some (codes "check", None)) ≡ [] → (settle rows p ≡ []) × (has_row (codes "check") (settled_at rows p) ≡ false)
flag_fault word rows p e =
    let both : or_else (settle rows p) (or_else (repeat_fault false (codes "check") (settled_at rows p)) []) ≡ [] = left_none _ _ e in
    (left_none _ _ both, fresh_repeat (codes "check") (settled_at rows p) (left_none _ _ (right_none _ _ both)))

pub flag_passes : (word : Text) (rows : List Row) (p : Pending) → settle rows p ≡ [] → has_row (codes "check") (settled_at rows p) ≡ false → idle_fault word (held rows p) (Some (codes "check", None)) ≡ []
flag_passes word rows p s f = both_none (or_else (settle rows p) (or_else (repeat_fault false (codes "check") (settled_at rows p)) [])) [] (both_none (settle rows p) _ s (both_none _ [] (repeat_fresh (codes "check") (settled_at rows p) f) refl)) refl

pub flag_next : (word : Text) (rows : List Row) (p : Pending) → idle_next word (held rows p) (Some (codes "check", None)) ≡ walk_from (held (used flag [] (settled_at rows p)) None)
flag_next word rows p = refl

-- an option with its value behind `=`
abbrev value_fault : Text → List Row → Pending → Kinds
value_fault name rows p = or_else (or_else (settle rows p) (or_else (repeat_fault false name (settled_at rows p)) [])) []

joined_fault : (k : Kind) (v word : Text) (rows : List Row) (p : Pending) → idle_fault word (held rows p) (Some (name_of k, Some v)) ≡ value_fault (name_of k) rows p
joined_fault generate v word rows p = refl
joined_fault workers v word rows p = refl
joined_fault processors v word rows p = refl
joined_fault cells v word rows p = refl
joined_fault steps v word rows p = refl

pub joined_facts : (k : Kind) (v word : Text) (rows : List Row) (p : Pending) → idle_fault word (held rows p) (Some (name_of k, Some v)) ≡ [] → (settle rows p ≡ []) × (has_row (name_of k) (settled_at rows p) ≡ false)
joined_facts k v word rows p e =
    let both : or_else (settle rows p) (or_else (repeat_fault false (name_of k) (settled_at rows p)) []) ≡ [] = left_none _ _ (sym (joined_fault k v word rows p) ∙ e) in
    (left_none _ _ both, fresh_repeat (name_of k) (settled_at rows p) (left_none _ _ (right_none _ _ both)))

pub joined_passes : (k : Kind) (v word : Text) (rows : List Row) (p : Pending) → settle rows p ≡ [] → has_row (name_of k) (settled_at rows p) ≡ false → idle_fault word (held rows p) (Some (name_of k, Some v)) ≡ []
joined_passes k v word rows p s f = joined_fault k v word rows p ∙ both_none _ [] (both_none (settle rows p) _ s (both_none _ [] (repeat_fresh (name_of k) (settled_at rows p) f) refl)) refl

pub joined_next : (k : Kind) (v word : Text) (rows : List Row) (p : Pending) → idle_next word (held rows p) (Some (name_of k, Some v)) ≡ walk_from (held (used (number (name_of k)) (v ∷ []) (settled_at rows p)) None)
joined_next generate v word rows p = refl
joined_next workers v word rows p = refl
joined_next processors v word rows p = refl
joined_next cells v word rows p = refl
joined_next steps v word rows p = refl

-- an option whose value is the next word
pub alone_fault : (k : Kind) (word : Text) (rows : List Row) (p : Pending) → idle_fault word (held rows p) (Some (name_of k, None)) ≡ or_else (settle rows p) []
alone_fault generate word rows p = refl
alone_fault workers word rows p = refl
alone_fault processors word rows p = refl
alone_fault cells word rows p = refl
alone_fault steps word rows p = refl

pub alone_next : (k : Kind) (word : Text) (rows : List Row) (p : Pending) → idle_next word (held rows p) (Some (name_of k, None)) ≡ waits_for (name_of k) (settled_at rows p)
alone_next generate word rows p = refl
alone_next workers word rows p = refl
alone_next processors word rows p = refl
alone_next cells word rows p = refl
alone_next steps word rows p = refl

-- ## Words that are refused

pub stray_name : (n : Text) (v : Option Text) (word : Text) (h : Held) → arg_by_long ours.rules n ≡ None → idle_fault word h (Some (n, v)) ≡ [] → ⊥
stray_name n v word h a e = unknown _ _ (left_none _ _ e) (ap (λ o. long_fault ours.rules false o v h) a)
  where
    unknown : (k : ErrorKind) (ks : Kinds) → ks ≡ [] → ks ≡ k ∷ [] → ⊥
    unknown k ks p q = absurd (cc (sym p ∙ q))

pub flag_with_value : (v word : Text) (h : Held) → idle_fault word h (Some (codes "check", Some v)) ≡ [] → ⊥
flag_with_value v word h e = cc

abbrev idle_rest : Text → Held → Option Text → Kinds
idle_rest word h o = or_else (option_map_or (λ flags. bundle_fault ours.rules false flags h) o []) (step_fault ours 1 (short_or_plain ours.rules idle word o h).0 (short_or_plain ours.rules idle word o h).1)

stray_rest : (word : Text) (rows : List Row) (p : Pending) (o : Option Text) → idle_rest word (held rows p) o ≡ [] → ⊥
unfolding flags_fault bundle_met
stray_rest word rows p None e = cc
stray_rest word rows p (Some []) e = cc
stray_rest word rows p (Some (y ∷ ys)) e = here (slice_get (chars (y ∷ ys)) 0) e
  where
    here : (x : Option ℕ) → or_else (bundle_step_fault ours.rules false x (y ∷ ys) 0 (held rows p) (flags_fault ours.rules false (length ys))) (step_fault ours 1 (after_flag ours.rules idle word (bundle_step ours.rules x (y ∷ ys) 0 plain (held rows p) (bundle_met ours.rules (length ys))).0 (bundle_step ours.rules x (y ∷ ys) 0 plain (held rows p) (bundle_met ours.rules (length ys))).1).0 (after_flag ours.rules idle word (bundle_step ours.rules x (y ∷ ys) 0 plain (held rows p) (bundle_met ours.rules (length ys))).0 (bundle_step ours.rules x (y ∷ ys) 0 plain (held rows p) (bundle_met ours.rules (length ys))).1).1) ≡ [] → ⊥
    here None e = cc
    here (Some x) e = cc

-- a word without two dashes goes to no option
pub stray_word : (word : Text) (rows : List Row) (p : Pending) → idle_fault word (held rows p) None ≡ [] → ⊥
stray_word word rows p e = stray_rest word rows p (short_of word) e

-- ## A word where an option waits

abbrev waits_fault : Text → Text → List Row → Option (Text × Option Text) → Kinds
waits_fault name word rows o = or_else (flag_word_fault ours.rules false o word (held rows (Some (name, [])))) (step_fault ours 1 (long_or_other ours.rules (option name) word o (held rows (Some (name, [])))).0 (long_or_other ours.rules (option name) word o (held rows (Some (name, [])))).1)

abbrev waits_next : Text → Text → List Row → Option (Text × Option Text) → Walk
waits_next name word rows o = after_step ours.rules word (waits_for name rows) (long_or_other ours.rules (option name) word o (held rows (Some (name, [])))).0 (long_or_other ours.rules (option name) word o (held rows (Some (name, [])))).1

waits_turn : (name word : Text) (rows : List Row) (o : Option (Text × Option Text)) → dashes word ≡ false → long_of word ≡ o → turn_fault ours [] (waits_for name rows) word ≡ waits_fault name word rows o
waits_turn name word rows o d l = ap₂ (λ (b : Bool) (p : Option (Text × Option Text)). or_else (if b then [] else flag_word_fault ours.rules false p word (held rows (Some (name, [])))) (step_fault ours 1 (if b then (held rows (Some (name, [])), trailing 1) else long_or_other ours.rules (option name) word p (held rows (Some (name, [])))).0 (if b then (held rows (Some (name, [])), trailing 1) else long_or_other ours.rules (option name) word p (held rows (Some (name, [])))).1)) d l

waits_walked : (name word : Text) (rows : List Row) (o : Option (Text × Option Text)) → dashes word ≡ false → long_of word ≡ o → walked ours.rules [] (waits_for name rows) word ≡ waits_next name word rows o
unfolding walked
waits_walked name word rows o d l = ap₂ (λ (b : Bool) (p : Option (Text × Option Text)). after_step ours.rules word (waits_for name rows) (if b then (held rows (Some (name, [])), trailing 1) else long_or_other ours.rules (option name) word p (held rows (Some (name, [])))).0 (if b then (held rows (Some (name, [])), trailing 1) else long_or_other ours.rules (option name) word p (held rows (Some (name, [])))).1) d l

-- an option without its value
pub unpaid : (k : Kind) (rows : List Row) → settle rows (Some (name_of k, [])) ≡ kind.InvalidValue ∷ []
unpaid generate rows = refl
unpaid workers rows = refl
unpaid processors rows = refl
unpaid cells rows = refl
unpaid steps rows = refl

pub unpaid_fault : (k : Kind) (rows : List Row) → settle rows (Some (name_of k, [])) ≡ [] → ⊥
unpaid_fault k rows e = let f : ◌≡◌ {A = Kinds} (kind.InvalidValue ∷ []) [] = sym (unpaid k rows) ∙ e in cc

-- an option with its value is used by what follows
pub paid : (k : Kind) (v : Text) (rows : List Row) → settle rows (Some (name_of k, v ∷ [])) ≡ or_else (repeat_fault false (name_of k) rows) []
paid generate v rows = refl
paid workers v rows = refl
paid processors v rows = refl
paid cells v rows = refl
paid steps v rows = refl

pub paid_rows : (k : Kind) (v : Text) (rows : List Row) → settled_at rows (Some (name_of k, v ∷ [])) ≡ used (number (name_of k)) (v ∷ []) rows
paid_rows generate v rows = refl
paid_rows workers v rows = refl
paid_rows processors v rows = refl
paid_rows cells v rows = refl
paid_rows steps v rows = refl

long_refused : (o : Option Rule) (v : Option Text) (h : Held) → (settle_fault ours.rules false h ≡ [] → ⊥) → long_fault ours.rules false o v h ≡ [] → ⊥
long_refused None v h s e = cc
long_refused (Some a) v h s e = here (takes_values a) v e
  where
    here : (b : Bool) (v : Option Text) → (if b then option_fault ours.rules false a v h else (if is_some v then kind.TooManyValues ∷ [] else react_fault ours.rules false a [] h)) ≡ [] → ⊥
    here true (Some x) f = s (left_none _ _ f)
    here true None f = s f
    here false (Some x) f = cc
    here false None f = s (left_none _ _ f)

plain_value : (k : Kind) (word : Text) (rows : List Row) → plain_word ours.rules (option (name_of k)) word (held rows (Some (name_of k, []))) ≡ (held rows (Some (name_of k, word ∷ [])), next idle)
plain_value generate word rows = refl
plain_value workers word rows = refl
plain_value processors word rows = refl
plain_value cells word rows = refl
plain_value steps word rows = refl

-- the value of an option is refused, or taken
pub data Value (k : Kind) (rows : List Row) (word : Text) : Type 0 where
  refused_value : (turn_fault ours [] (waits_for (name_of k) rows) word ≡ [] → ⊥) → Value k rows word
  taken_value : turn_fault ours [] (waits_for (name_of k) rows) word ≡ [] → walked ours.rules [] (waits_for (name_of k) rows) word ≡ walk_from (held rows (Some (name_of k, word ∷ []))) → Value k rows word

abbrev pub rest_fault : Kind → Text → List Row → Option Text → Kinds
rest_fault k word rows o = or_else (option_map_or (λ flags. bundle_fault ours.rules false flags (held rows (Some (name_of k, [])))) o []) (step_fault ours 1 (short_or_plain ours.rules (option (name_of k)) word o (held rows (Some (name_of k, [])))).0 (short_or_plain ours.rules (option (name_of k)) word o (held rows (Some (name_of k, [])))).1)

abbrev pub rest_next : Kind → Text → List Row → Option Text → Walk
rest_next k word rows o = after_step ours.rules word (waits_for (name_of k) rows) (short_or_plain ours.rules (option (name_of k)) word o (held rows (Some (name_of k, [])))).0 (short_or_plain ours.rules (option (name_of k)) word o (held rows (Some (name_of k, [])))).1

abbrev Rest : Kind → Text → List Row → Option Text → Type 0
Rest k word rows o = (rest_fault k word rows o ≡ [] → ⊥) ⊎ ((rest_fault k word rows o ≡ []) × (rest_next k word rows o ≡ walk_from (held rows (Some (name_of k, word ∷ [])))))

pub plain_rest : (k : Kind) (word : Text) (rows : List Row) → (rest_fault k word rows None ≡ []) × (rest_next k word rows None ≡ walk_from (held rows (Some (name_of k, word ∷ []))))
plain_rest k word rows = (ap (λ (q : Held × Step). step_fault ours 1 q.0 q.1) (plain_value k word rows), ap (λ (q : Held × Step). after_step ours.rules word (waits_for (name_of k) rows) q.0 q.1) (plain_value k word rows))

rest_of : (k : Kind) (word : Text) (rows : List Row) (o : Option Text) → Rest k word rows o
unfolding flags_fault bundle_met
rest_of k word rows None = inr (plain_rest k word rows)
rest_of k word rows (Some []) = inr (plain_rest k word rows)
rest_of k word rows (Some (y ∷ ys)) = here (slice_get (chars (y ∷ ys)) 0)
  where
    here : (x : Option ℕ) → (or_else (bundle_step_fault ours.rules false x (y ∷ ys) 0 (held rows (Some (name_of k, []))) (flags_fault ours.rules false (length ys))) (step_fault ours 1 (after_flag ours.rules (option (name_of k)) word (bundle_step ours.rules x (y ∷ ys) 0 plain (held rows (Some (name_of k, []))) (bundle_met ours.rules (length ys))).0 (bundle_step ours.rules x (y ∷ ys) 0 plain (held rows (Some (name_of k, []))) (bundle_met ours.rules (length ys))).1).0 (after_flag ours.rules (option (name_of k)) word (bundle_step ours.rules x (y ∷ ys) 0 plain (held rows (Some (name_of k, []))) (bundle_met ours.rules (length ys))).0 (bundle_step ours.rules x (y ∷ ys) 0 plain (held rows (Some (name_of k, []))) (bundle_met ours.rules (length ys))).1).1) ≡ [] → ⊥)
        ⊎ ((or_else (bundle_step_fault ours.rules false x (y ∷ ys) 0 (held rows (Some (name_of k, []))) (flags_fault ours.rules false (length ys))) (step_fault ours 1 (after_flag ours.rules (option (name_of k)) word (bundle_step ours.rules x (y ∷ ys) 0 plain (held rows (Some (name_of k, []))) (bundle_met ours.rules (length ys))).0 (bundle_step ours.rules x (y ∷ ys) 0 plain (held rows (Some (name_of k, []))) (bundle_met ours.rules (length ys))).1).0 (after_flag ours.rules (option (name_of k)) word (bundle_step ours.rules x (y ∷ ys) 0 plain (held rows (Some (name_of k, []))) (bundle_met ours.rules (length ys))).0 (bundle_step ours.rules x (y ∷ ys) 0 plain (held rows (Some (name_of k, []))) (bundle_met ours.rules (length ys))).1).1) ≡ [])
        × (after_step ours.rules word (waits_for (name_of k) rows) (after_flag ours.rules (option (name_of k)) word (bundle_step ours.rules x (y ∷ ys) 0 plain (held rows (Some (name_of k, []))) (bundle_met ours.rules (length ys))).0 (bundle_step ours.rules x (y ∷ ys) 0 plain (held rows (Some (name_of k, []))) (bundle_met ours.rules (length ys))).1).0 (after_flag ours.rules (option (name_of k)) word (bundle_step ours.rules x (y ∷ ys) 0 plain (held rows (Some (name_of k, []))) (bundle_met ours.rules (length ys))).0 (bundle_step ours.rules x (y ∷ ys) 0 plain (held rows (Some (name_of k, []))) (bundle_met ours.rules (length ys))).1).1 ≡ walk_from (held rows (Some (name_of k, word ∷ [])))))
    here None = inr (plain_rest k word rows)
    here (Some x) = inl (λ e. cc)

pub value : (k : Kind) (rows : List Row) (word : Text) → dashes word ≡ false → Value k rows word
value k rows word d = by_long (long_of word) refl
  where
    by_rest : long_of word ≡ None → Rest k word rows (short_of word) → Value k rows word
    by_rest l (inl bad) = refused_value (λ e. bad (sym (waits_turn (name_of k) word rows None d l) ∙ e))
    by_rest l (inr good) = taken_value (waits_turn (name_of k) word rows None d l ∙ good.0) (waits_walked (name_of k) word rows None d l ∙ good.1)

    by_long : (o : Option (Text × Option Text)) → long_of word ≡ o → Value k rows word
    by_long (Some p) l = refused_value (λ e. long_refused (arg_by_long ours.rules p.0) p.1 (held rows (Some (name_of k, []))) (unpaid_fault k rows) (left_none _ _ (sym (waits_turn (name_of k) word rows (Some p) d l) ∙ e)))
    by_long None l = by_rest l (rest_of k word rows (short_of word))

-- a value without a dash is taken
pub value_taken : (k : Kind) (rows : List Row) (word : Text) → dashes word ≡ false → long_of word ≡ None → short_of word ≡ None → (turn_fault ours [] (waits_for (name_of k) rows) word ≡ []) × (walked ours.rules [] (waits_for (name_of k) rows) word ≡ walk_from (held rows (Some (name_of k, word ∷ []))))
value_taken k rows word d l s =
    let good = plain_rest k word rows in
    (waits_turn (name_of k) word rows None d l ∙ (ap (rest_fault k word rows) s ∙ good.0), waits_walked (name_of k) word rows None d l ∙ (ap (rest_next k word rows) s ∙ good.1))
