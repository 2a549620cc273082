-- What a list asks for, by its forms.
use Rattle.std.proofs.Common.{◌≡◌, ℕ, ◌-◌, ◌<◌, ◌≤◌, true, List, [], ◌∷◌, length, map, take, drop, slice_index_or, Option, Some, None, IfSome, Result, IfOk, refl, sym, ap, subst, arith}
use Rattle.std.proofs.lemmas.List.{take_all}
use Rattle.clj_script.specs.declared.words.Special.{Special}
use Rattle.clj_script.specs.declared.words.Reserved.{Reserved}
use Rattle.clj_script.specs.declared.words.Reserved.TheVariants as reserved
use Rattle.clj_script.specs.declared.source.Entry.{Entry}
use Rattle.clj_script.specs.declared.reading.Reading.{Reading as Found}
use Rattle.clj_script.specs.Arena.{AllBelow}
use Rattle.clj_script.specs.Words.{reserved_of}
use Rattle.clj_script.specs.Sources.{Source, atom, symbol, round, square, spelling}
use Rattle.clj_script.specs.Scopes.{is_unfit, is_unbindable}
use Rattle.clj_script.specs.Entries.{form_at}
use Rattle.clj_script.specs.Readings.{Reading, heading, heading_of, headed, special_reading, reading, nothing}
use Rattle.clj_script.specs.Reads.{as_read}

pub none_some : {X : Type 0} {x : X} → None ≡ Some x → ⊥
none_some e = (cc)

pub some_same : {X : Type 0} {x y : X} → Some x ≡ Some y → x ≡ y
some_same e = (cc)

pub heading_symbol : (s : Source) (name : List ℕ) → spelling s ≡ Some name → heading s ≡ reserved_of name
heading_symbol (symbol p n) name e = ap reserved_of (some_same e)
heading_symbol (atom p l) name e = absurd (none_some e)
heading_symbol (round p ss) name e = absurd (none_some e)
heading_symbol (square p ss) name e = absurd (none_some e)

pub heading_other : (s : Source) → spelling s ≡ None → heading s ≡ None
heading_other (symbol p n) e = absurd (none_some (sym e))
heading_other (atom p l) e = refl
heading_other (round p ss) e = refl
heading_other (square p ss) e = refl

pub unbindable_symbol : (s : Source) (name : List ℕ) → spelling s ≡ Some name → is_unbindable s ≡ is_unfit name
unbindable_symbol (symbol p n) name e = ap is_unfit (some_same e)
unbindable_symbol (atom p l) name e = absurd (none_some e)
unbindable_symbol (round p ss) name e = absurd (none_some e)
unbindable_symbol (square p ss) name e = absurd (none_some e)

pub unbindable_other : (s : Source) → spelling s ≡ None → is_unbindable s ≡ true
unbindable_other (symbol p n) e = absurd (none_some (sym e))
unbindable_other (atom p l) e = refl
unbindable_other (round p ss) e = refl
unbindable_other (square p ss) e = refl

pub heading_first : (f : ℕ → Source) (ns : List ℕ) (name : List ℕ) → 1 ≤ length ns → spelling (f (slice_index_or ns 0 0)) ≡ Some name → reserved_of name ≡ heading_of (map f ns)
heading_first f [] name h e = absurd (omega arith)
heading_first f (n ∷ ns) name h e = sym (heading_symbol (f n) name e)

pub nothing_read : (f : ℕ → Source) (ns : List ℕ) → length ns < 1 → nothing ≡ reading (map f ns)
unfolding reading
nothing_read f [] h = refl
nothing_read f (n ∷ ns) h = absurd (omega arith)

-- a list by what heads it
pub headed_read : (f : ℕ → Source) (ns : List ℕ) (word : Option Reserved) → 1 ≤ length ns → word ≡ heading (f (slice_index_or ns 0 0)) → headed word (f (slice_index_or ns 0 0)) (map f (take (length ns - 1) (drop 1 ns))) ≡ reading (map f ns)
unfolding reading
headed_read f [] word h e = absurd (omega arith)
headed_read f (n ∷ ns) word h e =
    let t : take (length (n ∷ ns) - 1) ns ≡ ns = take_all (length (n ∷ ns) - 1) ns (omega arith) in
    rw (e, t) refl

pub special_read : {X : Type 0} (es : List Entry) (ns : List ℕ) (special named : Special) (r : Result Found X) → 1 ≤ length ns → Some (reserved.Special named) ≡ heading (form_at es (slice_index_or ns 0 0)) → special ≡ named → IfOk r (λ found. as_read es found ≡ special_reading special (map (form_at es) (take (length ns - 1) (drop 1 ns)))) → IfOk r (λ found. as_read es found ≡ reading (map (form_at es) ns))
special_read es ns special named r h e f p =
    let g : Some (reserved.Special special) ≡ heading (form_at es (slice_index_or ns 0 0)) = (cc) in
    subst (λ (wanted : Reading). IfOk r (λ found. as_read es found ≡ wanted)) (headed_read (form_at es) ns (Some (reserved.Special special)) h g) p

-- what holds of the value in an option
pub there : {X : Type 0} (o : Option X) (x : X) (P : X → Type 0) → o ≡ Some x → IfSome o P → P x
there None x P e p = absurd (none_some e)
there (Some y) x P e p = subst P (some_same e) p

pub second_below : (bound : ℕ) (ns : List ℕ) → AllBelow bound ns → 2 ≤ length ns → slice_index_or ns 1 0 < bound
second_below bound [] b h = absurd (omega arith)
second_below bound (m ∷ []) b h = absurd (omega arith)
second_below bound (m ∷ n ∷ ns) b h = b.1.0
