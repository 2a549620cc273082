-- What a form at the top asks for, by its forms.
use Rattle.std.proofs.Common.{◌≡◌, ℕ, ◌-◌, ◌<◌, ◌≤◌, false, List, [], ◌∷◌, length, map, take, drop, slice_index_or, Option, Some, None, Result, IfOk, refl, sym, ap, subst, arith}
use Rattle.std.proofs.lemmas.List.{take_all}
use Rattle.clj_script.specs.declared.words.Special.{Special}
use Rattle.clj_script.specs.declared.words.Reserved.{Reserved}
use Rattle.clj_script.specs.declared.words.Reserved.TheVariants as reserved
use Rattle.clj_script.specs.declared.source.Entry.{Entry}
use Rattle.clj_script.specs.declared.top_form.TopForm.{TopForm}
use Rattle.clj_script.specs.Sources.{Source, atom, symbol, round, square, in_round}
use Rattle.clj_script.specs.Entries.{form_at}
use Rattle.clj_script.specs.Readings.{heading}
use Rattle.clj_script.specs.Scripts.{TopReading, top_reading, list_at_top, headed_at_top, special_at_top, stray, stray_list}
use Rattle.clj_script.specs.Reads.{as_top, is_threading}
use Rattle.clj_script.proofs.ReadingLemmas.{none_some, some_same}

pub stray_read : (s : Source) → in_round s ≡ None → stray ≡ top_reading s
unfolding top_reading
stray_read (round p ss) e = absurd (none_some (sym e))
stray_read (atom p l) e = refl
stray_read (symbol p name) e = refl
stray_read (square p ss) e = refl

list_read : (s : Source) (items : List Source) → in_round s ≡ Some items → list_at_top items ≡ top_reading s
unfolding top_reading
list_read (round p ss) items e = ap list_at_top (sym (some_same e))
list_read (atom p l) items e = absurd (none_some e)
list_read (symbol p name) items e = absurd (none_some e)
list_read (square p ss) items e = absurd (none_some e)

pub headless_read : (f : ℕ → Source) (s : Source) (ns : List ℕ) → in_round s ≡ Some (map f ns) → length ns < 1 → stray_list ≡ top_reading s
headless_read f s [] e h = list_read s [] e
headless_read f s (n ∷ ns) e h = absurd (omega arith)

-- a list by what heads it
pub headed_top : (f : ℕ → Source) (s : Source) (ns : List ℕ) (word : Option Reserved) → in_round s ≡ Some (map f ns) → 1 ≤ length ns → word ≡ heading (f (slice_index_or ns 0 0)) → headed_at_top word (map f (take (length ns - 1) (drop 1 ns))) ≡ top_reading s
headed_top f s [] word e h g = absurd (omega arith)
headed_top f s (n ∷ ns) word e h g =
    let t : take (length (n ∷ ns) - 1) ns ≡ ns = take_all (length (n ∷ ns) - 1) ns (omega arith) in
    rw (g, t) (list_read s (map f (n ∷ ns)) e)

pub special_plain : (f : ℕ → Source) (s : Source) (ns : List ℕ) (special : Special) → in_round s ≡ Some (map f ns) → 1 ≤ length ns → Some (reserved.Special special) ≡ heading (f (slice_index_or ns 0 0)) → is_threading (top_reading s) ≡ false → is_threading (special_at_top special (map f (take (length ns - 1) (drop 1 ns)))) ≡ false
special_plain f s ns special e h g p = subst (λ (r : TopReading). is_threading r ≡ false) (sym (headed_top f s ns (Some (reserved.Special special)) e h g)) p

pub special_top : {X : Type 0} (es : List Entry) (s : Source) (ns : List ℕ) (special named : Special) (r : Result TopForm X) → in_round s ≡ Some (map (form_at es) ns) → 1 ≤ length ns → Some (reserved.Special named) ≡ heading (form_at es (slice_index_or ns 0 0)) → special ≡ named → IfOk r (λ found. as_top es found ≡ special_at_top special (map (form_at es) (take (length ns - 1) (drop 1 ns)))) → IfOk r (λ found. as_top es found ≡ top_reading s)
special_top es s ns special named r e h g f p =
    let k : Some (reserved.Special special) ≡ heading (form_at es (slice_index_or ns 0 0)) = (cc) in
    subst (λ (wanted : TopReading). IfOk r (λ found. as_top es found ≡ wanted)) (headed_top (form_at es) s ns (Some (reserved.Special special)) e h k) p
