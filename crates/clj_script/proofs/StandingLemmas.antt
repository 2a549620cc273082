-- What a form that threads at the top stands for, until one is reached that doesn't.
use Rattle.std.proofs.Common.{◌≡◌, ℕ, ◌+◌, ◌<◌, ◌≤◌, false, List, [], ◌∷◌, ◌++◌, length, map, Option, Some, None, refl, sym, ◌∙◌, ap, subst, arith, append_assoc}
use Rattle.std.proofs.lemmas.List.{take_all}
use Rattle.std.specs.Prelude.{slice_index_or, drop, take, ◌-◌}
use Rattle.std.specs.Borrow.{Bor}
use Rattle.clj_script.specs.declared.refusal.ScriptRefusal.{ScriptRefusal}
use Rattle.clj_script.specs.declared.source.Entry.{Entry}
use Rattle.clj_script.specs.declared.thread.Way.{Way}
use Rattle.clj_script.specs.declared.top.Tops.{Tops}
use Rattle.clj_script.specs.declared.words.Reserved.{Reserved}
use Rattle.clj_script.specs.declared.words.Reserved.TheVariants as reserved
use Rattle.clj_script.specs.declared.words.Special.TheVariants as special
use Rattle.clj_script.specs.Entries.{form_at, IsAdded, AreItems}
use Rattle.clj_script.specs.Machines.{HasMore, weight, weight_headed}
use Rattle.clj_script.specs.Reads.{is_threading}
use Rattle.clj_script.specs.Readings.{Clause, clauses, heading}
use Rattle.clj_script.specs.Refusals.{earliest}
use Rattle.clj_script.specs.Scripts.{SoFar, TopReading, top_reading, stands_for, list_at_top, headed_at_top, special_at_top, defn_with, defn_named, def_with, JudgedTop, of_top, JudgedAtTop}
use Rattle.clj_script.specs.Scripts as top
use Rattle.clj_script.specs.Sources.{Source, Sources, no_more, before, atom, symbol, round, square, listed, in_round}
use Rattle.clj_script.specs.Threading.{written_out, refusals_of_steps}
use Rattle.clj_script.specs.Tops.{so_far, with_least, way_of, IsWhole, HasTaken, HasWritten}
use Rattle.clj_script.proofs.KeptLemmas.{more_both, so_far_of}
use Rattle.clj_script.proofs.ReadingLemmas.{none_some, some_same}
use Rattle.clj_script.proofs.ThreadLemmas.{earliest-join}
use Rattle.clj_script.proofs.WeightLemmas.{written_light}

plain_defn_with : (name : Source) (o : Option (List Clause)) → is_threading (defn_with name o) ≡ false
plain_defn_with name None = refl
plain_defn_with name (Some cs) = refl

plain_defn_named : (name : Source) (forms : List Source) → is_threading (defn_named name forms) ≡ false
plain_defn_named (symbol p name) forms = plain_defn_with (symbol p name) (clauses forms)
plain_defn_named (atom p l) forms = refl
plain_defn_named (round p ss) forms = refl
plain_defn_named (square p ss) forms = refl

plain_def_with : (name value : Source) → is_threading (def_with name value) ≡ false
plain_def_with (symbol p name) value = refl
plain_def_with (atom p l) value = refl
plain_def_with (round p ss) value = refl
plain_def_with (square p ss) value = refl

plain_def : (args : List Source) → is_threading (special_at_top special.Def args) ≡ false
plain_def [] = refl
plain_def (name ∷ []) = refl
plain_def (name ∷ value ∷ []) = plain_def_with name value
plain_def (name ∷ value ∷ s ∷ args) = refl

plain_defn : (args : List Source) → is_threading (special_at_top special.Defn args) ≡ false
plain_defn [] = refl
plain_defn (name ∷ forms) = plain_defn_named name forms

plain_prn : (args : List Source) → is_threading (special_at_top special.Prn args) ≡ false
plain_prn [] = refl
plain_prn (value ∷ []) = refl
plain_prn (value ∷ s ∷ args) = refl

plain_ledger : (args : List Source) → is_threading (special_at_top special.Ledger args) ≡ false
plain_ledger [] = refl
plain_ledger (s ∷ args) = refl

-- a list that isn't headed by a word that threads
pub plain_headed : (o : Option Reserved) (args : List Source) → way_of o ≡ None → is_threading (headed_at_top o args) ≡ false
plain_headed None args e = refl
plain_headed (Some reserved.Outside) args e = refl
plain_headed (Some (reserved.Special special.Def)) args e = plain_def args
plain_headed (Some (reserved.Special special.Defn)) args e = plain_defn args
plain_headed (Some (reserved.Special special.Prn)) args e = plain_prn args
plain_headed (Some (reserved.Special special.Ledger)) args e = plain_ledger args
plain_headed (Some (reserved.Special special.Let)) args e = refl
plain_headed (Some (reserved.Special special.If)) args e = refl
plain_headed (Some (reserved.Special special.When)) args e = refl
plain_headed (Some (reserved.Special special.And)) args e = refl
plain_headed (Some (reserved.Special special.Or)) args e = refl
plain_headed (Some (reserved.Special special.LazySeq)) args e = refl
plain_headed (Some (reserved.Special special.ThreadSecond)) args e = absurd (none_some (sym e))
plain_headed (Some (reserved.Special special.ThreadLast)) args e = absurd (none_some (sym e))

-- a word alone
pub plain_alone : (o : Option Reserved) → is_threading (headed_at_top o []) ≡ false
plain_alone None = refl
plain_alone (Some reserved.Outside) = refl
plain_alone (Some (reserved.Special special.Def)) = refl
plain_alone (Some (reserved.Special special.Defn)) = refl
plain_alone (Some (reserved.Special special.Prn)) = refl
plain_alone (Some (reserved.Special special.Ledger)) = refl
plain_alone (Some (reserved.Special special.Let)) = refl
plain_alone (Some (reserved.Special special.If)) = refl
plain_alone (Some (reserved.Special special.When)) = refl
plain_alone (Some (reserved.Special special.And)) = refl
plain_alone (Some (reserved.Special special.Or)) = refl
plain_alone (Some (reserved.Special special.LazySeq)) = refl
plain_alone (Some (reserved.Special special.ThreadSecond)) = refl
plain_alone (Some (reserved.Special special.ThreadLast)) = refl

pub plain_form : (s : Source) → in_round s ≡ None → is_threading (top_reading s) ≡ false
unfolding top_reading
plain_form (round p items) e = absurd (none_some (sym e))
plain_form (atom p l) e = refl
plain_form (symbol p name) e = refl
plain_form (square p items) e = refl

-- a form by the forms in it
top_reading_of : (s : Source) (ss : List Source) → in_round s ≡ Some ss → top_reading s ≡ list_at_top ss
unfolding top_reading
top_reading_of (round p items) ss e = ap list_at_top (some_same e)
top_reading_of (atom p l) ss e = absurd (none_some e)
top_reading_of (symbol p name) ss e = absurd (none_some e)
top_reading_of (square p items) ss e = absurd (none_some e)

pub plain_short : (s : Source) (f : ℕ → Source) (ns : List ℕ) → in_round s ≡ Some (map f ns) → length ns < 2 → is_threading (top_reading s) ≡ false
plain_short s f [] e h = ap is_threading (top_reading_of s [] e)
plain_short s f (n ∷ []) e h = ap is_threading (top_reading_of s (f n ∷ []) e) ∙ plain_alone (heading (f n))
plain_short s f (n ∷ m ∷ ns) e h = absurd (omega arith)

pub plain_list : (s : Source) (f : ℕ → Source) (ns : List ℕ) → in_round s ≡ Some (map f ns) → 2 ≤ length ns → way_of (heading (f (slice_index_or ns 0 0))) ≡ None → is_threading (top_reading s) ≡ false
plain_list s f [] e h w = absurd (omega arith)
plain_list s f (n ∷ ns) e h w = ap is_threading (top_reading_of s (f n ∷ map f ns) e) ∙ plain_headed (heading (f n)) (map f ns) w

pub headed_way : (o : Option Reserved) (way : Way) (x : Source) (steps : List Source) → way_of o ≡ Some way → headed_at_top o (x ∷ steps) ≡ stands_for (written_out way x steps) (refusals_of_steps steps)
headed_way None way x steps e = absurd (none_some e)
headed_way (Some reserved.Outside) way x steps e = absurd (none_some e)
headed_way (Some (reserved.Special special.Def)) way x steps e = absurd (none_some e)
headed_way (Some (reserved.Special special.Defn)) way x steps e = absurd (none_some e)
headed_way (Some (reserved.Special special.Prn)) way x steps e = absurd (none_some e)
headed_way (Some (reserved.Special special.Ledger)) way x steps e = absurd (none_some e)
headed_way (Some (reserved.Special special.Let)) way x steps e = absurd (none_some e)
headed_way (Some (reserved.Special special.If)) way x steps e = absurd (none_some e)
headed_way (Some (reserved.Special special.When)) way x steps e = absurd (none_some e)
headed_way (Some (reserved.Special special.And)) way x steps e = absurd (none_some e)
headed_way (Some (reserved.Special special.Or)) way x steps e = absurd (none_some e)
headed_way (Some (reserved.Special special.LazySeq)) way x steps e = absurd (none_some e)
headed_way (Some (reserved.Special special.ThreadSecond)) way x steps e = ap (λ (w : Way). stands_for (written_out w x steps) (refusals_of_steps steps)) (some_same e)
headed_way (Some (reserved.Special special.ThreadLast)) way x steps e = ap (λ (w : Way). stands_for (written_out w x steps) (refusals_of_steps steps)) (some_same e)

first_same : {X : Type 0} {x y : X} {xs ys : List X} → x ∷ xs ≡ y ∷ ys → x ≡ y
first_same e = (cc)

rest_same : {X : Type 0} {x y : X} {xs ys : List X} → x ∷ xs ≡ y ∷ ys → xs ≡ ys
rest_same e = (cc)

nil_cons : {X : Type 0} {x : X} {xs : List X} → [] ≡ x ∷ xs → ⊥
nil_cons e = (cc)

-- a name that heads a list weighs one
light_word : (h x : Source) (st : Sources) (way : Way) → way_of (heading h) ≡ Some way → weight (written_out way x (listed st)) < 2 + weight_headed (before h (before x st))
light_word (symbol q name) x st way e = omega (arith, written_light way x st)
light_word (atom q l) x st way e = absurd (none_some e)
light_word (round q ss) x st way e = absurd (none_some e)
light_word (square q ss) x st way e = absurd (none_some e)

pub light_items : (items : Sources) (h x : Source) (steps : List Source) (way : Way) → listed items ≡ h ∷ x ∷ steps → way_of (heading h) ≡ Some way → weight (written_out way x steps) < 2 + weight_headed items
light_items no_more h x steps way e w = absurd (nil_cons e)
light_items (before k no_more) h x steps way e w = absurd (nil_cons (rest_same e))
light_items (before k (before y st)) h x steps way e w =
    let a : k ≡ h = first_same e in
    let b : y ≡ x = first_same (rest_same e) in
    let c : listed st ≡ steps = rest_same (rest_same e) in
    let l : weight (written_out way y (listed st)) < 2 + weight_headed (before k (before y st)) = light_word k y st way (ap (λ (s : Source). way_of (heading s)) a ∙ w) in
    subst (λ (ss : List Source). weight (written_out way x ss) < 2 + weight_headed (before k (before y st))) c (subst (λ (s : Source). weight (written_out way s (listed st)) < 2 + weight_headed (before k (before y st))) b l)

light_form : (s h x : Source) (steps : List Source) (way : Way) → in_round s ≡ Some (h ∷ x ∷ steps) → way_of (heading h) ≡ Some way → weight (written_out way x steps) < weight s
light_form (round p items) h x steps way e w = light_items items h x steps way (some_same e) w
light_form (atom p l) h x steps way e w = absurd (none_some e)
light_form (symbol p name) h x steps way e w = absurd (none_some e)
light_form (square p items) h x steps way e w = absurd (none_some e)

-- a list that threads stands for a lighter form
pub record Threads (s : Source) (way : Way) (x : Source) (steps : List Source) : Type 0 where
  pub reads : top_reading s ≡ stands_for (written_out way x steps) (refusals_of_steps steps)
  pub lighter : weight (written_out way x steps) < weight s

pub threads : (s : Source) (f : ℕ → Source) (ns : List ℕ) (way : Way) → in_round s ≡ Some (map f ns) → 2 ≤ length ns → way_of (heading (f (slice_index_or ns 0 0))) ≡ Some way → Threads s way (f (slice_index_or ns 1 0)) (map f (drop 2 ns))
threads s f [] way e h w = absurd (omega arith)
threads s f (n ∷ []) way e h w = absurd (omega arith)
threads s f (n ∷ m ∷ ns) way e h w = record {
  reads = top_reading_of s (f n ∷ f m ∷ map f ns) e ∙ headed_way (heading (f n)) way (f m) (map f ns) w;
  lighter = light_form s (f n) (f m) (map f ns) way e w;
}

-- a form was written out once
pub has_written : (old new : Tops) (s x : Source) (steps : List Source) (way : Way) (n : ℕ) → IsWhole [] old → Threads s way x steps → IsAdded old.sources.items new.sources.items n (written_out way x steps) → new.machine ≡ with_least new.machine.least.found old.machine → new.definitions ≡ old.definitions → new.functions ≡ old.functions → new.tops ≡ old.tops → new.machine.least.found ≡ earliest old.machine.least.found (refusals_of_steps steps) → HasWritten old new s n
has_written old new s x steps way n w t a e f g h l = record {
  whole = record {
    sound = rw e (record { lower = w.sound.lower; written = w.sound.written; bodies = w.sound.bodies; values = w.sound.values });
    idle = rw e (record { values = w.idle.values; tasks = w.idle.tasks });
    scope = rw e w.scope;
    lower = a.lower;
    functions = rw (e, g) w.functions;
    tops = rw (e, h) w.tops;
  };
  kept = so_far_of (rw (e, g) refl) (rw e refl) (rw f refl) (rw (e, h) refl);
  form = written_out way x steps;
  steps = refusals_of_steps steps;
  reads = t.reads;
  lighter = t.lighter;
  added = a;
  least = l;
}

-- The form with a number stands for a first one: what is judged of it is judged of the first, with these refusals before.
pub record HasFollowed (old now : Tops) (s : Source) (n : ℕ) : Type 0 where
  pub whole : IsWhole [] now
  pub kept : so_far now ≡ so_far old
  pub forms : HasMore old.sources.items now.sources.items
  pub below : n < length now.sources.items
  pub steps : List ScriptRefusal
  pub least : now.machine.least.found ≡ earliest old.machine.least.found steps
  pub follows : (so so' : SoFar) (rs : List ScriptRefusal) → JudgedTop so (form_at now.sources.items n) so' rs → JudgedTop so s so' (steps ++ rs)

pub one_followed : (old mid new : Tops) (s : Source) (n k : ℕ) → HasFollowed old mid s n → HasWritten mid new (form_at mid.sources.items n) k → HasFollowed old new s k
one_followed old mid new s n k h w = record {
  whole = w.whole;
  kept = w.kept ∙ h.kept;
  forms = more_both h.forms (record { more = w.added.more; grown = w.added.grown });
  below = w.added.below;
  steps = h.steps ++ w.steps;
  least = w.least ∙ ap (λ (o : Option ScriptRefusal). earliest o w.steps) h.least ∙ sym (earliest-join old.machine.least.found h.steps w.steps);
  follows = λ so so' rs j.
      let a : JudgedTop so w.form so' rs = subst (λ (t : Source). JudgedTop so t so' rs) w.added.stands j in
      let b : JudgedAtTop so (form_at mid.sources.items n) (top_reading (form_at mid.sources.items n)) so' (w.steps ++ rs) = subst (λ (r : TopReading). JudgedAtTop so (form_at mid.sources.items n) r so' (w.steps ++ rs)) (sym w.reads) (top.of_threading a) in
      subst (λ (qs : List ScriptRefusal). JudgedTop so s so' qs) (sym (append_assoc h.steps w.steps rs)) (h.follows so so' (w.steps ++ rs) (of_top b));
}

pub taken_followed : (old mid new : Tops) (s : Source) (n : ℕ) → HasFollowed old mid s n → HasTaken mid new (form_at mid.sources.items n) → HasTaken old new s
taken_followed old mid new s n h t = record {
  whole = t.whole;
  forms = more_both h.forms t.forms;
  refusals = h.steps ++ t.refusals;
  least = t.least ∙ ap (λ (o : Option ScriptRefusal). earliest o t.refusals) h.least ∙ sym (earliest-join old.machine.least.found h.steps t.refusals);
  judged = h.follows (so_far old) (so_far new) t.refusals (subst (λ (so : SoFar). JudgedTop so (form_at mid.sources.items n) (so_far new) t.refusals) h.kept t.judged);
}

pub no_items : (es : List Entry) (o : Option (Bor (List ℕ))) (wanted : Option (List Source)) → AreItems es o wanted → o ≡ None → wanted ≡ None
no_items es None wanted a e = a
no_items es (Some ns) wanted a e = absurd (none_some (sym e))

pub rest_taken : (ns : List ℕ) → take (length ns - 2) (drop 2 ns) ≡ drop 2 ns
rest_taken [] = refl
rest_taken (n ∷ []) = refl
rest_taken (n ∷ m ∷ ns) = take_all (length (n ∷ m ∷ ns) - 2) ns (omega arith)
