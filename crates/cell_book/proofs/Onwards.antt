-- How what one knows goes on over each step: one's own and those of others.
use Rattle.std.proofs.Common.{◌≡◌, ℕ, ◌<◌, Bool, true, false, [], ◌∷◌, ◌++◌, Some, Option, refl, ap, sym, subst, ◌∙◌, ◌⊎◌, inl, inr}
use Rattle.std.specs.Prelude.{slice_get}
use Rattle.std.proofs.lemmas.Option.{same_Some}
use Rattle.cell_book.specs.declared.cell.Attempt.{Attempt}
use Rattle.cell_book.specs.declared.cell.Cell.{Cell}
use Rattle.cell_book.specs.declared.cell.Form.{Form}
use Rattle.cell_book.specs.declared.work.Place.{Place}
use Rattle.cell_book.specs.declared.work.Place.TheVariants as P
use Rattle.cell_book.specs.Account.{Account, Duty, cell_at, opened, is_open}
use Rattle.cell_book.specs.Steps.{begun_form, HasOpen, IsOpenIn}
use Rattle.cell_book.specs.Glimpses.{Glimpse, glimpse, Continues, Stays, FormStays, Reaches, IsForced, IsOpen, Holds, Onward, AskedOne, Answered, MadeOne, IsAll, Fits, Sees, Passed, FormPassed}

pub continues_same : (x : Attempt) → Continues x x
continues_same x = record { claim = refl; asker = refl; ended = λ e. refl }

pub continues_then : (x y z : Attempt) → Continues x y → Continues y z → Continues x z
continues_then x y z s t = record { claim = t.claim ∙ s.claim; asker = t.asker ∙ s.asker; ended = λ e. (let k = s.ended e in t.ended (ap is_open k ∙ e) ∙ k) }

pub stays_same : (p : Cell) → Stays p p
stays_same p = record { term = refl; kind = refl; maker = refl; ordinal = refl; outcomes = refl; done = λ v e. e; failed = λ w e. e; attempts = λ i x e. (x, e, continues_same x) }

pub stays_then : (p q r : Cell) → Stays p q → Stays q r → Stays p r
stays_then p q r s t = record {
  term = t.term ∙ s.term;
  kind = t.kind ∙ s.kind;
  maker = t.maker ∙ s.maker;
  ordinal = t.ordinal ∙ s.ordinal;
  outcomes = t.outcomes ∙ s.outcomes;
  done = λ v e. t.done v (s.done v e);
  failed = λ w e. t.failed w (s.failed w e);
  attempts = λ i x e.
      let y = s.attempts i x e in
      let z = t.attempts i y.0 y.1 in
      (z.0, z.1, continues_then x y.0 z.0 y.2 z.2);
}

pub form_stays_same : (f : Form) → FormStays f f
form_stays_same f = record { number = refl; attempt = continues_same f.attempt; value = λ e. refl }

pub form_stays_then : (f g h : Form) → FormStays f g → FormStays g h → FormStays f h
form_stays_then f g h s t = record {
  number = t.number ∙ s.number;
  attempt = continues_then f.attempt g.attempt h.attempt s.attempt t.attempt;
  value = λ e. t.value (ap is_open (s.attempt.ended e) ∙ e) ∙ s.value e;
}

pub reaches_same : (g : Glimpse) → Reaches g g
reaches_same g = record { limit = refl; cells = λ id p e. (p, e, stays_same p); forms = λ k f e. (f, e, form_stays_same f); spent = λ e. e; gave_up = λ e. e }

pub reaches_then : (g h k : Glimpse) → Reaches g h → Reaches h k → Reaches g k
reaches_then g h k x y = record {
  limit = y.limit ∙ x.limit;
  cells = λ id p e.
      let q = x.cells id p e in
      let r = y.cells id q.0 q.1 in
      (r.0, r.1, stays_then p q.0 r.0 q.2 r.2);
  forms = λ i f e.
      let q = x.forms i f e in
      let r = y.forms i q.0 q.1 in
      (r.0, r.1, form_stays_then f q.0 r.0 q.2 r.2);
  spent = λ e. y.spent (x.spent e);
  gave_up = λ e. y.gave_up (x.gave_up e);
}

pub holds_same : (c : ℕ) (g : Glimpse) → Holds c g g
holds_same c g = record { reaches = reaches_same g; forced = λ id asker f. f; forced_back = λ id asker f. f; begun = λ k n e. e; begun_back = λ k n e. e }

pub holds_then : (c : ℕ) (g h k : Glimpse) → Holds c g h → Holds c h k → Holds c g k
holds_then c g h k x y = record {
  reaches = reaches_then g h k x.reaches y.reaches;
  forced = λ id asker f. y.forced id asker (x.forced id asker f);
  forced_back = λ id asker f. x.forced_back id asker (y.forced_back id asker f);
  begun = λ i n e. y.begun i n (x.begun i n e);
  begun_back = λ i n e. x.begun_back i n (y.begun_back i n e);
}

pub onward_same : (c : ℕ) (g : Glimpse) → Onward c g g
onward_same c g = record { holds = holds_same c g; made = refl; asked = λ id. refl }

pub onward_then : (c : ℕ) (g h k : Glimpse) → Onward c g h → Onward c h k → Onward c g k
onward_then c g h k x y = record { holds = holds_then c g h k x.holds y.holds; made = y.made ∙ x.made; asked = λ id. y.asked id ∙ x.asked id }

-- before and after the step at which something of one's own was added
pub onward_asked : (c id d : ℕ) (g h k : Glimpse) → Onward c g h → AskedOne c id d h k → AskedOne c id d g k
onward_asked c id d g h k s t = record {
  holds = holds_then c g h k s.holds t.holds;
  made = t.made ∙ s.made;
  here = t.here ∙ ap (λ l. l ++ opened d (Some c) ∷ []) (s.asked id);
  elsewhere = λ j n. t.elsewhere j n ∙ s.asked j;
}

pub onward_answered : (c id : ℕ) (x : Attempt) (g h k : Glimpse) → Onward c g h → Answered c id x h k → Answered c id x g k
onward_answered c id x g h k s t = record {
  holds = holds_then c g h k s.holds t.holds;
  made = t.made ∙ s.made;
  past = t.past;
  was = sym (s.asked id) ∙ t.was;
  here = t.here;
  elsewhere = λ j n. t.elsewhere j n ∙ s.asked j;
}

pub answered_onward : (c id : ℕ) (x : Attempt) (g h k : Glimpse) → Answered c id x g h → Onward c h k → Answered c id x g k
answered_onward c id x g h k s t = record {
  holds = holds_then c g h k s.holds t.holds;
  made = t.made ∙ s.made;
  past = s.past;
  was = s.was;
  here = t.asked id ∙ s.here;
  elsewhere = λ j n. t.asked j ∙ s.elsewhere j n;
}

pub onward_made : (c n : ℕ) (g h k : Glimpse) → Onward c g h → MadeOne c n h k → MadeOne c n g k
onward_made c n g h k s t = record { holds = holds_then c g h k s.holds t.holds; made = t.made ∙ ap (λ l. l ++ n ∷ []) s.made; asked = λ id. t.asked id ∙ s.asked id }

-- an open work is open further on
pub open_onward : (w : Duty) (g h : Glimpse) → Holds w.claim g h → IsOpen g w → IsOpen h w
open_onward w g h x o = at w.place o
  where
    at : (y : Place) → IsOpen g (record { place = y; claim = w.claim; outcomes = w.outcomes }) → IsOpen h (record { place = y; claim = w.claim; outcomes = w.outcomes })
    at (P.Form number k) e = x.begun k number e
    at (P.Part id kind term) (p, asker, past, e, s) =
        let f = x.forced id asker (record { cell = p; past = past; at = e; has = s }) in (f.cell, asker, f.past, f.at, f.has)

-- what one knows of the book at a step
pub all_reaches : (g : Glimpse) (held : ℕ → ℕ) (b : Account) → IsAll g held b → Reaches g (glimpse b)
all_reaches g held b s = record {
  limit = sym s.limit;
  cells = λ id p e. (p, sym (s.cells id) ∙ e, stays_same p);
  forms = λ k f e. (f, sym (s.forms k) ∙ e, form_stays_same f);
  spent = λ e. sym s.spent ∙ e;
  gave_up = λ e. sym s.gave_up ∙ e;
}

pub all_onward : (c : ℕ) (g : Glimpse) (held : ℕ → ℕ) (b : Account) → IsAll g held b → Onward c g (glimpse b)
all_onward c g held b s = record {
  holds = record {
    reaches = all_reaches g held b s;
    forced = λ id asker f. record { cell = f.cell; past = f.past; at = sym (s.cells id) ∙ f.at; has = f.has };
    forced_back = λ id asker f. record { cell = f.cell; past = f.past; at = s.cells id ∙ f.at; has = f.has };
    begun = λ k n e. sym (s.forms k) ∙ e;
    begun_back = λ k n e. s.forms k ∙ e;
  };
  made = sym (s.made c);
  asked = λ id. sym (s.asked c id);
}

pub fits_reaches : (alone leads : Bool) (law noted : Account → Type 0) (g : Glimpse) (mine : ℕ → ℕ) (b : Account) → Fits alone leads law noted g mine b → Reaches g (glimpse b)
fits_reaches true leads law noted g mine b f = all_reaches g mine b f.1
fits_reaches false leads law noted g mine b f = f.grown

pub fits_onward : (alone leads : Bool) (law noted : Account → Type 0) (g : Glimpse) (mine : ℕ → ℕ) (b : Account) (c : ℕ) → Fits alone leads law noted g mine b → 0 < mine c → Onward c g (glimpse b)
fits_onward true leads law noted g mine b c f m = all_onward c g mine b f.1
fits_onward false leads law noted g mine b c f m = f.own c m

pub fits_open : (alone leads : Bool) (law noted : Account → Type 0) (g : Glimpse) (mine : ℕ → ℕ) (b : Account) (w : Duty) → Fits alone leads law noted g mine b → 0 < mine w.claim → IsOpen g w → IsOpenIn b w
fits_open alone leads law noted g mine b w f m o = open_onward w g (glimpse b) ((fits_onward alone leads law noted g mine b w.claim f m).holds) o

-- what was seen after the step
pub reaches_seen : (leads : Bool) (mine : ℕ → ℕ) (g : Glimpse) (b : Account) (h : Glimpse) → Reaches g (glimpse b) → Sees leads mine g b h → Reaches g h
reaches_seen leads mine g b h r s = record { limit = s.limit ∙ r.limit; cells = λ id p e. cell id p e (s.cells id); forms = λ k f e. form k f e (s.forms k); spent = λ e. note h.spent g.spent b.spent s.spent r.spent e; gave_up = λ e. note h.gave_up g.gave_up b.gave_up s.gave_up r.gave_up e }
  where
    cell : (id : ℕ) (p : Cell) → g.cells id ≡ Some p → (h.cells id ≡ g.cells id) ⊎ ((h.cells id ≡ cell_at b id) ⊎ Passed mine (g.cells id) (h.cells id) (cell_at b id)) → (q : Cell) × (h.cells id ≡ Some q) × Stays p q
    cell id p e (inl l) = (p, l ∙ e, stays_same p)
    cell id p e (inr (inl l)) = let q = r.cells id p e in (q.0, l ∙ q.1, q.2)
    cell id p e (inr (inr z)) = (z.cell, z.is, z.from p e)

    form : (k : ℕ) (f : Form) → g.forms k ≡ Some f → (h.forms k ≡ g.forms k) ⊎ ((h.forms k ≡ slice_get b.forms k) ⊎ FormPassed mine (g.forms k) (h.forms k) (slice_get b.forms k)) → (q : Form) × (h.forms k ≡ Some q) × FormStays f q
    form k f e (inl l) = (f, l ∙ e, form_stays_same f)
    form k f e (inr (inl l)) = let q = r.forms k f e in (q.0, l ∙ q.1, q.2)
    form k f e (inr (inr z)) = (z.form, z.is, z.from f e)

    note : (x y z : Bool) → (x ≡ y) ⊎ (x ≡ z) → (y ≡ true → z ≡ true) → y ≡ true → x ≡ true
    note x y z (inl l) t e = l ∙ e
    note x y z (inr l) t e = l ∙ t e

pub holds_seen : (leads : Bool) (mine : ℕ → ℕ) (c : ℕ) (g : Glimpse) (b : Account) (h : Glimpse) → Holds c g (glimpse b) → Sees leads mine g b h → 0 < mine c → Holds c g h
holds_seen leads mine c g b h x s m = record {
  reaches = reaches_seen leads mine g b h x.reaches s;
  forced = λ id asker f. force id asker f (x.forced id asker f) (s.cells id);
  forced_back = λ id asker f. back id asker f (s.cells id);
  begun = λ k n e. form k n e (x.begun k n e) (s.forms k);
  begun_back = λ k n e. form_back k n e (s.forms k);
}
  where
    force : (id : ℕ) (asker : Option ℕ) → IsForced g id c asker → IsForced (glimpse b) id c asker → (h.cells id ≡ g.cells id) ⊎ ((h.cells id ≡ cell_at b id) ⊎ Passed mine (g.cells id) (h.cells id) (cell_at b id)) → IsForced h id c asker
    force id asker f k (inl l) = record { cell = f.cell; past = f.past; at = l ∙ f.at; has = f.has }
    force id asker f k (inr (inl l)) = record { cell = k.cell; past = k.past; at = l ∙ k.at; has = k.has }
    force id asker f k (inr (inr z)) = record { cell = z.cell; past = f.past; at = z.is; has = z.forced c asker f.cell f.past m f.at f.has }

    back : (id : ℕ) (asker : Option ℕ) → IsForced h id c asker → (h.cells id ≡ g.cells id) ⊎ ((h.cells id ≡ cell_at b id) ⊎ Passed mine (g.cells id) (h.cells id) (cell_at b id)) → IsForced g id c asker
    back id asker f (inl l) = record { cell = f.cell; past = f.past; at = sym l ∙ f.at; has = f.has }
    back id asker f (inr (inl l)) = x.forced_back id asker (record { cell = f.cell; past = f.past; at = sym l ∙ f.at; has = f.has })
    back id asker f (inr (inr z)) =
        let same : f.cell ≡ z.cell = same_Some f.cell z.cell (sym f.at ∙ z.is) in
        let p = z.back c asker f.past m (subst (λ (y : Cell). HasOpen y c asker f.past) same f.has) in record { cell = p.0; past = f.past; at = p.1; has = p.2 }

    form : (k n : ℕ) → g.forms k ≡ Some (begun_form n c) → slice_get b.forms k ≡ Some (begun_form n c) → (h.forms k ≡ g.forms k) ⊎ ((h.forms k ≡ slice_get b.forms k) ⊎ FormPassed mine (g.forms k) (h.forms k) (slice_get b.forms k)) → h.forms k ≡ Some (begun_form n c)
    form k n e z (inl l) = l ∙ e
    form k n e z (inr (inl l)) = l ∙ z
    form k n e z (inr (inr y)) = y.is ∙ ap Some (y.begun c n m e)

    form_back : (k n : ℕ) → h.forms k ≡ Some (begun_form n c) → (h.forms k ≡ g.forms k) ⊎ ((h.forms k ≡ slice_get b.forms k) ⊎ FormPassed mine (g.forms k) (h.forms k) (slice_get b.forms k)) → g.forms k ≡ Some (begun_form n c)
    form_back k n e (inl l) = sym l ∙ e
    form_back k n e (inr (inl l)) = x.begun_back k n (sym l ∙ e)
    form_back k n e (inr (inr y)) = y.back c n m (same_Some y.form (begun_form n c) (sym y.is ∙ e))

pub onward_seen : (leads : Bool) (mine : ℕ → ℕ) (c : ℕ) (g : Glimpse) (b : Account) (h : Glimpse) → Onward c g (glimpse b) → Sees leads mine g b h → 0 < mine c → Onward c g h
onward_seen leads mine c g b h x s m = record { holds = holds_seen leads mine c g b h x.holds s m; made = s.made c m ∙ x.made; asked = λ id. s.asked c m id ∙ x.asked id }

pub asked_seen : (leads : Bool) (mine : ℕ → ℕ) (c id d : ℕ) (g : Glimpse) (b : Account) (h : Glimpse) → AskedOne c id d g (glimpse b) → Sees leads mine g b h → 0 < mine c → AskedOne c id d g h
asked_seen leads mine c id d g b h y s m = record { holds = holds_seen leads mine c g b h y.holds s m; made = s.made c m ∙ y.made; here = s.asked c m id ∙ y.here; elsewhere = λ j n. s.asked c m j ∙ y.elsewhere j n }

pub answered_seen : (leads : Bool) (mine : ℕ → ℕ) (c id : ℕ) (x : Attempt) (g : Glimpse) (b : Account) (h : Glimpse) → Answered c id x g (glimpse b) → Sees leads mine g b h → 0 < mine c → Answered c id x g h
answered_seen leads mine c id x g b h y s m = record { holds = holds_seen leads mine c g b h y.holds s m; made = s.made c m ∙ y.made; past = y.past; was = y.was; here = s.asked c m id ∙ y.here; elsewhere = λ j n. s.asked c m j ∙ y.elsewhere j n }

pub made_seen : (leads : Bool) (mine : ℕ → ℕ) (c n : ℕ) (g : Glimpse) (b : Account) (h : Glimpse) → MadeOne c n g (glimpse b) → Sees leads mine g b h → 0 < mine c → MadeOne c n g h
made_seen leads mine c n g b h y s m = record { holds = holds_seen leads mine c g b h y.holds s m; made = s.made c m ∙ y.made; asked = λ id. s.asked c m id ∙ y.asked id }
