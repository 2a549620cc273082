-- Books that grow, and what each kind of step leaves of what others know.
use Rattle.std.proofs.Common.{◌≡◌, ◌≢◌, ℕ, zero, suc, ◌+◌, ◌-◌, ◌<◌, ◌≤◌, Bool, false, List, [], ◌∷◌, length, Some, Option, sym, refl, ap, ◌∙◌, subst, arith, le_refl}
use Rattle.std.specs.Prelude.{slice_get, slice_set}
use Rattle.std.proofs.lemmas.Option.{same_Some}
use mathlib.Core.Logic.{dite}
use native.Mathlib.Decide.{ℕ_discrete}
use Rattle.cell_book.specs.declared.cell.Attempt.{Attempt}
use Rattle.cell_book.specs.declared.cell.Form.{Form}
use Rattle.cell_book.specs.Account.{Account, Duty, opened, opens, begun, begun_in, IsFresh, IsSound}
use Rattle.cell_book.specs.Glimpses.{Glimpse, glimpse, Reaches, IsForced, Holds, Onward, at_claim}
use Rattle.cell_book.proofs.Lists.{get_last}
use Rattle.cell_book.proofs.Opening.{at_claim_same, at_claim_other, numbered_some, fresh_opens}
use Rattle.cell_book.proofs.Onwards.{reaches_same, reaches_then, onward_same}
use Rattle.cell_shared.specs.Growing.{IsQuiet, Grows, Asks, Turns}

pub grows_same : (a : Account) → Grows a a
grows_same a = record { reaches = reaches_same (glimpse a); forms = le_refl (length (begun a)); quiet = λ q e. refl }

pub grows_further : (a b c : Account) → Grows a b → Grows b c → Grows a c
grows_further a b c x y =
    let m = x.forms in
    let n = y.forms in record {
      reaches = reaches_then (glimpse a) (glimpse b) (glimpse c) x.reaches y.reaches;
      forms = omega arith;
      quiet = λ q e. (
          let same : b ≡ a = x.quiet q (omega arith) in
          let f : length (begun b) ≡ length (begun a) = ap (λ (z : Account). length (begun z)) same in
          y.quiet (subst IsQuiet (sym same) q) (e ∙ sym f) ∙ same);
    }

-- of three books, the claim has the same in the first and the second, and in the first and the third
pub onward_between : (c : ℕ) (g h k : Glimpse) → Onward c g h → Onward c g k → Reaches h k → Onward c h k
onward_between c g h k x y r = record {
  holds = record {
    reaches = r;
    forced = λ id asker f. y.holds.forced id asker (x.holds.forced_back id asker f);
    forced_back = λ id asker f. x.holds.forced id asker (y.holds.forced_back id asker f);
    begun = λ i n e. y.holds.begun i n (x.holds.begun_back i n e);
    begun_back = λ i n e. x.holds.begun i n (y.holds.begun_back i n e);
  };
  made = y.made ∙ sym x.made;
  asked = λ id. y.asked id ∙ sym (x.asked id);
}

-- nothing happens
pub turns_same : (leads : Bool) (mine : ℕ → ℕ) (a : Account) → IsSound a → Asks mine a → Turns leads mine a a mine
turns_same leads mine a s asks = record { sound = s; grows = grows_same a; counts = λ c. refl; others = λ c _ _. onward_same c (glimpse a); begun = λ _. refl; asks = asks; askers = λ c d id _ k. k }

pub turns_as : (leads : Bool) (mine m n : ℕ → ℕ) (a b : Account) → ((c : ℕ) → m c ≡ n c) → Turns leads mine a b m → Turns leads mine a b n
turns_as leads mine m n a b same t = record {
  sound = t.sound;
  grows = t.grows;
  counts = λ c. (let k = t.counts c in let e = same c in omega arith);
  others = t.others;
  begun = t.begun;
  asks = λ c d id some f k. (let e = same c in let f2 = same d in let z = t.asks c d id (omega arith) f k in omega arith);
  askers = t.askers;
}

-- nobody asked by a claim with a new number
pub fresh_asker : (a : Account) (c d id : ℕ) → IsFresh a d → IsForced (glimpse a) id c (Some d) → ⊥
fresh_asker a c d id f x =
    let t = numbered_some a.cells id x.cell x.at in
    let e : slice_get x.cell.attempts (length x.past) ≡ Some (opened c (Some d)) = ap (λ (l : List Attempt). slice_get l (length x.past)) x.has.attempts ∙ get_last x.past (opened c (Some d)) (length x.past) refl in
    ((f.cells t.0 x.cell t.2).attempts (length x.past) (opened c (Some d)) e).1 refl

pub fresh_forced : (a : Account) (c id : ℕ) (asker : Option ℕ) → IsFresh a c → IsForced (glimpse a) id c asker → ⊥
fresh_forced a c id asker f x = let t = numbered_some a.cells id x.cell x.at in (f.cells t.0 x.cell t.2).state x.has.state

-- a claim with a new number is opened
pub opened_turns : (leads : Bool) (mine mine2 : ℕ → ℕ) (a b : Account) (claim : ℕ) (asker : Option ℕ) → IsSound b → Grows a b → IsFresh a claim → Asks mine a → ((c : ℕ) → mine2 c ≡ at_claim claim c + mine c) → ((c : ℕ) → opens c b ≡ at_claim claim c + opens c a)
    → ((c : ℕ) → c ≢ claim → asker ≢ Some c → Onward c (glimpse a) (glimpse b)) → ((c : ℕ) → c ≢ claim → Holds c (glimpse a) (glimpse b)) → ((d : ℕ) → asker ≡ Some d → 0 < mine d) → ((id d : ℕ) → IsForced (glimpse b) id claim (Some d) → asker ≡ Some d) → (leads ≡ false → begun b ≡ begun a)
    → Turns leads mine a b mine2
opened_turns leads mine mine2 a b claim asker sound grows new asks after count onward holds own asked led = record {
  sound = sound;
  grows = grows;
  counts = λ c. (let e = after c in let k = count c in omega arith);
  others = λ c none some. onward c (λ e. (let z = fresh_opens a claim new in let k : opens c a ≡ opens claim a = ap (λ (n : ℕ). opens n a) e in absurd (omega arith))) (λ e. (let k = own c e in absurd (omega arith)));
  begun = led;
  asks = λ c d id some f k. dite (ℕ_discrete claim d)
      (λ e. (let t = at_claim_same claim d e in let m = after d in omega arith))
      (λ n. (
      let t = at_claim_other claim d n in
      let m = after d in
      let o = count d in dite (ℕ_discrete c claim)
      (λ e. (let z = own d (asked id d (subst (λ (x : ℕ). IsForced (glimpse b) id x (Some d)) e f)) in omega arith))
      (λ other. (
      let u = at_claim_other claim c (λ e. other (sym e)) in
      let v = after c in
      let z = asks c d id (omega arith) ((holds c other).forced_back id (Some d) f) (omega arith) in omega arith))));
  askers = λ c d id f k. dite (ℕ_discrete claim d)
      (λ e. absurd (fresh_asker a c claim id new (subst (λ (x : ℕ). IsForced (glimpse a) id c (Some x)) (sym e) f)))
      (λ n. (let t = at_claim_other claim d n in let o = count d in omega arith));
}

-- one of one's own claims ends
pub ended_turns : (leads : Bool) (mine mine2 : ℕ → ℕ) (a b : Account) (w : Duty) → IsSound a → IsSound b → Reaches (glimpse a) (glimpse b) → begun b ≡ begun a → ((c : ℕ) → mine c ≤ opens c a) → 0 < mine w.claim → Asks mine a → ((c : ℕ) → mine2 c ≡ mine c - at_claim w.claim c) → ((c : ℕ) → opens c b ≡ opens c a - at_claim w.claim c)
    → ((c : ℕ) → c ≢ w.claim → ((id : ℕ) → ¬ IsForced (glimpse a) id w.claim (Some c)) → Onward c (glimpse a) (glimpse b)) → ((c : ℕ) → c ≢ w.claim → Holds c (glimpse a) (glimpse b))
    → Turns leads mine a b mine2
ended_turns leads mine mine2 a b w before sound reaches same opened has asks after count onward holds =
    let one = at_claim_same w.claim w.claim refl in
    let most = before.once w.claim in
    let part = opened w.claim in record {
      sound = sound;
      grows = record { reaches = reaches; forms = (let e : length (begun b) ≡ length (begun a) = ap length same in omega arith); quiet = λ q e. (let z = q.idle w.claim in absurd (omega arith)) };
      counts = λ c. (
          let e = after c in
          let k = count c in dite (ℕ_discrete w.claim c)
          (λ is. (let m : mine w.claim ≡ mine c = ap mine is in let o : opens w.claim a ≡ opens c a = ap (λ (n : ℕ). opens n a) is in let t = at_claim_same w.claim c is in omega arith))
          (λ n. (let t = at_claim_other w.claim c n in omega arith)));
      others = λ c none some. (
          let mine_only : (id : ℕ) → ¬ IsForced (glimpse a) id w.claim (Some c) = λ id f. (let z = asks w.claim c id has f some in absurd (omega arith)) in
          onward c (λ e. (let m : mine c ≡ mine w.claim = ap mine e in absurd (omega arith))) mine_only);
      begun = λ _. same;
      asks = λ c d id some f k. (
          let e = after c in
          let other : c ≢ w.claim = λ is. (let m : mine c ≡ mine w.claim = ap mine is in let t = at_claim_same w.claim c (sym is) in absurd (omega arith)) in
          let t = at_claim_other w.claim c (λ is. other (sym is)) in
          let o = count d in
          let z = asks c d id (omega arith) ((holds c other).forced_back id (Some d) f) (omega arith) in
          let n = after d in dite (ℕ_discrete w.claim d)
          (λ is. (let m : opens w.claim a ≡ opens d a = ap (λ (x : ℕ). opens x a) is in let u = at_claim_same w.claim d is in absurd (omega arith)))
          (λ not. (let u = at_claim_other w.claim d not in omega arith)));
      askers = λ c d id f k. (let o = count d in omega arith);
    }

-- a form that ends keeps its number
pub begun_set : (fs : List Form) (k : ℕ) (f g : Form) → slice_get fs k ≡ Some f → g.number ≡ f.number → begun_in (slice_set fs k g) ≡ begun_in fs
begun_set [] k f g at e = refl
begun_set (x ∷ fs) zero f g at e = λ i. (e ∙ ap (λ (y : Form). y.number) (sym (same_Some x f at))) i ∷ begun_in fs
begun_set (x ∷ fs) (suc k) f g at e = λ i. x.number ∷ begun_set fs k f g at e i
