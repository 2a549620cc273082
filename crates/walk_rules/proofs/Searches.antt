-- Turns of `doall`, `every?` and `some`.
use Rattle.std.proofs.Common.{◌≡◌, ◌≢◌, ℕ, true, false, List, [], ◌∷◌, length, refl, ap, sym, ◌∙◌}
use Rattle.seq_base.specs.declared.thrown.Thrown.TheVariants.{Arity}
use Rattle.seq_values.specs.Model as M
use Rattle.seq_values.specs.Plain.{plain, plains}
use Rattle.seq_values.specs.declared.value.Value.{Value}
use Rattle.seq_plan.specs.Plan.{visit, seq, go, call, give, throw, doall_from, every_from, some_from}
use Rattle.seq_plan.specs.Nodes.{first_of, rest_of, is_truthy}
use Rattle.seq_plan.specs.Cursors.{stands}
use Rattle.seq_plan.specs.declared.cursor.Cursor.{Cursor}
use Rattle.lazy_rows.specs.Walks.{doall_rule}
use Rattle.seq_turns.specs.declared.next.Next.{Next}
use Rattle.seq_turns.specs.declared.proper.Proper.{Proper}
use Rattle.seq_turns.specs.declared.places.Rest.{Rest}
use Rattle.seq_turns.specs.Seen.{rested}
use Rattle.seq_turns.proofs.Taking.{some_cursor}
use Rattle.walk_rules.specs.Left.{left_seq, left_step, left_value, searches, searched, search_call, decides, Takes}
use Rattle.walk_rules.specs.declared.state.AtSeq.TheVariants as Q
use Rattle.walk_rules.specs.declared.state.AtStep.TheVariants as T
use Rattle.walk_rules.specs.declared.state.AtValue.TheVariants as V
use Rattle.walk_rules.specs.declared.state.Quest.{Quest}
use Rattle.walk_rules.specs.declared.state.Quest.TheVariants as A
use Rattle.walk_rules.specs.declared.state.State.{State}
use Rattle.walk_rules.proofs.Taking.{same, round}

pub doall_begins : (v c : Proper) (r : Next State) → c.value ≡ v.value → Takes (seq (plain v.value) (λ s. left_seq (Q.Doall c) s)) r → Takes (doall_rule (plain v.value)) r
doall_begins v c r e h = same (λ i. seq (plain v.value) (λ s. go doall_from (plain (e i) ∷ s ∷ []) give)) h

pub doall_ends : (c : Proper) (r : Next State) → Takes (give (plain c.value)) r → Takes (left_seq (Q.Doall c) M.nil) r
doall_ends c r h = round doall_from (plain c.value ∷ M.nil ∷ []) refl h

pub doall_goes : (w : Proper) (c : Cursor) (r : Next State) → Takes (visit (left_step (T.Doall w c))) r → Takes (left_seq (Q.Doall w) (stands c)) r
doall_goes w c r h = round doall_from (plain w.value ∷ stands c ∷ []) refl (rw (some_cursor c) h)

pub doall_steps : (w : Proper) (c : Cursor) (rest : Rest) (r : Next State) → rested rest ≡ rest_of (stands c) → Takes (seq (rested rest) (λ s. left_seq (Q.Doall w) s)) r → Takes (left_step (T.Doall w c)) r
doall_steps w c rest r e h = same (ap (λ v. seq v (λ s. left_seq (Q.Doall w) s)) e) h

pub search_two : (quest : Quest) (args : List Value) (p c : Proper) (r : Next State) → plains args ≡ plain p.value ∷ plain c.value ∷ [] → Takes (seq (plain c.value) (λ s. left_seq (Q.Search quest p) s)) r → Takes (search_call quest (plains args)) r
search_two A.Every args p c r e h = same (ap (search_call A.Every) (sym e)) h
search_two A.Any args p c r e h = same (ap (search_call A.Any) (sym e)) h

pub search_others : (quest : Quest) (args : List Value) (r : Next State) → length args ≢ 2 → Takes (throw Arity) r → Takes (search_call quest (plains args)) r
search_others A.Every [] r n h = h
search_others A.Every (x ∷ []) r n h = h
search_others A.Every (x ∷ y ∷ []) r n h = absurd (n refl)
search_others A.Every (x ∷ y ∷ z ∷ zs) r n h = h
search_others A.Any [] r n h = h
search_others A.Any (x ∷ []) r n h = h
search_others A.Any (x ∷ y ∷ []) r n h = absurd (n refl)
search_others A.Any (x ∷ y ∷ z ∷ zs) r n h = h

pub search_ends : (quest : Quest) (p : Proper) (r : Next State) → Takes (searched quest) r → Takes (left_seq (Q.Search quest p) M.nil) r
search_ends A.Every p r h = round every_from (plain p.value ∷ M.nil ∷ []) refl h
search_ends A.Any p r h = round some_from (plain p.value ∷ M.nil ∷ []) refl h

pub search_goes : (quest : Quest) (p : Proper) (c : Cursor) (r : Next State) → Takes (visit (left_step (T.Search quest p c))) r → Takes (left_seq (Q.Search quest p) (stands c)) r
search_goes A.Every p c r h = round every_from (plain p.value ∷ stands c ∷ []) refl (rw (some_cursor c) h)
search_goes A.Any p c r h = round some_from (plain p.value ∷ stands c ∷ []) refl (rw (some_cursor c) h)

pub search_calls : (quest : Quest) (p : Proper) (c : Cursor) (x : Proper) (args : List Value) (rest : Rest) (called : Proper) (r : Next State) → plain x.value ≡ first_of (stands c) → rested rest ≡ rest_of (stands c) → called.value ≡ p.value → plains args ≡ plain x.value ∷ [] → Takes (call (plain called.value) (plains args) (λ y. left_value (V.Search quest p rest) y)) r → Takes (left_step (T.Search quest p c)) r
search_calls quest p c x args rest called r e1 e2 e3 e4 h =
    let e : plains args ≡ first_of (stands c) ∷ [] = e4 ∙ ap (λ v. v ∷ []) e1 in
    same (λ i. call (plain (e3 i)) (e i) (λ y. decides quest (plain p.value) (e2 i) y)) h

pub every_on : (p : Proper) (rest : Rest) (y : M.Value ℕ) (r : Next State) → is_truthy y ≡ true → Takes (seq (rested rest) (λ s. left_seq (Q.Search A.Every p) s)) r → Takes (left_value (V.Search A.Every p rest) y) r
every_on p rest y r e h = rw e h

pub every_ends : (p : Proper) (rest : Rest) (y : M.Value ℕ) (r : Next State) → is_truthy y ≡ false → Takes (give (M.bool false)) r → Takes (left_value (V.Search A.Every p rest) y) r
every_ends p rest y r e h = rw e h

pub any_ends : (p : Proper) (rest : Rest) (y : M.Value ℕ) (r : Next State) → is_truthy y ≡ true → Takes (give y) r → Takes (left_value (V.Search A.Any p rest) y) r
any_ends p rest y r e h = rw e h

pub any_on : (p : Proper) (rest : Rest) (y : M.Value ℕ) (r : Next State) → is_truthy y ≡ false → Takes (seq (rested rest) (λ t. searches A.Any (plain p.value) t)) r → Takes (left_value (V.Search A.Any p rest) y) r
any_on p rest y r e h = rw e h
