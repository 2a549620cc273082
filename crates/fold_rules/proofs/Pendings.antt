-- The halves that wait.
use Rattle.std.proofs.Common.{◌≡◌, ℕ, List, [], ◌∷◌, ◌++◌, refl, ap, sym, ◌∙◌}
use Rattle.seq_values.specs.Model as M
use Rattle.seq_values.specs.Plain.{plain, plains}
use Rattle.seq_values.specs.declared.value.Value.{Value}
use Rattle.seq_plan.specs.Plan.{Plan, call, give}
use Rattle.seq_turns.specs.Turning.{Takes}
use Rattle.seq_turns.specs.declared.next.Next.{Next}
use Rattle.fold_rules.specs.Left.{after, combined, pended, folding, running}
use Rattle.fold_rules.specs.declared.state.Fold.{Fold}
use Rattle.fold_rules.specs.declared.state.Half.{Half}
use Rattle.fold_rules.specs.declared.state.Pending.{Pending}
use Rattle.fold_rules.specs.declared.state.State.{State}
use Rattle.fold_rules.proofs.Taking.{takes_same}

-- the last half goes on first
pended_last : (hs : List Half) (h : Half) (k : M.Value ℕ → Plan ℕ) → pended (hs ++ h ∷ []) k ≡ combined h.cell (plain h.combine.value) (pended hs k)
pended_last [] h k = refl
pended_last (o ∷ hs) h k = pended_last hs h (combined o.cell (plain o.combine.value) k)

pub goes_half : (hs qs : List Half) (h : Half) (v : M.Value ℕ) (r : Next State) → hs ≡ qs ++ h ∷ [] → Takes running (combined h.cell (plain h.combine.value) (pended qs give) v) r → Takes running (pended hs give v) r
goes_half hs qs h v r e t = takes_same (ap (λ k. k v) (sym (ap (λ l. pended l give) e ∙ pended_last qs h give))) t

pub goes_last : (hs : List Half) (v : M.Value ℕ) (r : Next State) → hs ≡ [] → Takes running (give v) r → Takes running (pended hs give v) r
goes_last hs v r e t = takes_same (ap (λ l. pended l give v) (sym e)) t

-- both answers are combined
pub both_called : (left combine right : Value) (args : List Value) (p : Pending) (r : Next State) → plains args ≡ plain left ∷ plain right ∷ [] → Takes running (call (plain combine) (plains args) (after p)) r → Takes running (call (plain combine) (plain left ∷ plain right ∷ []) (after p)) r
both_called left combine right args p r e t = takes_same (ap (λ l. call (plain combine) l (after p)) e) t

-- one more half waits, and the first is folded
pub first_goes : (f : Fold) (items : List Value) (h : Half) (p q : Pending) (r : Next State) → q.halves.items ≡ p.halves.items ++ h ∷ [] → h.combine.value ≡ f.combine.value → Takes running (folding f items (after q)) r → Takes running (folding f items (combined h.cell (plain f.combine.value) (after p))) r
first_goes f items h p q r e c t = takes_same (ap (folding f items) (ap (λ l. pended l give) e ∙ pended_last p.halves.items h give ∙ ap (λ v. combined h.cell (plain v) (after p)) c)) t
