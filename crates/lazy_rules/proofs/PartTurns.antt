-- Turns that make a part of a count and a collection.
use Rattle.std.proofs.Common.{◌≡◌, ℕ, ℤ, [], ◌∷◌, ap, ◌∙◌}
use Rattle.seq_values.specs.Model as M
use Rattle.seq_values.specs.Plain.{plain_term}
use Rattle.seq_values.specs.declared.term.Term.{Term}
use Rattle.seq_values.specs.declared.words.Kind.TheVariants.{Lazy}
use Rattle.seq_values.specs.declared.words.Op.{Op}
use Rattle.seq_plan.specs.Plan.{make, give}
use Rattle.seq_plan.specs.Lists.{lazily}
use Rattle.seq_turns.specs.declared.next.Next.{Next}
use Rattle.lazy_rules.specs.Left.{Takes}
use Rattle.lazy_rules.specs.declared.state.State.{State}
use Rattle.lazy_rules.proofs.Taking.{takes_same}

pub count_make : (op : Op) (n m : ℤ) (b c : M.Value ℕ) (t : Term) (r : Next State) → m ≡ n → b ≡ c → plain_term t ≡ record { op = op; args = M.int m ∷ b ∷ [] } → Takes (make Lazy (plain_term t) (λ i. give (M.cell i))) r → Takes (lazily op (M.int n ∷ c ∷ [])) r
count_make op n m b c t r e q d h =
    let p : plain_term t ≡ record { op = op; args = M.int n ∷ c ∷ [] } = d ∙ (λ i. record { op = op; args = M.int (e i) ∷ q i ∷ [] }) in
    takes_same (ap (λ x. make Lazy x (λ i. give (M.cell i))) p) h
