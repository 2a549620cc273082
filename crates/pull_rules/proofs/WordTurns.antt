-- The words, by the number of their arguments.
use Rattle.std.proofs.Common.{◌≡◌, ◌≢◌, ℕ, List, [], ◌∷◌, length, refl, ap, sym, ◌∙◌}
use Rattle.seq_base.specs.declared.thrown.Thrown.TheVariants.{Arity}
use Rattle.seq_values.specs.Model as M
use Rattle.seq_values.specs.Plain.{plain, plains}
use Rattle.seq_values.specs.declared.value.Value.{Value}
use Rattle.seq_values.specs.declared.words.Builtin.TheVariants as B
use Rattle.seq_values.specs.declared.words.Target.TheVariants as T
use Rattle.seq_plan.specs.Plan.{Plan, call, give, throw}
use Rattle.seq_plan.specs.Stages.{with_stages, fresh}
use Rattle.seq_turns.specs.declared.next.Next.{Next}
use Rattle.stage_rows.specs.Table.{stage_call, transduce_rule, make_pull}
use Rattle.pull_rules.specs.Left.{Takes}
use Rattle.pull_rules.specs.declared.state.State.{State}
use Rattle.pull_rules.proofs.Taking.{takes_same}

-- the row of `transduce`, of `into` and of `sequence`
abbrev pub transduce_row : M.Value ℕ → M.Value ℕ → M.Value ℕ → M.Value ℕ → Plan ℕ
transduce_row xf f init c = with_stages xf (λ stages. transduce_rule stages f init c)

pub transduce_arity : (xs : List Value) (r : Next State) → length xs ≢ 3 → length xs ≢ 4 → Takes (throw Arity) r → Takes (stage_call B.Transduce (plains xs)) r
transduce_arity [] r n m h = h
transduce_arity (a ∷ []) r n m h = h
transduce_arity (a ∷ b ∷ []) r n m h = h
transduce_arity (a ∷ b ∷ c ∷ []) r n m h = absurd (n refl)
transduce_arity (a ∷ b ∷ c ∷ d ∷ []) r n m h = absurd (m refl)
transduce_arity (a ∷ b ∷ c ∷ d ∷ e ∷ xs) r n m h = h

pub into_arity : (xs : List Value) (r : Next State) → length xs ≢ 3 → Takes (throw Arity) r → Takes (stage_call B.Into (plains xs)) r
into_arity [] r n h = h
into_arity (a ∷ []) r n h = h
into_arity (a ∷ b ∷ []) r n h = h
into_arity (a ∷ b ∷ c ∷ []) r n h = absurd (n refl)
into_arity (a ∷ b ∷ c ∷ d ∷ xs) r n h = h

pub sequence_arity : (xs : List Value) (r : Next State) → length xs ≢ 2 → Takes (throw Arity) r → Takes (stage_call B.Sequence (plains xs)) r
sequence_arity [] r n h = h
sequence_arity (a ∷ []) r n h = h
sequence_arity (a ∷ b ∷ []) r n h = absurd (n refl)
sequence_arity (a ∷ b ∷ c ∷ xs) r n h = h

pub transduce_three : (xs : List Value) (xf f c : Value) (r : Next State) → xs ≡ xf ∷ f ∷ c ∷ [] → Takes (with_stages (plain xf) (λ stages. call (plain f) [] (λ init. transduce_rule stages (plain f) init (plain c)))) r → Takes (stage_call B.Transduce (plains xs)) r
transduce_three xs xf f c r e h = takes_same (ap (λ l. stage_call B.Transduce (plains l)) (sym e)) h

pub transduce_four : (xs : List Value) (xf f i c : Value) (r : Next State) → xs ≡ xf ∷ f ∷ i ∷ c ∷ [] → Takes (transduce_row (plain xf) (plain f) (plain i) (plain c)) r → Takes (stage_call B.Transduce (plains xs)) r
transduce_four xs xf f i c r e h = takes_same (ap (λ l. stage_call B.Transduce (plains l)) (sym e)) h

pub into_three : (xs : List Value) (to xf f c : Value) (r : Next State) → xs ≡ to ∷ xf ∷ c ∷ [] → plain f ≡ M.function (T.Builtin B.Conj) M.no_values → Takes (transduce_row (plain xf) (plain f) (plain to) (plain c)) r → Takes (stage_call B.Into (plains xs)) r
into_three xs to xf f c r e q h = takes_same (ap (λ g. transduce_row (plain xf) g (plain to) (plain c)) q ∙ ap (λ l. stage_call B.Into (plains l)) (sym e)) h

pub sequence_two : (xs : List Value) (xf c : Value) (r : Next State) → xs ≡ xf ∷ c ∷ [] → Takes (with_stages (plain xf) (λ stages. make_pull (plain xf) (fresh stages) (plain c) (λ m. give (M.cell m)))) r → Takes (stage_call B.Sequence (plains xs)) r
sequence_two xs xf c r e h = takes_same (ap (λ l. stage_call B.Sequence (plains l)) (sym e)) h
