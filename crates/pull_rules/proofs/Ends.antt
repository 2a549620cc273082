-- How the work of a pull ends.
use Rattle.std.proofs.Common.{◌≡◌, ◌≢◌, ℕ, List, [], ◌∷◌, length, refl, ap, sym, ◌∙◌}
use Rattle.seq_base.specs.declared.thrown.Thrown.TheVariants.{Overflow}
use Rattle.seq_values.specs.Model as M
use Rattle.seq_values.specs.Plain.{plains}
use Rattle.seq_values.specs.declared.value.Value.{Value}
use Rattle.seq_plan.specs.Plan.{give, throw}
use Rattle.seq_plan.specs.Nodes.{with_members, with_items, give_value, with_value}
use Rattle.seq_turns.specs.Making.{Grows, grown, Makes, made}
use Rattle.seq_turns.specs.declared.made.Grown.{Grown}
use Rattle.seq_turns.specs.declared.made.Grown.TheVariants as G
use Rattle.seq_turns.specs.declared.made.Made.{Made}
use Rattle.seq_turns.specs.declared.next.Next.{Next}
use Rattle.seq_turns.specs.declared.proper.Gathered.{Gathered}
use Rattle.stage_rows.specs.Table.{last_outputs}
use Rattle.pull_rules.specs.Left.{last_of, left_part, Takes}
use Rattle.pull_rules.specs.declared.flow.Outputs.{Outputs}
use Rattle.pull_rules.specs.declared.state.AtPart.TheVariants as P
use Rattle.pull_rules.specs.declared.state.State.{State}
use Rattle.pull_rules.proofs.Taking.{takes_same}

last_is : (xs : List (M.Value ℕ)) → with_members xs last_of ≡ last_outputs xs
last_is [] = refl
last_is (x ∷ xs) = refl

grown_last : (xs : List Value) (g : Grown) (r : Next State) → Grows (with_members (plains xs)) g → Takes (grown g last_of) r → Takes (last_outputs (plains xs)) r
grown_last xs g r e h = takes_same (sym (e.goes last_of) ∙ last_is (plains xs)) h

pub many_last : (xs : List Value) (r : Next State) → Grows (with_members (plains xs)) G.TooMany → Takes (throw Overflow) r → Takes (last_outputs (plains xs)) r
many_last xs r e h = grown_last xs G.TooMany r e h

pub all_last : (xs : List Value) (all : Gathered) (r : Next State) → Grows (with_members (plains xs)) (G.All all) → Takes (last_of (plains all.items.items)) r → Takes (last_outputs (plains xs)) r
all_last xs all r e h = grown_last xs (G.All all) r e h

pub nothing_last : (xs : List Value) (r : Next State) → length xs ≡ 0 → Takes (give M.nil) r → Takes (last_of (plains xs)) r
nothing_last [] r l h = h
nothing_last (x ∷ xs) r l h = absurd cc

pub some_last : (xs : List Value) (r : Next State) → length xs ≢ 0 → Takes (give_value (M.chunk (M.values (plains xs)) M.empty)) r → Takes (last_of (plains xs)) r
some_last [] r l h = absurd (l refl)
some_last (x ∷ xs) r l h = h

pub chunk_gives : (xs ys : List Value) (m : Made) (r : Next State) → ys ≡ xs → Makes (with_value (M.chunk (M.values (plains ys)) M.empty)) m → Takes (made m give) r → Takes (give_value (M.chunk (M.values (plains xs)) M.empty)) r
chunk_gives xs ys m r e q h = takes_same (sym (q.goes give) ∙ ap (λ l. give_value (M.chunk (M.values (plains l)) M.empty)) e) h

pub many_before : (o : Outputs) (id : ℕ) (r : Next State) → Grows (with_members (plains o.items.items)) G.TooMany → Takes (throw Overflow) r → Takes (left_part (P.Pulled o) id) r
many_before o id r e h = takes_same (sym (e.goes (λ xs. give_value (with_items (M.values xs) (M.cell id))))) h

pub all_before : (o : Outputs) (all : Gathered) (id : ℕ) (r : Next State) → Grows (with_members (plains o.items.items)) (G.All all) → Takes (give_value (with_items (M.values (plains all.items.items)) (M.cell id))) r → Takes (left_part (P.Pulled o) id) r
all_before o all id r e h = takes_same (sym (e.goes (λ xs. give_value (with_items (M.values xs) (M.cell id))))) h
