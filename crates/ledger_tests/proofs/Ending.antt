-- Walks that come to an end.
use Rattle.std.proofs.Common.{◌≡◌, ℕ, zero, suc, ◌+◌, ◌<◌, ◌^◌, ℤ, List, [], ◌∷◌, length, Bool, true, false, Option, Some, None, refl, ap, sym, subst, ◌∙◌, arith, rules, lit<}
use Rattle.std.specs.Prelude.{slice_get, unsigned_abs, ◌-ℤ◌}
use Rattle.seq_values.specs.declared.value.Value.{Value}
use Rattle.seq_values.specs.declared.value.Value.TheVariants as V
use Rattle.seq_values.specs.declared.value.Node.TheVariants as N
use Rattle.seq_values.specs.declared.value.Node.TheFolds.{the_lemmas}
use Rattle.seq_values.specs.Model as M
use Rattle.seq_values.specs.Plain.{plain}
use Rattle.cell_book.specs.Account.{Account, new_book, cell_at}
use Rattle.cell_book.specs.Readers.{value_in}
use Rattle.seq_table.specs.Fronts.{front_nil, front_range, front_cons, front_behind, front_unrealised}
use Rattle.seq_ledger.specs.Walks.{ComesToEnd}

ended : (a : Account) (v w : M.Value ℕ) → v ≡ w → ComesToEnd a w → ComesToEnd a v
ended a v w e h = subst (λ x. ComesToEnd a x) (sym e) h

pub none_defined : (a : Account) (i : ℕ) (v : Value) → slice_get [] i ≡ Some v → ComesToEnd a (plain v)
none_defined a i v e = absurd cc

pub plain_range : (from at end : ℤ) → plain (V.Node (N.Range from at end)) ≡ M.range from at end
plain_range from at end = search (rules, the_lemmas)

pub plain_cell : (id : ℕ) → plain (V.Cell id) ≡ M.cell id
plain_cell id = search (rules, the_lemmas)

plain_nil : plain V.Nil ≡ M.nil
plain_nil = search (rules, the_lemmas)

-- ## Fronts that are there

pub nil_ends : (a : Account) → ComesToEnd a (plain V.Nil)
nil_ends a = ended a _ M.nil plain_nil (record { count = 0; ended = true; walk = front_nil; few = lit< tt })

pub range_ends : (a : Account) (v : M.Value ℕ) (from at end : ℤ) → (xs : M.Values ℕ) × (v ≡ M.cons xs (M.range from at end)) → ComesToEnd a v
range_ends a v from at end (xs, e) = ended a v (M.cons xs (M.range from at end)) e (record { count = length (M.list xs) + unsigned_abs (end -ℤ at); ended = true; walk = front_cons front_range; few = lit< tt })

no_cell : (a : Account) (id : ℕ) → a.cells ≡ [] → cell_at a id ≡ None
no_cell a zero e = refl
no_cell a (suc i) e = ap (λ l. slice_get l i) e

pub unmade_ends : (a : Account) (v : M.Value ℕ) (id : ℕ) → a ≡ new_book 9 → v ≡ M.cell id → ComesToEnd a v
unmade_ends a v id e f = ended a v (M.cell id) f (record {
  count = 0;
  ended = false;
  walk = front_unrealised (λ d. let x : value_in None ≡ Some d.0 = sym (ap value_in (no_cell a id (ap (λ b. b.cells) e))) ∙ d.1 in absurd cc);
  few = lit< tt;
})

pub done_ends : (a : Account) (u : Value) (id : ℕ) (from at end : ℤ) → value_in (cell_at a id) ≡ Some u → plain u ≡ M.range from at end → ComesToEnd a (plain (V.Cell id))
done_ends a u id from at end is e = ended a _ (M.cell id) (plain_cell id) (record {
  count = unsigned_abs (end -ℤ at);
  ended = true;
  walk = front_behind (u, is) (u, is, sym e) front_range;
  few = lit< tt;
})

some_is : (x y : Value) → Some x ≡ Some y → x ≡ y
some_is x y e = cc

pub one_defined : (a : Account) (x : Value) (i : ℕ) (v : Value) → ComesToEnd a (plain x) → slice_get (x ∷ []) i ≡ Some v → ComesToEnd a (plain v)
one_defined a x zero v h e = subst (λ y. ComesToEnd a (plain y)) (some_is x v e) h
one_defined a x (suc i) v h e = absurd cc
