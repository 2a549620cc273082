-- What a plan comes to is well formed, where the rules keep to well-formed values and cells show such.
use Rattle.std.proofs.Common.{◌≡◌, ℕ, true, List}
use Rattle.seq_values.specs.WellFormedTerms.{is_seq}
use Rattle.seq_values.specs.Model.{Value}
use Rattle.clj_script.specs.Trees.{Program}
use Rattle.seq_plan.specs.Plan.{Plan}
use Rattle.seq_plan.specs.WellFormed.{sight, Well, WellList}
use Rattle.seq_plan.specs.Keeping.{Keeps, keeps_visit, keeps_ask, keeps_seq, keeps_call, keeps_go, keeps_make, keeps_give, KeepsRules}
use Rattle.seq_plan.proofs.WellNodes.{found_well}
use Rattle.seq_plan.proofs.WellPlans.{keeps-plan_of}
use Rattle.seq_meaning.specs.Names.{Name}
use Rattle.seq_meaning.proofs.WellWalk.{KeepsScript, keeps_script, keeps-called}
use Rattle.seq_meaning.proofs.WellRuns.{well_given}
use Rattle.seq_table.specs.Table.{chunk_size, language}
use Rattle.seq_table.specs.World.{World, names_world, script_in, SeqTo, seq_now, seq_asked, Comes, comes_visit, comes_ask, comes_seq, comes_call, comes_go, comes_make, comes_give, CallTo}
use Rattle.seq_table.proofs.WellWhole.{keeps-rules_of}

module _ {C : Type 0} (w : World C) (keeps : KeepsRules w.rules) (shown : (c : C) (v : Value C) → w.Shows c v → Well v) where
  seq_well : {v s : Value C} → SeqTo w v s → Well v → Well s × (is_seq (sight s) ≡ true)
  seq_well (seq_now q) h = found_well h q
  seq_well (seq_asked q g d) h = seq_well d (shown _ _ g)

  script_keeps : {defs : List (Value C)} → WellList defs → KeepsScript (script_in w defs)
  script_keeps d = keeps_script keeps d

  comes_well : {defs : List (Value C)} → WellList defs → {p : Plan C} {v : Value C} → Comes w defs p v → {Asked : Value C → Type 0} → Keeps Asked p → Asked v
  comes_well l (comes_visit d) (keeps_visit h) = comes_well l d h
  comes_well l (comes_ask s d) (keeps_ask h) = comes_well l d (h _ (shown _ _ s))
  comes_well l (comes_seq s d) (keeps_seq x h) = let y = seq_well s x in comes_well l d (h _ y.0 y.1)
  comes_well {defs = defs} l (comes_call a d) (keeps_call f xs h) = comes_well l d (h _ (comes_well l a (keeps-called {s = script_in w defs} (script_keeps l) f xs)))
  comes_well l (comes_go a d) (keeps_go {l = loop} {xs = xs} x h) = comes_well l d (h _ (comes_well l a (keeps-plan_of (keeps.loops loop xs x))))
  comes_well l (comes_make p d) (keeps_make t h) = comes_well l d (h _)
  comes_well l comes_give (keeps_give h) = h

module _ (processors : ℕ) (program : Program) (limit : ℕ) where
  pub calls_well : (defs : List (Value Name)) (f : Value Name) (xs : List (Value Name)) (y : Value Name) → WellList defs → Well f → WellList xs → CallTo (names_world (language processors) program limit) defs f xs y → Well y
  calls_well defs f xs y ds h hs d =
      let w = names_world (language processors) program limit in
      let k : KeepsRules {C = Name} (language processors) = keeps-rules_of processors chunk_size in
      let s : (c : Name) (v : Value Name) → w.Shows c v → Well v = λ c v g. well_given (language processors) program limit k c v g in
      comes_well w k s ds d {Asked = Well} (keeps-called {s = script_in w defs} (script_keeps w k s ds) h hs)
