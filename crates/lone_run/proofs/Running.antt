-- How far a run has come after one more form, and how it ends there.
use Rattle.std.proofs.Common.{◌≡◌, ◌≢◌, ℕ, zero, suc, ◌+◌, ◌-◌, ◌<◌, ◌≤◌, ◌^◌, List, [], ◌∷◌, ◌++◌, length, take, drop, Option, Some, None, Result, Ok, Err, slice_get, refl, ap, sym, subst, ◌∙◌, arith}
use Rattle.std.specs.Prelude.{IfOk, IfErr, OnOk, min}
use Rattle.std.specs.Io.KnownBytes.{Appends}
use Rattle.std.proofs.KnownBytes as known
use Rattle.std.proofs.lemmas.List.{append_assoc, append-nil, take-append-drop}
use Rattle.std.proofs.Math.Nat.{le-min, min-le_left, min-le_right}
use Rattle.seq_base.specs.declared.limits.Limits.{Limits}
use Rattle.seq_base.specs.Causes.{Rose}
use Rattle.seq_values.specs.declared.value.Value.{Value as Coded}
use Rattle.clj_script.specs.Trees.{Expr, Top, def, defn, prn, ledger, Program}
use Rattle.cell_book.specs.Account.{Account, cell_at, new_book}
use Rattle.cell_book.specs.declared.cell.Cell.{Cell}
use Rattle.cell_book.specs.Glimpses.{glimpse}
use Rattle.cell_book.proofs.Lists.{get_within}
use Rattle.seq_meaning.specs.Gives.{IsNoDef, defn_none, prn_none, ledger_none}
use Rattle.seq_table.specs.Outputs.{Line, one_more_line, done, def_threw, spent, threw_at, Ran, RanPart}
use Rattle.seq_table.specs.Table.{language}
use Rattle.seq_lawful.specs.Runs.{MayBegin}
use Rattle.lawful_output.specs.Progress.{IsDoneAt, Reached}
use Rattle.lawful_output.proofs.Ended.{def_throws_where, given_is_done, thrown_is_done}
use Rattle.lawful_output.proofs.Written.{fits_at_rest, next_may_begin, out, part_of, part_of_next, reached_new, reached_on, through}
use Rattle.lone_run.specs.declared.ending.RunEnd.{RunEnd}
use Rattle.lone_run.specs.declared.ending.RunEnd.TheVariants as End
use Rattle.lone_run.specs.declared.given.Given.{Given}
use Rattle.lone_run.specs.declared.given.Given.TheVariants as G
use Rattle.lone_run.specs.Running.{names_of, basis_of, RunBook, Wrote, WroteAll, WrotePart}
use Rattle.lone_run.specs.Stages.{Forced, HasEnded, IsCalm, IsOver, AtLine, RunAt}
use Rattle.lone_run.specs.Writing.{Ends, EndsWith, GoesOn, GoesPart, IsLineEnd, IsThrownDef, IsWriteEnd, Keeps, Ongoing}
use Rattle.lone_run.proofs.Defining.{defines_more, defines_none, defines_on}

pub rose_later : (a b c : ℕ) → a ≤ b → Rose b c → Rose a c
rose_later a b c h r =
    let x = min-le_left (a + 1) (2 ^ 64 - 1) in
    let y = min-le_right (a + 1) (2 ^ 64 - 1) in
    let z : min (a + 1) (2 ^ 64 - 1) ≤ min (b + 1) (2 ^ 64 - 1) = le-min (omega (arith, x, h)) y in
    omega (arith, z, r)

module _ (program : Program) (limits : Limits) where
  -- ## A form that was evaluated with all its futures

  pub at_line : (a : Account) (k : ℕ) (b : Account) (written : List ℕ) (given : Given) (defined : List Coded) → RunAt program limits a k written defined → Forced program limits a k b given → AtLine program limits k b written given defined
  at_line a k b written given defined r f = record {
    start = a;
    reached = r.reached;
    line = record { calm = f.calm; rested = f.rested; ended = f.ended; defines = defines_on program a b k defined f.reaches r.defines };
  }

  pub may_begin : (a : Account) (k : ℕ) (written : List ℕ) (defined : List Coded) → k < length program.tops → RunAt program limits a k written defined → MayBegin (language limits.processors) program limits.steps (glimpse a) (k + 1)
  may_begin a k written defined h r =
      let t = get_within program.tops k h in
      let n : suc k ≡ k + 1 = omega arith in
      subst (λ j. MayBegin (language limits.processors) program limits.steps (glimpse a) j) n (next_may_begin (names_of limits) program limits.steps limits.cells (language limits.processors) a k written t.0 r.reached t.1)

  module _ (k : ℕ) (b : Account) (written : List ℕ) (given : Given) (defined : List Coded) (s : AtLine program limits k b written given defined) (line : List ℕ) (l : Line (names_of limits) program limits.steps (suc k) line) where
    done_at : (t : Top) (new : List Coded) → slice_get program.tops k ≡ Some t → Keeps t given defined new → IsDoneAt program b k
    done_at t new top keeps = go given s.line.ended t top keeps
      where
        go : (g : Given) → HasEnded b k g → (t : Top) → slice_get program.tops k ≡ Some t → Keeps t g defined new → IsDoneAt program b k
        go (G.Gave v) h t top keeps = given_is_done (names_of limits) program limits.steps b s.line.calm.good.0 k v h
        go (G.Threw why) h (def name e) top keeps = absurd keeps
        go (G.Threw why) h defn top keeps = thrown_is_done program b k defn why top defn_none h
        go (G.Threw why) h (prn e) top keeps = thrown_is_done program b k (prn e) why top prn_none h
        go (G.Threw why) h ledger top keeps = thrown_is_done program b k ledger why top ledger_none h

    pub goes_on : (t : Top) (new : List Coded) → slice_get program.tops k ≡ Some t → Keeps t given defined new → RunAt program limits b (suc k) (written ++ line) new
    goes_on t new top keeps = record {
      reached = reached_on (names_of limits) program limits.steps limits.cells b k s.line.rested s.start written line s.reached (done_at t new top keeps) l;
      calm = s.line.calm;
      defines = defines_more program b k t given defined new s.line.rested.rests s.line.calm.good.1 top s.line.ended s.line.defines keeps;
    }

    pub goes_part : (n : ℕ) → RanPart (names_of limits) program limits.steps limits.cells (written ++ take n line)
    goes_part n = part_of_next (names_of limits) program limits.steps limits.cells b k s.line.rested s.start written line (written ++ take n line) (drop n line) s.reached l (sym (append_assoc written (take n line) (drop n line) ∙ ap (λ x. written ++ x) (take-append-drop n line)))

    def_throws : (t : Top) → slice_get program.tops k ≡ Some t → IsThrownDef t given → Ran (names_of limits) program limits.steps limits.cells def_threw (written ++ line)
    def_throws t top thrown = go given s.line.ended t top thrown
      where
        go : (g : Given) → HasEnded b k g → (t : Top) → slice_get program.tops k ≡ Some t → IsThrownDef t g → Ran (names_of limits) program limits.steps limits.cells def_threw (written ++ line)
        go (G.Gave v) h (def name e) top thrown = absurd thrown
        go (G.Gave v) h defn top thrown = absurd thrown
        go (G.Gave v) h (prn e) top thrown = absurd thrown
        go (G.Gave v) h ledger top thrown = absurd thrown
        go (G.Threw why) h (def name e) top thrown = threw_at s.reached.all_fit (fits_at_rest (names_of limits) program limits.steps limits.cells b (suc k) s.line.rested) (def_throws_where (names_of limits) program limits.steps b s.line.calm.good.0 k name e why top h) (one_more_line s.reached.output l)
        go (G.Threw why) h defn top thrown = absurd thrown
        go (G.Threw why) h (prn e) top thrown = absurd thrown
        go (G.Threw why) h ledger top thrown = absurd thrown

    -- the run ends after the whole line
    pub line_ends : (t : Top) (old new : Option (List ℕ)) → slice_get program.tops k ≡ Some t → Appends old new line → (end : RunEnd) → IsLineEnd t given end → Ends program limits end written old new
    line_ends t old new top appended End.Done i = absurd i
    line_ends t old new top appended End.DefThrew i = record { line = line; appended = appended; ran = def_throws t top i }
    line_ends t old new top appended End.CellsSpent i = absurd i
    line_ends t old new top appended End.WriteFault i = absurd i
    line_ends t old new top appended End.NoMemory i = tt

    -- where the value of a `def` is kept, or the run ends
    pub on_result : (c : Account) → c ≡ b → (t : Top) → slice_get program.tops k ≡ Some t → (old new : Option (List ℕ)) → Appends old new line → (r : Result (Unit {0}) RunEnd) (defs : List Coded) → OnOk r (Keeps t given defined defs) → OnOk r (GoesOn program limits written (suc k) c defs old new)
    on_result c e t top old new appended (Ok u) defs keeps = record { line = line; appended = appended; at = subst (λ x. RunAt program limits x (suc k) (written ++ line) defs) (sym e) (goes_on t defs top keeps) }
    on_result c e t top old new appended (Err end) defs keeps = tt

    pub ended_result : (t : Top) → slice_get program.tops k ≡ Some t → (old new : Option (List ℕ)) → Appends old new line → (r : Result (Unit {0}) RunEnd) → IfErr r (λ end. IsLineEnd t given end) → IfErr r (λ end. Ends program limits end written old new)
    ended_result t top old new appended (Ok u) i = tt
    ended_result t top old new appended (Err end) i = line_ends t old new top appended end i

    pub part_result : (old new : Option (List ℕ)) (n : ℕ) → Appends old new (take n line) → GoesPart program limits written old new
    part_result old new n appended = record { part = take n line; appended = appended; ran = goes_part n }

  -- or in the midst of it
  pub write_ends : (written : List ℕ) (old new : Option (List ℕ)) (end : RunEnd) → IsWriteEnd end → Ends program limits end written old new
  write_ends written old new End.Done i = absurd i
  write_ends written old new End.DefThrew i = absurd i
  write_ends written old new End.CellsSpent i = absurd i
  write_ends written old new End.WriteFault i = tt
  write_ends written old new End.NoMemory i = tt

  -- nothing of the line was written
  pub no_part : (a : Account) (k : ℕ) (written : List ℕ) (old : Option (List ℕ)) → Reached (names_of limits) program limits.steps limits.cells a k written → GoesPart program limits written old old
  no_part a k written old r = record {
    part = [];
    appended = known.Appends-nil old;
    ran = part_of (names_of limits) program limits.steps limits.cells a k written (written ++ []) [] r (sym (append-nil (written ++ []) ∙ append-nil written));
  }

  -- a make was refused
  pub spent_ends : (a : Account) (k : ℕ) (b : Account) (written : List ℕ) (defined : List Coded) (old : Option (List ℕ)) → RunAt program limits a k written defined → IsOver program limits b (suc k) → Ends program limits End.CellsSpent written old old
  spent_ends a k b written defined old r o = record {
    line = [];
    appended = known.Appends-nil old;
    ran = subst (λ x. Ran (names_of limits) program limits.steps limits.cells spent x) (sym (append-nil written)) (out (names_of limits) program limits.steps limits.cells a b k written r.reached o.lawful o.limit_is o.so_many o.spent);
  }

  -- ## The whole run

  new_calm : limits.cells < 2 ^ 32 → IsCalm program limits (new_book limits.cells)
  new_calm small = record {
    good = ((reached_new (names_of limits) program limits.steps limits.cells).rested.lawful, record { terms = λ id p e. absurd (no_cell id p e); kept = λ id p e. absurd (no_cell id p e); done = λ id p v e s. absurd (no_cell id p e); given = λ k f v e s. absurd cc });
    closed = λ c. refl;
    limit_is = refl;
    small = small;
    unspent = refl;
    kept = refl;
  }
    where
      no_cell : (id : ℕ) (p : Cell) → cell_at (new_book limits.cells) id ≡ Some p → ⊥
      no_cell zero p e = absurd cc
      no_cell (suc id) p e = absurd cc

  pub begins : (a : Account) (defined : List Coded) (old : Option (List ℕ)) → limits.cells < 2 ^ 32 → a ≡ new_book limits.cells → defined ≡ [] → Ongoing program limits 0 a defined old old
  begins a defined old small e f = subst (λ (x : Account). Ongoing program limits 0 x defined old old) (sym e) (subst (λ l. Ongoing program limits 0 (new_book limits.cells) l old old) (sym f) (record {
    written = [];
    appended = known.Appends-nil old;
    at = record { reached = reached_new (names_of limits) program limits.steps limits.cells; calm = new_calm small; defines = defines_none program (new_book limits.cells) };
  }))

  -- nothing was written
  pub wrote_nothing : (old : Option (List ℕ)) → WrotePart program limits old old
  wrote_nothing old = record {
    bytes = [];
    part = part_of (names_of limits) program limits.steps limits.cells (new_book limits.cells) 0 [] [] [] (reached_new (names_of limits) program limits.steps limits.cells) refl;
    appended = known.Appends-nil old;
  }

  module _ (k : ℕ) (a : Account) (defined : List Coded) (old now : Option (List ℕ)) (o : Ongoing program limits k a defined old now) where
    pub further : (b : Account) (defs : List Coded) (new : Option (List ℕ)) → GoesOn program limits o.written (suc k) b defs now new → Ongoing program limits (k + 1) b defs old new
    further b defs new g = subst (λ n. Ongoing program limits n b defs old new) (let n : suc k ≡ k + 1 = omega arith in n) (record { written = o.written ++ g.line; appended = known.Appends-trans old now new o.written g.line o.appended g.appended; at = g.at })

    with_line : (ending : _) (new : Option (List ℕ)) → EndsWith program limits ending o.written now new → WroteAll program limits ending old new
    with_line ending new g = record { bytes = o.written ++ g.line; ran = g.ran; appended = known.Appends-trans old now new o.written g.line o.appended g.appended }

    pub ends_run : (end : RunEnd) (new : Option (List ℕ)) → Ends program limits end o.written now new → Wrote program limits end old new
    ends_run End.Done new i = absurd i
    ends_run End.DefThrew new i = with_line def_threw new i
    ends_run End.CellsSpent new i = with_line spent new i
    ends_run End.WriteFault new i = tt
    ends_run End.NoMemory new i = tt

    pub part_run : (new : Option (List ℕ)) → GoesPart program limits o.written now new → WrotePart program limits old new
    part_run new g = record { bytes = o.written ++ g.part; part = g.ran; appended = known.Appends-trans old now new o.written g.part o.appended g.appended }

    pub through_run : k ≡ length program.tops → WroteAll program limits done old now
    through_run e = record { bytes = o.written; ran = through (names_of limits) program limits.steps limits.cells a k o.written o.at.reached e; appended = o.appended }

    pub part_so_far : WrotePart program limits old now
    part_so_far = record { bytes = o.written; part = part_of (names_of limits) program limits.steps limits.cells a k o.written o.written [] o.at.reached (sym (append-nil o.written)); appended = o.appended }

    -- every form of the program has ended in the book
    pub run_book : k ≡ length program.tops → RunBook program limits a
    run_book e =
        let r = o.at.reached in
        record { lawful = r.rested.lawful; rests = r.rested.rests; limit_is = r.rested.limit_is; so_many = r.rested.so_many ∙ e; done = λ i f at. r.done i f at }

  pub undone : (end : RunEnd) (written : List ℕ) (old new : Option (List ℕ)) → Ends program limits end written old new → end ≢ End.Done
  undone End.Done written old new i = absurd i
  undone End.DefThrew written old new i = λ e. (cc)
  undone End.CellsSpent written old new i = λ e. (cc)
  undone End.WriteFault written old new i = λ e. (cc)
  undone End.NoMemory written old new i = λ e. (cc)
