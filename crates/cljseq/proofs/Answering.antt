-- How the parts make an answer.
use Rattle.std.proofs.Common.{◌≡◌, ◌⊎◌, inl, inr, ℕ, ◌+◌, true, false, List, [], ◌∷◌, ◌++◌, length, take, IfSome, Option, Some, None, Result, Ok, Err, refl, sym, ◌∙◌, ap, subst, arith, length-append}
use Rattle.std.specs.Prelude.{OnOk}
use Rattle.std.specs.Io.KnownBytes.{Appends, Consumes, IsAtEnd, Keeps}
use Rattle.std.proofs.KnownBytes as known
use Rattle.clj_reader.specs.declared.place.Place.{Place}
use Rattle.clj_reader.specs.declared.form.Form.{Form}
use Rattle.clj_reader.specs.declared.refusal.ReadRefusal.{ReadRefusal}
use Rattle.clj_reader.specs.declared.refusal.ReadFormsStop.{ReadFormsStop}
use Rattle.clj_reader.specs.declared.refusal.ReadFormsStop.TheVariants as read
use Rattle.clj_reader.specs.Places.{start}
use Rattle.clj_reader.specs.Refusals.{refusal}
use Rattle.clj_reader.specs.Scripts.{IsScript, IsRefused, too_long}
use Rattle.clj_script.specs.declared.refusal.ScriptRefusal.{ScriptRefusal}
use Rattle.clj_script.specs.declared.refusal.CompileStop.{CompileStop}
use Rattle.clj_script.specs.declared.refusal.CompileStop.TheVariants as compiled
use Rattle.clj_script.specs.declared.program.Program.{Program as Compiled}
use Rattle.clj_script.specs.Seen.{IsRefusal}
use Rattle.clj_script.specs.Trees.{Program}
use Rattle.command_line.specs.declared.given.Request.{Request}
use Rattle.command_line.specs.declared.given.Request.TheVariants as R
use Rattle.command_line.specs.declared.given.Options.{Options}
use Rattle.lone_run.specs.declared.ending.RunEnd.{RunEnd}
use Rattle.lone_run.specs.declared.ending.RunEnd.TheVariants as End
use Rattle.cell_book.specs.Account.{Account}
use Rattle.lone_run.specs.Running.{Wrote, WrotePart, IsRunBook}
use Rattle.seq_base.specs.declared.limits.Limits.{Limits}
use Rattle.seq_base.specs.declared.sink.WriteStop.{WriteStop}
use Rattle.seq_base.specs.declared.sink.WriteStop.TheVariants.{Failed, Memory}
use Rattle.seq_run.specs.declared.script.Refusal.{Refusal}
use Rattle.seq_run.specs.declared.script.ScriptStop.{ScriptStop}
use Rattle.seq_run.specs.declared.script.ScriptStop.TheVariants as stop
use Rattle.seq_run.specs.declared.status.Status.{Status}
use Rattle.seq_run.specs.declared.status.Status.TheVariants as S
use Rattle.seq_run.specs.Stops.{of_reader, of_compiler}
use Rattle.seq_run.specs.Lines.{refusal_line, AppendsPart}
use Rattle.seq_table.specs.Outputs.{Ending, done, def_threw, spent}
use Rattle.seq_table.specs.Answers as meaning
use Rattle.cljseq.specs.Answers.{MeansText, RefusesText, unread, no_program, refusal_at, status_of, request_as, Printed, PrintedPart, nothing, of_answer, of_run, IsAnswer, IsBook, IsEnd, Reads, IfKnown, status_at, cut_off, RanMade, IsMade}

-- ## What a text is

same_refusal : (q r : Refusal) → stop.Refused q ≡ stop.Refused r → q ≡ r
same_refusal q r e = (cc)

one_error : {X E : Type 0} (o : Result X E) (x y : E) → o ≡ Err x → o ≡ Err y → x ≡ y
one_error o x y e f = (cc)

not_memory : (r : Refusal) → stop.Memory ≡ stop.Refused r → ⊥
not_memory r e = (cc)

refused_same : (text : List ℕ) (q r : Refusal) → q ≡ r → RefusesText text (refusal_at q.number q.place) → RefusesText text (refusal_at r.number r.place)
refused_same text q r e a = subst (λ (s : Refusal). RefusesText text (refusal_at s.number s.place)) e a

pub unread_text : {X : Type 0} (text : List ℕ) (answer : Result (List Form) ReadFormsStop) (why : ReadFormsStop) (out : Result X ScriptStop) (s : ScriptStop) (r : Refusal)
    → answer ≡ Err why → ((q : ReadRefusal) → answer ≡ Err (read.Refused q) → IsRefused text q) → out ≡ Err s → s ≡ of_reader why → out ≡ Err (stop.Refused r)
    → RefusesText text (refusal_at r.number r.place)
unread_text text answer read.Memory out s r was refused e f g = absurd (not_memory r (sym f ∙ one_error out s (stop.Refused r) e g))
unread_text text answer (read.Refused q) out s r was refused e f g =
    refused_same text (record { number = q.number; place = q.place }) r (same_refusal _ r (sym f ∙ one_error out s (stop.Refused r) e g)) (unread q (refused q was))

pub no_program_text : {X : Type 0} (text : List ℕ) (forms : List Form) (answer : Result Compiled CompileStop) (why : CompileStop) (out : Result X ScriptStop) (s : ScriptStop) (r : Refusal)
    → IsScript text forms → answer ≡ Err why → ((q : ScriptRefusal) → answer ≡ Err (compiled.Refused q) → IsRefusal forms q) → out ≡ Err s → s ≡ of_compiler why → out ≡ Err (stop.Refused r)
    → RefusesText text (refusal_at r.number r.place)
no_program_text text forms answer compiled.Memory out s r script was refused e f g = absurd (not_memory r (sym f ∙ one_error out s (stop.Refused r) e g))
no_program_text text forms answer (compiled.Refused q) out s r script was refused e f g =
    refused_same text (record { number = q.number; place = q.place }) r (same_refusal _ r (sym f ∙ one_error out s (stop.Refused r) e g)) (no_program forms q script (refused q was))

too_long_text : (text front back : List ℕ) → text ≡ front ++ back → length front ≡ 1048577 → RefusesText text (refusal_at 6 start)
too_long_text text front back e long =
    let all : length text ≡ length front + length back = ap length e ∙ length-append front back in
    unread (refusal 6 start) (too_long (omega (arith, all, long)) refl)

-- ## Statuses

no_answer : (status : Status) → (status ≡ S.WriteFault) ⊎ (status ≡ S.NoMemory) → IsAnswer status → ⊥
no_answer status (inl e) (inl d) = (cc)
no_answer status (inl e) (inr (inl d)) = (cc)
no_answer status (inl e) (inr (inr (inl d))) = (cc)
no_answer status (inl e) (inr (inr (inr d))) = (cc)
no_answer status (inr e) (inl d) = (cc)
no_answer status (inr e) (inr (inl d)) = (cc)
no_answer status (inr e) (inr (inr (inl d))) = (cc)
no_answer status (inr e) (inr (inr (inr d))) = (cc)

not_end : (status : Status) → (status ≡ S.ScriptRefused) ⊎ (status ≡ S.WriteFault) ⊎ (status ≡ S.NoMemory) → IsEnd status → ⊥
not_end status (inl e) (inl d) = (cc)
not_end status (inl e) (inr (inl d)) = (cc)
not_end status (inl e) (inr (inr d)) = (cc)
not_end status (inr (inl e)) (inl d) = (cc)
not_end status (inr (inl e)) (inr (inl d)) = (cc)
not_end status (inr (inl e)) (inr (inr d)) = (cc)
not_end status (inr (inr e)) (inl d) = (cc)
not_end status (inr (inr e)) (inr (inl d)) = (cc)
not_end status (inr (inr e)) (inr (inr d)) = (cc)

pub faulty_words : (status : Status) (F : Type 0) → ((status ≡ S.Usage) × F) ⊎ (status ≡ S.NoMemory) → status ≡ S.Usage → F
faulty_words status F (inl p) e = p.1
faulty_words status F (inr q) e = absurd (cc)

-- ## A text that is looked at

pub check_printed : (options : Options) (text : List ℕ) (program : Program) (count : ℕ) (status : Status) (written : Result Unit WriteStop) (old new : Option (List ℕ)) → options.request ≡ R.Check → MeansText text program → count ≡ length program.tops
    → OnOk written (status ≡ S.Done) → (written ≡ Err Failed → status ≡ S.WriteFault) → (written ≡ Err Memory → status ≡ S.NoMemory) → OnOk written (Appends old new (meaning.forms_line count))
    → IsAnswer status → Printed options text status old new
check_printed options text program count status (Ok u) old new asks means many ended failed memory appended either =
    record { answer = meaning.ended done; output = meaning.forms_line (length program.tops); answered = meaning.looked_at (ap request_as asks) means; is = ended; appended = subst (λ n. Appends old new (meaning.forms_line n)) many appended }
check_printed options text program count status (Err Failed) old new asks means many ended failed memory appended either = absurd (no_answer status (inl (failed refl)) either)
check_printed options text program count status (Err Memory) old new asks means many ended failed memory appended either = absurd (no_answer status (inr (memory refl)) either)

pub check_part : (options : Options) (text : List ℕ) (program : Program) (count : ℕ) (old new : Option (List ℕ)) → options.request ≡ R.Check → MeansText text program → count ≡ length program.tops → AppendsPart old new (meaning.forms_line count) → PrintedPart options text old new
check_part options text program count old new asks means many part =
    of_answer (meaning.ended done) (meaning.forms_line (length program.tops)) (meaning.looked_at (ap request_as asks) means) (subst (λ n. AppendsPart old new (meaning.forms_line n)) many part)

-- ## A run

-- what is read and isn't looked at alone is run
pub runs_else : (r : Request) → Reads r → (r ≡ R.Check → ⊥) → r ≡ R.Run
runs_else R.Run reads other = refl
runs_else R.Check reads other = absurd (other refl)
runs_else (R.Generate n) reads other = absurd reads

pub run_printed : (options : Options) (text : List ℕ) (program : Program) (end : RunEnd) (status : Status) (old new : Option (List ℕ)) → options.request ≡ R.Run → MeansText text program → status ≡ status_at end → Wrote program options.limits end old new → IsAnswer status → Printed options text status old new
run_printed options text program End.Done status old new asks means e w either = record { answer = meaning.ended done; output = w.bytes; answered = meaning.was_run (ap request_as asks) means w.ran; is = e; appended = w.appended }
run_printed options text program End.DefThrew status old new asks means e w either = record { answer = meaning.ended def_threw; output = w.bytes; answered = meaning.was_run (ap request_as asks) means w.ran; is = e; appended = w.appended }
run_printed options text program End.CellsSpent status old new asks means e w either = record { answer = meaning.ended spent; output = w.bytes; answered = meaning.was_run (ap request_as asks) means w.ran; is = e; appended = w.appended }
run_printed options text program End.WriteFault status old new asks means e w either = absurd (no_answer status (inl e) either)
run_printed options text program End.NoMemory status old new asks means e w either = absurd (no_answer status (inr e) either)

pub run_part : (options : Options) (text : List ℕ) (program : Program) (old new : Option (List ℕ)) → options.request ≡ R.Run → MeansText text program → WrotePart program options.limits old new → PrintedPart options text old new
run_part options text program old new asks means w = of_run program w.bytes asks means w.part w.appended

done_end : (end : RunEnd) (status : Status) → status ≡ status_at end → end ≡ End.Done → status ≡ S.Done
done_end end status e q = e ∙ ap status_at q

done_status : (end : RunEnd) (status : Status) → status ≡ status_at end → status ≡ S.Done → end ≡ End.Done
done_status End.Done status e f = refl
done_status End.DefThrew status e f = absurd (cc)
done_status End.CellsSpent status e f = absurd (cc)
done_status End.WriteFault status e f = absurd (cc)
done_status End.NoMemory status e f = absurd (cc)

-- the book that is handed back is that of the run
pub run_book : (options : Options) (text : List ℕ) (program : Program) (end : RunEnd) (status : Status) (book : Option Account) → options.request ≡ R.Run → MeansText text program → status ≡ status_at end → IsRunBook program options.limits end book → IsBook options text status book
run_book options text program end status None asks means e b = λ run is. b (done_status end status e is)
run_book options text program end status (Some book) asks means e b = (asks, done_end end status e b.0, program, means, b.1)

pub no_run_book : (program : Program) (limits : Limits) (end : RunEnd) (status : Status) (book : Option Account) → status ≡ status_at end → IsRunBook program limits end book → (status ≡ S.Done → ⊥) → book ≡ None
no_run_book program limits end status None e b other = refl
no_run_book program limits end status (Some book) e b other = absurd (other (done_end end status e b.0))

pub write_fault : (end : RunEnd) (status : Status) → status ≡ status_at end → status ≡ S.WriteFault → end ≡ End.WriteFault
write_fault End.Done status e f = absurd (cc)
write_fault End.DefThrew status e f = absurd (cc)
write_fault End.CellsSpent status e f = absurd (cc)
write_fault End.WriteFault status e f = refl
write_fault End.NoMemory status e f = absurd (cc)

pub not_used : (end : RunEnd) (status : Status) → status ≡ status_at end → (status ≡ S.Usage → ⊥) × (status ≡ S.ReadFault → ⊥)
not_used End.Done status e = (λ f. (cc), λ f. (cc))
not_used End.DefThrew status e = (λ f. (cc), λ f. (cc))
not_used End.CellsSpent status e = (λ f. (cc), λ f. (cc))
not_used End.WriteFault status e = (λ f. (cc), λ f. (cc))
not_used End.NoMemory status e = (λ f. (cc), λ f. (cc))

-- ## A refusal

refused : (options : Options) (text : List ℕ) (r : meaning.Refusal) → (request : Request) → options.request ≡ request → Reads request → RefusesText text r → meaning.Answered MeansText RefusesText text (Some (record { request = request_as options.request; processors = options.limits.processors; cells = options.limits.cells; steps = options.limits.steps })) meaning.script_refused (meaning.refusal_line r)
refused options text r R.Run e reads was = meaning.refused_to_run (ap request_as e) was
refused options text r R.Check e reads was = meaning.refused_to_check (ap request_as e) was
refused options text r (R.Generate n) e reads was = absurd reads

pub refused_printed : (options : Options) (text : List ℕ) (number : ℕ) (place : Place) (status : Status) (old new : Option (List ℕ)) → Reads options.request → RefusesText text (refusal_at number place)
    → (status ≡ S.ScriptRefused) ⊎ (status ≡ S.WriteFault) ⊎ (status ≡ S.NoMemory) → (status ≡ S.ScriptRefused → Appends old new (refusal_line number place)) → IsAnswer status → Printed options text status old new
refused_printed options text number place status old new reads was (inl e) appended either = record { answer = meaning.script_refused; output = meaning.refusal_line (refusal_at number place); answered = refused options text (refusal_at number place) options.request refl reads was; is = e; appended = appended e }
refused_printed options text number place status old new reads was (inr (inl e)) appended either = absurd (no_answer status (inl e) either)
refused_printed options text number place status old new reads was (inr (inr e)) appended either = absurd (no_answer status (inr e) either)

pub refused_part : (options : Options) (text : List ℕ) (number : ℕ) (place : Place) (old new : Option (List ℕ)) → Reads options.request → RefusesText text (refusal_at number place) → AppendsPart old new (refusal_line number place) → PrintedPart options text old new
refused_part options text number place old new reads was part = of_answer meaning.script_refused (meaning.refusal_line (refusal_at number place)) (refused options text (refusal_at number place) options.request refl reads was) part

pub no_part : (options : Options) (text : List ℕ) (old : Option (List ℕ)) → PrintedPart options text old old
no_part options text old = nothing (known.Keeps-refl old)

-- ## What is left to read

pub known_text : (request : Request) (left : Option (List ℕ)) (P : List ℕ → Type 0) → Reads request → IfSome left P → IfKnown request left P
known_text R.Run left P reads h = h
known_text R.Check left P reads h = h
known_text (R.Generate n) left P reads h = absurd reads

pub made_known : (request : Request) (number : ℕ) (left : Option (List ℕ)) (P : List ℕ → Type 0) → request ≡ R.Generate number → ((text : List ℕ) → P text) → IfKnown request left P
made_known R.Run number left P e h = absurd (cc)
made_known R.Check number left P e h = absurd (cc)
made_known (R.Generate n) number left P e h = h

-- the text that was read to its end
pub whole_text : (a b : Option (List ℕ)) (text : List ℕ) (P : List ℕ → Type 0) → Consumes a b text → IsAtEnd b → P text → IfSome a P
whole_text None b text P c end h = tt
whole_text (Some all) None text P c end h = absurd c
whole_text (Some all) (Some back) text P c end h = subst P (sym (c ∙ (ap (λ z. text ++ z) end ∙ known_nil text))) h
  where
    known_nil : (t : List ℕ) → t ++ [] ≡ t
    known_nil [] = refl
    known_nil (x ∷ xs) = ap (λ z. x ∷ z) (known_nil xs)

-- more bytes than a script may have
pub too_long_known : (a b : Option (List ℕ)) (P : List ℕ → Type 0) → (front : List ℕ) × (length front ≡ 1048577) × Consumes a b front → ((text : List ℕ) → RefusesText text (refusal_at 6 start) → P text) → IfSome a P
too_long_known None b P f h = tt
too_long_known (Some text) None P f h = absurd f.2
too_long_known (Some text) (Some back) P f h = h text (too_long_text text f.0 back f.2 f.1)

-- ## A script that is made

nil_appended : (bytes new : List ℕ) → Appends (Some []) (Some new) bytes → new ≡ bytes
nil_appended bytes new a = a

pub ran_made : (program : Program) (limits : Limits) (end : RunEnd) (new : List ℕ) (status : Status) (text : List ℕ) → Wrote program limits end (Some []) (Some new) → false ≡ cut_off end → status ≡ status_at end → text ≡ meaning.summary (length program.tops) new → RanMade program limits status text
ran_made program limits End.Done new status text w c e told = record { ending = done; bytes = w.bytes; ran = w.ran; is = e; told = told ∙ ap (meaning.summary (length program.tops)) (nil_appended w.bytes new w.appended) }
ran_made program limits End.DefThrew new status text w c e told = record { ending = def_threw; bytes = w.bytes; ran = w.ran; is = e; told = told ∙ ap (meaning.summary (length program.tops)) (nil_appended w.bytes new w.appended) }
ran_made program limits End.CellsSpent new status text w c e told = record { ending = spent; bytes = w.bytes; ran = w.ran; is = e; told = told ∙ ap (meaning.summary (length program.tops)) (nil_appended w.bytes new w.appended) }
ran_made program limits End.WriteFault new status text w c e told = absurd (cc)
ran_made program limits End.NoMemory new status text w c e told = absurd (cc)

pub made_printed : (options : Options) (number : ℕ) (text told : List ℕ) (was status : Status) (written : Result Unit WriteStop) (old new : Option (List ℕ)) → options.request ≡ R.Generate number → IsMade number options.limits was told
    → OnOk written (status ≡ was) → (written ≡ Err Failed → status ≡ S.WriteFault) → (written ≡ Err Memory → status ≡ S.NoMemory) → OnOk written (Appends old new told) → IsAnswer status → Printed options text status old new
made_printed options number text told was status (Ok u) old new asks m same failed memory appended either =
    record { answer = meaning.ended m.made.ending; output = meaning.summary (length m.program.tops) m.made.bytes; answered = meaning.script_made (ap request_as asks) m.means m.made.ran; is = same ∙ m.made.is; appended = subst (Appends old new) m.made.told appended }
made_printed options number text told was status (Err Failed) old new asks m same failed memory appended either = absurd (no_answer status (inl (failed refl)) either)
made_printed options number text told was status (Err Memory) old new asks m same failed memory appended either = absurd (no_answer status (inr (memory refl)) either)

pub made_part : (options : Options) (number : ℕ) (text told : List ℕ) (was : Status) (old new : Option (List ℕ)) → options.request ≡ R.Generate number → IsMade number options.limits was told → AppendsPart old new told → PrintedPart options text old new
made_part options number text told was old new asks m part =
    of_answer (meaning.ended m.made.ending) (meaning.summary (length m.program.tops) m.made.bytes) (meaning.script_made (ap request_as asks) m.means m.made.ran) (subst (AppendsPart old new) m.made.told part)
