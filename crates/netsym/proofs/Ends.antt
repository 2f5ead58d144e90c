-- How a call of the program ends.
use Rattle.std.proofs.Common.{◌≡◌, inl, inr, ℕ, zero, suc, ◌+◌, ◌≤◌, ◌<◌, Bool, true, false, cond, List, [], Option, Some, None, Result, Ok, Err, refl, sym, ap, subst, ◌∙◌, ◌++◌, arith}
use Rattle.std.specs.Prelude.{OnOk, OnErr, is_ok, nat_eq, codes, decimal}
use Rattle.std.specs.Io.KnownBytes.{Appends, Keeps}
use Rattle.std.proofs.lemmas.Bool.{eqb-true}
use Rattle.std.proofs.lemmas.List.{append_assoc}
use Rattle.kn_io.specs.Reading.{TakesAtMost}
use Rattle.kn_io.specs.Writing.{TakesFront}
use Rattle.kn_model.specs.Nets.{Network}
use Rattle.kn_model.specs.Limits.{Limit, IsOverCopied}
use Rattle.kn_report.specs.declared.status.Status.{Status}
use Rattle.kn_report.specs.declared.status.Status.TheVariants as statuses
use Rattle.kn_report.specs.Texts.{reached_in, open_in}
use Rattle.kn_plan.specs.Files.{File}
use Rattle.kn_netfile.specs.Faults.{Fault}
use Rattle.kn_netfile.specs.Reading.{file_of}
use Rattle.netsym.specs.declared.answer.Unanswered.{Unanswered}
use Rattle.netsym.specs.declared.answer.Unanswered.TheVariants as unanswered
use Rattle.netsym.specs.Refusals.{IsAccepted, IsRefusal, SaysWhy, Tells, refusal_line}
use Rattle.kn_replay.specs.Views.{states_in}
use Rattle.kn_replay.specs.Texts.{failed_in}
use Rattle.kn_model.specs.Reports.{Report}
use Rattle.kn_report.specs.Statuses.{status_in}
use Rattle.kn_words.specs.declared.line.Line.{Line}
use Rattle.kn_words.specs.declared.line.Line.TheVariants as lines
use Rattle.kn_words.specs.Lines.{IsLine}
use Rattle.kn_make.specs.Making.{made}
use Rattle.kn_report.specs.Texts.{report_text}
use Rattle.netsym.specs.declared.command.Command.{Command}
use Rattle.netsym.specs.declared.command.Command.TheVariants as commands
use Rattle.netsym.specs.declared.command.Making.{Making}
use Rattle.netsym.specs.declared.command.Making.TheVariants as makings
use Rattle.netsym.specs.Runs.{AnswersMade, Ends, IsRight, IsRightFor, IsRightOnFile, IsRightOnNumber, IsWritten, IsReportOn, IsRunOn, IsTold, IsReplayed, IsEither, Reads, Answers, Explores, ExploresFile, Replays, limit, limit_line, line_of_making, memory_line}

pub written_by : {T E : Type 0} (taken taken' : Option (List ℕ)) (text : List ℕ) (verdict status : Status) (r : Result T E) → status ≡ cond (is_ok r) verdict statuses.WriteFault
    → OnOk r (Appends taken taken' text) → OnErr r ((rest : List ℕ) × TakesFront taken taken' text rest) → IsWritten taken taken' text verdict status
written_by taken taken' text verdict status (Ok x) is whole front = inl (is, whole)
written_by taken taken' text verdict status (Err e) is whole front = inr (is, front)

pub keeps_same : (a : Option (List ℕ)) → Keeps a a
keeps_same None = tt
keeps_same (Some xs) = refl

-- what was read to its end was taken
pub taken_whole : (left left' : Option (List ℕ)) (bytes : List ℕ) → Reads left left' bytes → TakesAtMost (limit + 1) left left'
taken_whole left left' bytes reads = (bytes, reads.all, (let fits = reads.fits in omega (arith, fits)))

-- the line of a refusal in the order in which it is written
pub line_joined : (number : ℕ) (place made placed whole : List ℕ) → made ≡ codes "netsym: refused F" ++ (decimal number ++ codes " ") → placed ≡ made ++ place → whole ≡ placed ++ codes "\n" → whole ≡ refusal_line number place
line_joined number place made placed whole m p w =
    let named = codes "netsym: refused F" in
    let apart = codes " " in
    let feed = codes "\n" in
    w
    ∙ (ap (λ (t : List ℕ). t ++ feed) (p ∙ ap (λ (t : List ℕ). t ++ place) m)
    ∙ (append_assoc (named ++ (decimal number ++ apart)) place feed
    ∙ (append_assoc named (decimal number ++ apart) (place ++ feed) ∙ ap (λ (t : List ℕ). named ++ t) (append_assoc (decimal number) apart (place ++ feed)))))

-- a refusal by the fault of the file
pub fault_why : (bytes : List ℕ) (e : Unanswered) (number : ℕ) (place : List ℕ) → Tells number place e → file_of bytes ≡ Err (record { number = number; place = place }) → SaysWhy bytes e
fault_why bytes (unanswered.Refused line) number place told is = subst (λ (r : Result File Fault). IsRefusal r line.items) (sym is) told
fault_why bytes (unanswered.Memory e) number place told is = tt

some : (n : ℕ) → nat_eq n 0 ≡ false → 1 ≤ n
some n e = elim (n) as (λ (m : ℕ). nat_eq m 0 ≡ false → 1 ≤ m) [ zero ↦ λ h. absurd cc | suc m ↦ λ h. omega arith ] e

-- the report on a network
told_explores : (form : Report → List ℕ) (net : Network) (status : Status) (text : List ℕ) → IsTold form net status text → Explores form net status text
told_explores form net status text told = subst (λ (s : Status). Explores form net s text) (sym told.status_is) (go (nat_eq (reached_in told.report) 0) refl (nat_eq (open_in told.report) 0) refl)
  where
    go : (b : Bool) → nat_eq (reached_in told.report) 0 ≡ b → (o : Bool) → nat_eq (open_in told.report) 0 ≡ o → Explores form net (cond b (cond o statuses.Clean statuses.Open) statuses.Found) text
    go true e true o = (told.report, told.on, eqb-true (reached_in told.report) 0 e, eqb-true (open_in told.report) 0 o)
    go true e false o = (told.report, told.on, eqb-true (reached_in told.report) 0 e, some (open_in told.report) o)
    go false e decided o = (told.report, told.on, some (reached_in told.report) e)

-- a limit that is passed, and the line that names it
pub limited_either : (form : Report → List ℕ) (net : Network) (kind : Limit) (tick : ℕ) (status : Status) (text : List ℕ) → (tick < net.limits.ticks) × IsOverCopied net tick kind → status ≡ statuses.Limit → text ≡ limit_line kind tick → IsEither form net status text
limited_either form net kind tick status text over limited is =
    inr (limited, record { passes = record { kind = kind; tick = tick; early = over.0; over = over.1 }; text_is = is })

-- what was told of a report
pub told_either : (form : Report → List ℕ) (net : Network) (report : Report) (status : Status) (text : List ℕ) → IsReportOn form net text report → status ≡ status_in report → IsEither form net status text
told_either form net report status text on is = inl (record { report = report; on = on; status_is = is })

-- a network is explored
pub either_explores : (form : Report → List ℕ) (net : Network) (status : Status) (text : List ℕ) → IsEither form net status text → Explores form net status text
either_explores form net status text (inl told) = told_explores form net status text told
either_explores form net status text (inr large) = subst (λ (s : Status). Explores form net s text) (sym large.0) large.1

-- what is right for the network of a file is right for its bytes
on_bytes : (bytes : List ℕ) (net : Network) (status : Status) (text : List ℕ) → IsAccepted bytes net → Explores report_text net status text → ExploresFile bytes status text
on_bytes bytes net statuses.Clean text accepted h = (net, accepted, h)
on_bytes bytes net statuses.Found text accepted h = (net, accepted, h)
on_bytes bytes net statuses.Open text accepted h = (net, accepted, h)
on_bytes bytes net statuses.Limit text accepted h = (net, accepted, h)
on_bytes bytes net statuses.Refused text accepted h = absurd h
on_bytes bytes net statuses.Usage text accepted h = absurd h
on_bytes bytes net statuses.ReadFault text accepted h = absurd h
on_bytes bytes net statuses.WriteFault text accepted h = absurd h
on_bytes bytes net statuses.Memory text accepted h = absurd h

-- the network of the file is explored
pub explored_answers : (bytes : List ℕ) (file : File) (status : Status) (text : List ℕ) → file_of bytes ≡ Ok file → IsEither report_text file.network status text → ExploresFile bytes status text
explored_answers bytes file status text given h = on_bytes bytes file.network status text (record { file = file; given = given; network = refl }) (either_explores report_text file.network status text h)

-- the network of the file is replayed
pub replayed_answers : (bytes : List ℕ) (file : File) (status : Status) (text : List ℕ) → file_of bytes ≡ Ok file → IsReplayed file status text → Replays bytes status text
replayed_answers bytes file status text given told = subst (λ (s : Status). Replays bytes s text) (sym told.status_is) (go (nat_eq failed 0) refl)
  where
    failed : ℕ
    failed = failed_in (states_in told.run.nodes)

    on : IsRunOn bytes text told.run
    on = record { file = file; given = given; is = told.is; text_is = told.text_is }

    go : (b : Bool) → nat_eq failed 0 ≡ b → Replays bytes (cond b statuses.Clean statuses.Found) text
    go true e = (told.run, on, eqb-true failed 0 e)
    go false e = (told.run, on, some failed e)

-- what is right for the bytes is right for the source that had them
pub right_by : (left left' : Option (List ℕ)) (command : Command) (bytes : List ℕ) (status : Status) (text : List ℕ) → Reads left left' bytes → Answers command bytes status text → IsRightOnFile command left left' status text
right_by left left' command bytes statuses.Clean text reads h = (bytes, reads, h)
right_by left left' command bytes statuses.Found text reads h = (bytes, reads, h)
right_by left left' command bytes statuses.Open text reads h = (bytes, reads, h)
right_by left left' command bytes statuses.Limit text reads h = (bytes, reads, h)
right_by left left' command bytes statuses.Usage text reads h = (bytes, reads, h)
right_by left left' command bytes statuses.WriteFault text reads h = (bytes, reads, h)
right_by left left' commands.Explore bytes statuses.Refused text reads h = inr (bytes, reads, h)
right_by left left' commands.Explore bytes statuses.ReadFault text reads h = absurd h.2
right_by left left' commands.Explore bytes statuses.Memory text reads h = absurd h.2
right_by left left' commands.Replay bytes statuses.Refused text reads h = inr (bytes, reads, h)
right_by left left' commands.Replay bytes statuses.ReadFault text reads h = absurd h
right_by left left' commands.Replay bytes statuses.Memory text reads h = absurd h

-- an answer on a file is no read fault
pub answer_is_no_fault : {P : Type 0} (command : Command) (bytes : List ℕ) (status : Status) (text : List ℕ) → status ≡ statuses.ReadFault → Answers command bytes status text → P
answer_is_no_fault {P} command bytes status text is h = go command (subst (λ (s : Status). Answers command bytes s text) is h)
  where
    go : (command : Command) → Answers command bytes statuses.ReadFault text → P
    go commands.Explore h = absurd h.2
    go commands.Replay h = absurd h

-- an answer on a network that was made is no want of memory, and no read fault
pub made_right : (making : Making) (number : ℕ) (status : Status) (text : List ℕ) → AnswersMade making number status text → IsRightOnNumber making number status text
made_right making number statuses.Clean text h = h
made_right making number statuses.Found text h = h
made_right making number statuses.Open text h = h
made_right making number statuses.Limit text h = h
made_right making number statuses.Usage text h = h
made_right making number statuses.Refused text h = h
made_right making number statuses.ReadFault text h = h
made_right making number statuses.WriteFault text h = h
made_right makings.Explore number statuses.Memory text h = absurd h
made_right makings.Print number statuses.Memory text h = absurd h

pub made_is_no_fault : {P : Type 0} (making : Making) (number : ℕ) (status : Status) (text : List ℕ) → status ≡ statuses.ReadFault → AnswersMade making number status text → P
made_is_no_fault {P} making number status text is h = go making (subst (λ (s : Status). AnswersMade making number s text) is h)
  where
    go : (making : Making) → AnswersMade making number statuses.ReadFault text → P
    go makings.Explore h = absurd h
    go makings.Print h = absurd h

-- what ends rightly in one sense ends so in a weaker one
pub ends_weaker : {Right Wider : Status → List ℕ → Type 0} {faults faults' : ℕ} {taken taken' : Option (List ℕ)} {status : Status} → ((s : Status) (text : List ℕ) → Right s text → Wider s text) → Ends Right faults faults' taken taken' status → Ends Wider faults faults' taken taken' status
ends_weaker wider e = record { verdict = e.verdict; text = e.text; right = wider e.verdict e.text e.right; cause = e.cause; written = e.written }

-- what is right for a command line of these words is right for the words
pub right_for : (words : List (List ℕ)) (left left' : Option (List ℕ)) (line : Line) → IsLine line words → (status : Status) (text : List ℕ) → IsRightFor line left left' status text → IsRight words left left' status text
right_for words left left' line is statuses.Clean text h = (line, is, h)
right_for words left left' line is statuses.Found text h = (line, is, h)
right_for words left left' line is statuses.Open text h = (line, is, h)
right_for words left left' line is statuses.Limit text h = (line, is, h)
right_for words left left' line is statuses.Refused text h = (line, is, h)
right_for words left left' line is statuses.ReadFault text h = (line, is, h)
right_for words left left' line is statuses.WriteFault text h = (line, is, h)
right_for words left left' line is statuses.Memory text h = (line, is, h)
right_for words left left' lines.Explore is statuses.Usage text h = absurd h.2.2
right_for words left left' lines.Replay is statuses.Usage text h = absurd h.2
right_for words left left' (lines.ExploreMade number) is statuses.Usage text h = absurd h.1
right_for words left left' (lines.Make number) is statuses.Usage text h = absurd h.1

taken_none : (a : Option (List ℕ)) (most : ℕ) → TakesAtMost most a a
taken_none None most = ([], tt, omega arith)
taken_none (Some xs) most = ([], refl, omega arith)

-- want of memory before anything was asked of the source
pub memory_for : (line : Line) (left : Option (List ℕ)) → IsRightFor line left left statuses.Memory memory_line
memory_for lines.Explore left = (taken_none left (limit + 1), refl)
memory_for lines.Replay left = (taken_none left (limit + 1), refl)
memory_for (lines.ExploreMade number) left = (keeps_same left, refl)
memory_for (lines.Make number) left = (keeps_same left, refl)

-- a command over a network that is made never ends with a read fault
pub made_reads_nothing : {P : Type 0} (making : Making) (number : ℕ) {faults faults' : ℕ} {taken taken' : Option (List ℕ)} {status : Status} → Ends (IsRightOnNumber making number) faults faults' taken taken' status → status ≡ statuses.ReadFault → P
made_reads_nothing {P} making number {status} e is = elim e.written [
  | inl h ↦ go making (subst (λ (v : Status). IsRightOnNumber making number v e.text) (sym h.0 ∙ is) e.right)
  | inr h ↦ absurd (let wrong : statuses.WriteFault ≡ statuses.ReadFault = sym h.0 ∙ is in cc)
]
  where
    go : (m : Making) → IsRightOnNumber m number statuses.ReadFault e.text → P
    go makings.Explore h = absurd h
    go makings.Print h = absurd h

-- what comes of a made network, where nothing is asked of the source
pub ends_made : (making : Making) (number : ℕ) (left : Option (List ℕ)) {faults faults' : ℕ} {taken taken' : Option (List ℕ)} {status : Status} → Ends (IsRightOnNumber making number) faults faults' taken taken' status → Ends (IsRightFor (line_of_making making number) left left) faults faults' taken taken' status
ends_made makings.Explore number left e = ends_weaker (λ s text h. (keeps_same left, h)) e
ends_made makings.Print number left e = ends_weaker (λ s text h. (keeps_same left, h)) e
