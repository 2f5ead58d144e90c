-- From what a call does follows exactly when each status comes.
use Rattle.std.proofs.Common.{◌≡◌, ◌⊎◌, inl, inr, ℕ, ◌+◌, ◌≤◌, List, ◌++◌, length, Option, Some, None, Result, Ok, refl, sym, ap, subst, ◌∙◌, arith}
use Rattle.std.specs.Io.KnownBytes.{Consumes, IsAtEnd}
use Rattle.std.proofs.lemmas.List.{append-nil, length-append}
use Rattle.kn_model.specs.Nets.{Network}
use Rattle.kn_report.specs.declared.status.Status.{Status}
use Rattle.kn_report.specs.declared.status.Status.TheVariants as statuses
use Rattle.kn_plan.specs.Files.{File}
use Rattle.kn_netfile.specs.Faults.{Fault}
use Rattle.kn_netfile.specs.Reading.{file_of}
use Rattle.netsym.specs.Refusals.{IsAccepted, IsRefusal}
use Rattle.netsym.specs.declared.command.Command.{Command}
use Rattle.netsym.specs.declared.command.Command.TheVariants as commands
use Rattle.kn_words.specs.declared.line.Line.{Line}
use Rattle.kn_words.specs.Lines.{IsLine, IsCommandLine}
use Rattle.kn_words.specs.Laws.{OneLine}
use Rattle.kn_make.specs.Making.{made}
use Rattle.netsym.specs.declared.command.Making.{Making}
use Rattle.netsym.specs.declared.command.Making.TheVariants as makings
use Rattle.netsym.specs.Runs.{IsRight, IsRightFor, IsRightOnFile, IsRightOnNumber, PassesLimit, Reads, Runs, Answers, limit, line_for, line_of_making}
use Rattle.netsym.specs.Exact.{EndsAs, IsUsage, IsHindered, IsStopped, IsPrinted, IsDescribed, IsTooLarge, IsExact, IsExactMade}

-- bytes are a file of one network alone
one_network : (bytes : List ℕ) (net other : Network) → IsAccepted bytes net → IsAccepted bytes other → net ≡ other
one_network bytes net other a b =
    let same : Ok a.file ≡ Ok b.file = sym a.given ∙ b.given in
    let file : a.file ≡ b.file = cc in
    sym a.network ∙ (ap (λ (f : File). f.network) file ∙ b.network)

-- what is accepted is not refused
not_both : (bytes : List ℕ) (net : Network) (text : List ℕ) → IsAccepted bytes net → IsRefusal (file_of bytes) text → ⊥
not_both bytes net text a r = subst (λ (f : Result File Fault). IsRefusal f text) a.given r

-- what was read to the end of a source that holds these bytes is these bytes
read_is : (left' : Option (List ℕ)) (bytes read : List ℕ) → Consumes (Some bytes) left' read → IsAtEnd left' → read ≡ bytes
read_is None bytes read c e = absurd c
read_is (Some rest) bytes read c e = sym (c ∙ (ap (λ (l : List ℕ). read ++ l) e ∙ append-nil read))

-- no more can be taken than is there
too_many : (left' : Option (List ℕ)) (bytes taken : List ℕ) → Consumes (Some bytes) left' taken → length taken ≤ length bytes
too_many None bytes taken c = absurd c
too_many (Some rest) bytes taken c = let same : length bytes ≡ length taken + length rest = ap length c ∙ length-append taken rest in omega (arith, same)

status_is : (P : Status → Type 0) (words : List (List ℕ)) (left left' : Option (List ℕ)) (faults faults' : ℕ) (taken taken' : Option (List ℕ)) (status : Status) → (run : Runs words left left' faults faults' taken taken' status) → P run.verdict → P statuses.WriteFault → P status
status_is P words left left' faults faults' taken taken' status run right fault = elim run.written [ inl h ↦ subst P (sym h.0) right | inr h ↦ subst P (sym h.0) fault ]

pub usage_exactly : (words : List (List ℕ)) (left left' : Option (List ℕ)) (faults faults' : ℕ) (taken taken' : Option (List ℕ)) (status : Status) → Runs words left left' faults faults' taken taken' status → IsUsage words status
usage_exactly words left left' faults faults' taken taken' status run = record {
  only = λ is. elim run.written [ inl h ↦ (subst (λ (v : Status). IsRight words left left' v run.text) (sym h.0 ∙ is) run.right).0 | inr h ↦ absurd (let wrong : statuses.WriteFault ≡ statuses.Usage = sym h.0 ∙ is in cc) ];
  always = λ none. status_is (λ s. EndsAs s statuses.Usage) words left left' faults faults' taken taken' status run (only_usage run.verdict run.text none run.right) (inr refl);
}
  where
    only_usage : (v : Status) (text : List ℕ) → (IsCommandLine words → ⊥) → IsRight words left left' v text → EndsAs v statuses.Usage
    only_usage statuses.Usage text none r = inl refl
    only_usage statuses.Clean text none r = absurd (none (r.0, r.1))
    only_usage statuses.Found text none r = absurd (none (r.0, r.1))
    only_usage statuses.Open text none r = absurd (none (r.0, r.1))
    only_usage statuses.Refused text none r = absurd (none (r.0, r.1))
    only_usage statuses.ReadFault text none r = absurd (none (r.0, r.1))
    only_usage statuses.WriteFault text none r = absurd (none (r.0, r.1))
    only_usage statuses.Memory text none r = absurd (none (r.0, r.1))
    only_usage statuses.Limit text none r = absurd (none (r.0, r.1))

-- what is right for the words of a command line is right for this line
right_on : OneLine → (words : List (List ℕ)) (left left' : Option (List ℕ)) (line : Line) → IsLine line words → (v : Status) (text : List ℕ) → IsRight words left left' v text → IsRightFor line left left' v text
right_on one_line words left left' line is statuses.Usage text r = absurd (r.0 (line, is))
right_on one_line words left left' line is statuses.Clean text r = subst (λ (l : Line). IsRightFor l left left' statuses.Clean text) (one_line r.0 line words r.1 is) r.2
right_on one_line words left left' line is statuses.Found text r = subst (λ (l : Line). IsRightFor l left left' statuses.Found text) (one_line r.0 line words r.1 is) r.2
right_on one_line words left left' line is statuses.Open text r = subst (λ (l : Line). IsRightFor l left left' statuses.Open text) (one_line r.0 line words r.1 is) r.2
right_on one_line words left left' line is statuses.Refused text r = subst (λ (l : Line). IsRightFor l left left' statuses.Refused text) (one_line r.0 line words r.1 is) r.2
right_on one_line words left left' line is statuses.ReadFault text r = subst (λ (l : Line). IsRightFor l left left' statuses.ReadFault text) (one_line r.0 line words r.1 is) r.2
right_on one_line words left left' line is statuses.WriteFault text r = subst (λ (l : Line). IsRightFor l left left' statuses.WriteFault text) (one_line r.0 line words r.1 is) r.2
right_on one_line words left left' line is statuses.Memory text r = subst (λ (l : Line). IsRightFor l left left' statuses.Memory text) (one_line r.0 line words r.1 is) r.2
right_on one_line words left left' line is statuses.Limit text r = subst (λ (l : Line). IsRightFor l left left' statuses.Limit text) (one_line r.0 line words r.1 is) r.2

file_right : (command : Command) (left left' : Option (List ℕ)) (v : Status) (text : List ℕ) → IsRightFor (line_for command) left left' v text → IsRightOnFile command left left' v text
file_right commands.Explore left left' v text r = r
file_right commands.Replay left left' v text r = r

number_right : (making : Making) (number : ℕ) (left left' : Option (List ℕ)) (v : Status) (text : List ℕ) → IsRightFor (line_of_making making number) left left' v text → IsRightOnNumber making number v text
number_right makings.Explore number left left' v text r = r.1
number_right makings.Print number left left' v text r = r.1

module _ (words : List (List ℕ)) (left left' : Option (List ℕ)) (faults faults' : ℕ) (taken taken' : Option (List ℕ)) (status : Status) (run : Runs words left left' faults faults' taken taken' status) (command : Command) (one : OneLine) (is : IsLine (line_for command) words) (bytes : List ℕ) (holds : left ≡ Some bytes) where
  right_here : (v : Status) (text : List ℕ) → IsRight words left left' v text → IsRightOnFile command left left' v text
  right_here v text r = file_right command left left' v text (right_on one words left left' (line_for command) is v text r)

  described_by : (read : List ℕ) → Reads left left' read → (net : Network) → IsAccepted read net → IsDescribed bytes
  described_by read reads net accepted =
      let same = read_is left' bytes read (subst (λ (l : Option (List ℕ)). Consumes l left' read) holds reads.all) reads.end in
      (subst (λ (l : List ℕ). length l ≤ limit) same reads.fits, net, subst (λ (l : List ℕ). IsAccepted l net) same accepted)

  -- the network of a file that was run on its inputs
  described_run : (read : List ℕ) → Reads left left' read → (file : File) → file_of read ≡ Ok file → IsDescribed bytes
  described_run read reads file given = described_by read reads file.network (record { file = file; given = given; network = refl })

  clean_described : (c : Command) (read text : List ℕ) → Reads left left' read → Answers c read statuses.Clean text → IsDescribed bytes
  clean_described commands.Explore read text reads h = described_by read reads h.0 h.1
  clean_described commands.Replay read text reads h = described_run read reads h.1.file h.1.given

  found_described : (c : Command) (read text : List ℕ) → Reads left left' read → Answers c read statuses.Found text → IsDescribed bytes
  found_described commands.Explore read text reads h = described_by read reads h.0 h.1
  found_described commands.Replay read text reads h = described_run read reads h.1.file h.1.given

  open_described : (c : Command) (read text : List ℕ) → Reads left left' read → Answers c read statuses.Open text → IsDescribed bytes
  open_described commands.Explore read text reads h = described_by read reads h.0 h.1
  open_described commands.Replay read text reads h = absurd h

  -- a report or a run that is printed is on what the bytes describe
  verdict_printed : (v : Status) (text : List ℕ) → IsRightOnFile command left left' v text → IsPrinted v → IsDescribed bytes
  verdict_printed statuses.Clean text r p = clean_described command r.0 text r.1 r.2
  verdict_printed statuses.Found text r p = found_described command r.0 text r.1 r.2
  verdict_printed statuses.Open text r p = open_described command r.0 text r.1 r.2
  verdict_printed statuses.Usage text r p = absurd p
  verdict_printed statuses.Refused text r p = absurd p
  verdict_printed statuses.ReadFault text r p = absurd p
  verdict_printed statuses.WriteFault text r p = absurd p
  verdict_printed statuses.Memory text r p = absurd p
  verdict_printed statuses.Limit text r p = absurd p

  -- a limit is passed by what the bytes describe
  large_by : (c : Command) (read text : List ℕ) → Reads left left' read → Answers c read statuses.Limit text → (c ≡ commands.Explore) × IsTooLarge bytes
  unfolding described_by
  large_by commands.Explore read text reads h =
      let described = described_by read reads h.0 h.1 in
      (refl, record { fits = described.0; net = described.1; accepted = described.2; passes = h.2.passes })
  large_by commands.Replay read text reads h = absurd h

  verdict_limited : (text : List ℕ) → IsRightOnFile command left left' statuses.Limit text → (command ≡ commands.Explore) × IsTooLarge bytes
  verdict_limited text r = large_by command r.0 text r.1 r.2

  -- refused bytes describe nothing
  verdict_refused : (text : List ℕ) → IsRightOnFile command left left' statuses.Refused text → IsDescribed bytes → ⊥
  verdict_refused text r described =
      elim r [
        | inl long ↦
            let most = too_many left' bytes long.0.0 (subst (λ (l : Option (List ℕ)). Consumes l left' long.0.0) holds long.0.1) in
            let fits = described.0 in
            let many = long.0.2 in
            omega (arith, most, many, fits)
        | inr read ↦
            let same = read_is left' bytes read.0 (subst (λ (l : Option (List ℕ)). Consumes l left' read.0) holds read.1.all) read.1.end in
            not_both bytes described.1 text described.2 (subst (λ (l : List ℕ). IsRefusal (file_of l) text) same read.2)
      ]

  never : {P : Type 0} (c : Command) (read text : List ℕ) → Answers c read statuses.Usage text ⊎ Answers c read statuses.WriteFault text → P
  never commands.Explore read text (inl h) = absurd h.2
  never commands.Explore read text (inr h) = absurd h.2
  never commands.Replay read text (inl h) = absurd h
  never commands.Replay read text (inr h) = absurd h

  verdict_prints : (v : Status) (text : List ℕ) → IsRightOnFile command left left' v text → IsDescribed bytes → IsPrinted v ⊎ ((v ≡ statuses.Limit) ⊎ IsHindered v)
  verdict_prints statuses.Clean text r d = inl tt
  verdict_prints statuses.Found text r d = inl tt
  verdict_prints statuses.Open text r d = inl tt
  verdict_prints statuses.Usage text r d = never command r.0 text (inl r.2)
  verdict_prints statuses.Refused text r d = absurd (verdict_refused text r d)
  verdict_prints statuses.ReadFault text r d = inr (inr tt)
  verdict_prints statuses.WriteFault text r d = inr (inr tt)
  verdict_prints statuses.Memory text r d = inr (inr tt)
  verdict_prints statuses.Limit text r d = inr (inl refl)

  verdict_refuses : (v : Status) (text : List ℕ) → IsRightOnFile command left left' v text → (IsDescribed bytes → ⊥) → (v ≡ statuses.Refused) ⊎ IsHindered v
  verdict_refuses statuses.Clean text r none = absurd (none (verdict_printed statuses.Clean text r tt))
  verdict_refuses statuses.Found text r none = absurd (none (verdict_printed statuses.Found text r tt))
  verdict_refuses statuses.Open text r none = absurd (none (verdict_printed statuses.Open text r tt))
  verdict_refuses statuses.Usage text r none = never command r.0 text (inl r.2)
  verdict_refuses statuses.Refused text r none = inl refl
  verdict_refuses statuses.ReadFault text r none = inr tt
  verdict_refuses statuses.WriteFault text r none = inr tt
  verdict_refuses statuses.Memory text r none = inr tt
  verdict_refuses statuses.Limit text r none = absurd (none (let large = (verdict_limited text r).1 in (large.fits, large.net, large.accepted)))

  -- a limit is answered only where one is passed
  limit_answered : status ≡ statuses.Limit → (command ≡ commands.Explore) × IsTooLarge bytes
  limit_answered ends = elim run.written [
    | inl h ↦ verdict_limited run.text (subst (λ (v : Status). IsRightOnFile command left left' v run.text) (sym h.0 ∙ ends) (right_here run.verdict run.text run.right))
    | inr h ↦ absurd (let wrong : statuses.WriteFault ≡ statuses.Limit = sym h.0 ∙ ends in cc)
  ]

  report_or_limit : IsDescribed bytes → IsPrinted status ⊎ ((status ≡ statuses.Limit) ⊎ IsHindered status)
  report_or_limit d = status_is (λ s. IsPrinted s ⊎ ((s ≡ statuses.Limit) ⊎ IsHindered s)) words left left' faults faults' taken taken' status run (verdict_prints run.verdict run.text (right_here run.verdict run.text run.right) d) (inr (inr tt))

  -- where the network that is described passes no limit, none is answered
  within : (net : Network) → IsAccepted bytes net → (command ≡ commands.Explore → PassesLimit net → ⊥) → IsPrinted status ⊎ ((status ≡ statuses.Limit) ⊎ IsHindered status) → IsPrinted status ⊎ IsHindered status
  within net accepted none (inl p) = inl p
  within net accepted none (inr (inr h)) = inr h
  within net accepted none (inr (inl ends)) =
      let limited = limit_answered ends in
      let large = limited.1 in
      absurd (none limited.0 (subst PassesLimit (one_network bytes large.net net large.accepted accepted) large.passes))

  pub exact_by : IsExact command bytes status
  exact_by = record {
    refused = λ ends. elim run.written [
      | inl h ↦ verdict_refused run.text (subst (λ (v : Status). IsRightOnFile command left left' v run.text) (sym h.0 ∙ ends) (right_here run.verdict run.text run.right))
      | inr h ↦ absurd (let wrong : statuses.WriteFault ≡ statuses.Refused = sym h.0 ∙ ends in cc)
    ];
    printed = λ p. elim run.written [
      | inl h ↦ verdict_printed run.verdict run.text (right_here run.verdict run.text run.right) (subst IsPrinted h.0 p)
      | inr h ↦ absurd (subst IsPrinted h.0 p)
    ];
    limited = limit_answered;
    refuses = λ none. status_is (λ s. (s ≡ statuses.Refused) ⊎ IsHindered s) words left left' faults faults' taken taken' status run (verdict_refuses run.verdict run.text (right_here run.verdict run.text run.right) none) (inr tt);
    prints = report_or_limit;
    prints_within = λ fits net accepted none. within net accepted none (report_or_limit (fits, net, accepted));
  }

module _ (words : List (List ℕ)) (left left' : Option (List ℕ)) (faults faults' : ℕ) (taken taken' : Option (List ℕ)) (status : Status) (run : Runs words left left' faults faults' taken taken' status) (making : Making) (number : ℕ) (one : OneLine) (is : IsLine (line_of_making making number) words) where
  right_there : (v : Status) (text : List ℕ) → IsRight words left left' v text → IsRightOnNumber making number v text
  right_there v text r = number_right making number left left' v text (right_on one words left left' (line_of_making making number) is v text r)

  made_limited : (m : Making) (text : List ℕ) → IsRightOnNumber m number statuses.Limit text → (m ≡ makings.Explore) × PassesLimit (made number).network
  made_limited makings.Explore text r = (refl, r.passes)
  made_limited makings.Print text r = absurd r

  made_prints : (m : Making) (v : Status) (text : List ℕ) → IsRightOnNumber m number v text → IsPrinted v ⊎ ((v ≡ statuses.Limit) ⊎ IsStopped v)
  made_prints m statuses.Clean text r = inl tt
  made_prints m statuses.Found text r = inl tt
  made_prints m statuses.Open text r = inl tt
  made_prints m statuses.Limit text r = inr (inl refl)
  made_prints m statuses.Memory text r = inr (inr tt)
  made_prints m statuses.WriteFault text r = inr (inr tt)
  made_prints makings.Explore statuses.Usage text r = absurd r
  made_prints makings.Print statuses.Usage text r = absurd r
  made_prints makings.Explore statuses.Refused text r = absurd r
  made_prints makings.Print statuses.Refused text r = absurd r
  made_prints makings.Explore statuses.ReadFault text r = absurd r
  made_prints makings.Print statuses.ReadFault text r = absurd r

  made_clean : (m : Making) (v : Status) (text : List ℕ) → IsRightOnNumber m number v text → m ≡ makings.Print → (v ≡ statuses.Clean) ⊎ IsStopped v
  made_clean m statuses.Clean text r p = inl refl
  made_clean m statuses.Memory text r p = inr tt
  made_clean m statuses.WriteFault text r p = inr tt
  made_clean makings.Print statuses.Found text r p = absurd r
  made_clean makings.Print statuses.Open text r p = absurd r
  made_clean makings.Print statuses.Limit text r p = absurd r
  made_clean makings.Print statuses.Usage text r p = absurd r
  made_clean makings.Print statuses.Refused text r p = absurd r
  made_clean makings.Print statuses.ReadFault text r p = absurd r
  made_clean makings.Explore v text r p = absurd cc

  number_limit : status ≡ statuses.Limit → (making ≡ makings.Explore) × PassesLimit (made number).network
  number_limit ends = elim run.written [
    | inl h ↦ made_limited making run.text (subst (λ (v : Status). IsRightOnNumber making number v run.text) (sym h.0 ∙ ends) (right_there run.verdict run.text run.right))
    | inr h ↦ absurd (let wrong : statuses.WriteFault ≡ statuses.Limit = sym h.0 ∙ ends in cc)
  ]

  number_prints : IsPrinted status ⊎ ((status ≡ statuses.Limit) ⊎ IsStopped status)
  number_prints = status_is (λ s. IsPrinted s ⊎ ((s ≡ statuses.Limit) ⊎ IsStopped s)) words left left' faults faults' taken taken' status run (made_prints making run.verdict run.text (right_there run.verdict run.text run.right)) (inr (inr tt))

  number_within : (making ≡ makings.Explore → PassesLimit (made number).network → ⊥) → IsPrinted status ⊎ ((status ≡ statuses.Limit) ⊎ IsStopped status) → IsPrinted status ⊎ IsStopped status
  number_within none (inl p) = inl p
  number_within none (inr (inr h)) = inr h
  number_within none (inr (inl ends)) = let limited = number_limit ends in absurd (none limited.0 limited.1)

  pub made_by : IsExactMade making number status
  made_by = record {
    limited = number_limit;
    prints = number_prints;
    prints_within = λ none. number_within none number_prints;
    prints_file = λ p. status_is (λ s. (s ≡ statuses.Clean) ⊎ IsStopped s) words left left' faults faults' taken taken' status run (made_clean making run.verdict run.text (right_there run.verdict run.text run.right) p) (inr tt);
  }
