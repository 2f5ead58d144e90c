-- What a call of the program does.
use Rattle.std.specs.Prelude.{◌≡◌, ◌⊎◌, ◌≤◌, ◌<◌, ℕ, ◌+◌, List, ◌++◌, length, codes, decimal, nat_eq, if◌then◌else◌, Ok}
use Rattle.std.specs.declared.option.Option.{Option}
use Rattle.std.specs.Io.KnownBytes.{Appends, Consumes, Keeps, IsAtEnd}
use Rattle.kn_io.specs.Causes.{Rose}
use Rattle.kn_io.specs.Reading.{TakesExactly, TakesAtMost}
use Rattle.kn_io.specs.Writing.{TakesFront}
use Rattle.kn_model.specs.Nets.{Network}
use Rattle.kn_model.specs.Reports.{Report, Cob, Gives}
use Rattle.kn_model.specs.Limits.{Limit, States, Dstates, IsOverCopied}
use Rattle.kn_report.specs.Texts.{report_text, summary_text, reached_in, open_in}
use Rattle.kn_report.specs.Statuses.{status_in}
use Rattle.kn_netfile.specs.Reading.{file_of}
use Rattle.kn_plan.specs.Files.{File}
use Rattle.kn_replay.specs.Views.{RunView, states_in}
use Rattle.kn_replay.specs.Runs.{IsReplay}
use Rattle.kn_replay.specs.Texts.{failed_in, replay_text}
use Rattle.netsym.specs.Refusals.{IsAccepted, IsRefusal}
use Rattle.kn_words.specs.declared.line.Line.{Line}
use Rattle.kn_words.specs.declared.line.Line.TheVariants as lines
use Rattle.kn_words.specs.Lines.{IsLine, IsCommandLine}
use Rattle.kn_make.specs.Making.{made}
use Rattle.kn_netfile.specs.Printing.{file_text}
use Rattle.netsym.specs.declared.command.Command.{Command}
use Rattle.netsym.specs.declared.command.Command.TheVariants as commands
use Rattle.netsym.specs.declared.command.Making.{Making}
use Rattle.netsym.specs.declared.command.Making.TheVariants as makings
use Rattle.kn_report.specs.declared.status.Status.{Status}
use Rattle.kn_report.specs.declared.status.Status.TheVariants as statuses

-- the command line of each command over the network of a file
abbrev pub line_for : Command → Line
line_for commands.Explore = lines.Explore
line_for commands.Replay = lines.Replay

-- the command line of each command over the network that the generator makes of a number
abbrev pub line_of_making : Making → ℕ → Line
line_of_making makings.Explore number = lines.ExploreMade number
line_of_making makings.Print number = lines.Make number

-- the most bytes of a file
abbrev pub limit : ℕ
limit = 1048576

-- all bytes of the source, up to its end, and no more than the limit
pub record Reads (left left' : Option (List ℕ)) (bytes : List ℕ) : Type 0 where
  pub all : Consumes left left' bytes
  pub end : IsAtEnd left'
  pub fits : length bytes ≤ limit

-- The text is that of a report on the network: what copying the whole network at every branch gives, as the form writes it.
-- It has no more dstates than the network's limit.
pub record IsReportOn (form : Report → List ℕ) (net : Network) (text : List ℕ) (r : Report) : Type 0 where
  pub given : Gives r net
  pub mapping : r.mapping ≡ Cob
  pub within : length r.dstates ≤ net.limits.dstates
  pub text_is : text ≡ form r

-- the same, and the status is the report's
pub record IsTold (form : Report → List ℕ) (net : Network) (status : Status) (text : List ℕ) : Type 0 where
  pub report : Report
  pub on : IsReportOn form net text report
  pub status_is : status ≡ status_in report

abbrev pub usage_line : List ℕ
usage_line = codes "netsym: not a command line\n"

abbrev pub too_long_line : List ℕ
too_long_line = codes "netsym: refused F1 -\n"

abbrev pub read_fault_line : List ℕ
read_fault_line = codes "netsym: read fault\n"

abbrev pub memory_line : List ℕ
memory_line = codes "netsym: out of memory\n"

-- what is limited, by its name in the text
abbrev pub limit_name : Limit → List ℕ
limit_name States = codes "states"
limit_name Dstates = codes "dstates"

abbrev pub limit_line : Limit → ℕ → List ℕ
limit_line kind tick = codes "netsym: limit " ++ (limit_name kind ++ (codes " tick " ++ (decimal tick ++ codes "\n")))

-- in one of its ticks, copying the whole network at every branch passes a limit
pub record PassesLimit (net : Network) : Type 0 where
  pub kind : Limit
  pub tick : ℕ
  pub early : tick < net.limits.ticks
  pub over : IsOverCopied net tick kind

-- the text names a limit that the network passes, and the tick
pub record IsLimited (net : Network) (text : List ℕ) : Type 0 where
  pub passes : PassesLimit net
  pub text_is : text ≡ limit_line passes.kind passes.tick

-- what is right on a network: a report, or a limit that it passes
abbrev pub IsEither : (Report → List ℕ) → Network → Status → List ℕ → Type 0
IsEither form net status text = IsTold form net status text ⊎ ((status ≡ statuses.Limit) × IsLimited net text)

-- the text is that of the run of a file's network on the file's inputs, and the status tells whether a node failed
pub record IsReplayed (file : File) (status : Status) (text : List ℕ) : Type 0 where
  pub run : RunView
  pub is : IsReplay file.network file.inputs run
  pub status_is : status ≡ (if nat_eq (failed_in (states_in run.nodes)) 0 then statuses.Clean else statuses.Found)
  pub text_is : text ≡ replay_text file.network run.events (states_in run.nodes)

-- The text is that of the run of the file's network on the file's inputs.
pub record IsRunOn (bytes : List ℕ) (text : List ℕ) (run : RunView) : Type 0 where
  pub file : File
  pub given : file_of bytes ≡ Ok file
  pub is : IsReplay file.network file.inputs run
  pub text_is : text ≡ replay_text file.network run.events (states_in run.nodes)

-- The status and the text that are right for a network that is explored: nothing is reached and nothing open, or a failure
-- is reached, or none is and something is open; or the network passes a limit.
abbrev pub Explores : (Report → List ℕ) → Network → Status → List ℕ → Type 0
Explores form net statuses.Clean text = (r : Report) × IsReportOn form net text r × (reached_in r ≡ 0) × (open_in r ≡ 0)
Explores form net statuses.Found text = (r : Report) × IsReportOn form net text r × (1 ≤ reached_in r)
Explores form net statuses.Open text = (r : Report) × IsReportOn form net text r × (reached_in r ≡ 0) × (1 ≤ open_in r)
Explores form net statuses.Limit text = IsLimited net text
Explores form net other text = ⊥

-- The same for some bytes: what is right for the network that they describe, or they are refused.
abbrev pub ExploresFile : List ℕ → Status → List ℕ → Type 0
ExploresFile bytes statuses.Refused text = IsRefusal (file_of bytes) text
ExploresFile bytes status text = (net : Network) × IsAccepted bytes net × Explores report_text net status text

-- The same where they are replayed: no node failed, or some did; or the bytes are refused.
abbrev pub Replays : List ℕ → Status → List ℕ → Type 0
Replays bytes statuses.Clean text = (run : RunView) × IsRunOn bytes text run × (failed_in (states_in run.nodes) ≡ 0)
Replays bytes statuses.Found text = (run : RunView) × IsRunOn bytes text run × (1 ≤ failed_in (states_in run.nodes))
Replays bytes statuses.Refused text = IsRefusal (file_of bytes) text
Replays bytes other text = ⊥

-- the status and the text that are right for a command and some bytes
abbrev pub Answers : Command → List ℕ → Status → List ℕ → Type 0
Answers commands.Explore = ExploresFile
Answers commands.Replay = Replays

-- the status and the text that are right for a network that is printed as a file
abbrev pub Prints : File → Status → List ℕ → Type 0
Prints file statuses.Clean text = text ≡ file_text file
Prints file other text = ⊥

-- the status and the text that are right for a command over the network that is made of a number
abbrev pub AnswersMade : Making → ℕ → Status → List ℕ → Type 0
AnswersMade makings.Explore number = Explores summary_text (made number).network
AnswersMade makings.Print number = Prints (made number)

-- What a command over the network of a file gives, by what was read, before anything is written.
abbrev pub IsRightOnFile : Command → Option (List ℕ) → Option (List ℕ) → Status → List ℕ → Type 0
IsRightOnFile command left left' statuses.Refused text =
    (TakesExactly (limit + 1) left left' × (text ≡ too_long_line))
    ⊎ ((bytes : List ℕ) × Reads left left' bytes × IsRefusal (file_of bytes) text)
IsRightOnFile command left left' statuses.ReadFault text = TakesAtMost limit left left' × (text ≡ read_fault_line)
IsRightOnFile command left left' statuses.Memory text = TakesAtMost (limit + 1) left left' × (text ≡ memory_line)
IsRightOnFile command left left' status text = (bytes : List ℕ) × Reads left left' bytes × Answers command bytes status text

-- What a command over the network of a number gives, before anything is written. Nothing is read.
abbrev pub IsRightOnNumber : Making → ℕ → Status → List ℕ → Type 0
IsRightOnNumber making number statuses.Memory text = text ≡ memory_line
IsRightOnNumber making number status text = AnswersMade making number status text

-- What a command line gives, before anything is written.
abbrev pub IsRightFor : Line → Option (List ℕ) → Option (List ℕ) → Status → List ℕ → Type 0
IsRightFor lines.Explore left left' status text = IsRightOnFile commands.Explore left left' status text
IsRightFor lines.Replay left left' status text = IsRightOnFile commands.Replay left left' status text
IsRightFor (lines.ExploreMade number) left left' status text = Keeps left left' × IsRightOnNumber makings.Explore number status text
IsRightFor (lines.Make number) left left' status text = Keeps left left' × IsRightOnNumber makings.Print number status text

-- The status and the text that are right for the words and for what was read, before anything is written: Usage with its line
-- where the words are no command line, and else what the command line gives.
abbrev pub IsRight : List (List ℕ) → Option (List ℕ) → Option (List ℕ) → Status → List ℕ → Type 0
IsRight words left left' statuses.Usage text = (IsCommandLine words → ⊥) × Keeps left left' × (text ≡ usage_line)
IsRight words left left' status text = (line : Line) × IsLine line words × IsRightFor line left left' status text

-- the whole text went out, or a front of it, and then the status is a write fault
abbrev pub IsWritten : Option (List ℕ) → Option (List ℕ) → List ℕ → Status → Status → Type 0
IsWritten taken taken' text verdict status = ((status ≡ verdict) × Appends taken taken' text) ⊎ ((status ≡ statuses.WriteFault) × ((rest : List ℕ) × TakesFront taken taken' text rest))

-- How a piece of work ends: a status and a text that are right, and how the text went out. The text of a read fault goes out
-- only where the source's count of faults rose.
pub record Ends (Right : Status → List ℕ → Type 0) (faults faults' : ℕ) (taken taken' : Option (List ℕ)) (status : Status) : Type 0 where
  pub verdict : Status
  pub text : List ℕ
  pub right : Right verdict text
  pub cause : verdict ≡ statuses.ReadFault → Rose faults faults'
  pub written : IsWritten taken taken' text verdict status

-- A call of the program.
abbrev pub Runs : List (List ℕ) → Option (List ℕ) → Option (List ℕ) → ℕ → ℕ → Option (List ℕ) → Option (List ℕ) → Status → Type 0
Runs words left left' faults faults' taken taken' status = Ends (IsRight words left left') faults faults' taken taken' status

-- the command line asks for the network of a file
abbrev pub AsksFile : Line → Type 0
AsksFile lines.Explore = Unit {0}
AsksFile lines.Replay = Unit {0}
AsksFile other = ⊥

-- where the line has a number, a network is made of it
abbrev pub IsInRange : Line → Type 0
IsInRange (lines.ExploreMade number) = number < 36
IsInRange (lines.Make number) = number < 36
IsInRange other = Unit {0}

-- the words are a command line that asks for the network of a file
abbrev pub IsOfFile : List (List ℕ) → Type 0
IsOfFile words = (line : Line) × IsLine line words × AsksFile line
