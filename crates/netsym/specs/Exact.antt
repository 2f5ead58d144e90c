-- Exactly when each status comes.
use Rattle.std.specs.Prelude.{◌≡◌, ◌⊎◌, ◌≤◌, ℕ, List, length}
use Rattle.kn_model.specs.Nets.{Network}
use Rattle.netsym.specs.Refusals.{IsAccepted}
use Rattle.kn_words.specs.Lines.{IsCommandLine}
use Rattle.kn_make.specs.Making.{made}
use Rattle.netsym.specs.Runs.{PassesLimit, limit}
use Rattle.netsym.specs.declared.command.Command.{Command}
use Rattle.netsym.specs.declared.command.Command.TheVariants as commands
use Rattle.netsym.specs.declared.command.Making.{Making}
use Rattle.netsym.specs.declared.command.Making.TheVariants as makings
use Rattle.kn_report.specs.declared.status.Status.{Status}
use Rattle.kn_report.specs.declared.status.Status.TheVariants as statuses

-- this status, or a write fault in its place
abbrev pub EndsAs : Status → Status → Type 0
EndsAs status verdict = (status ≡ verdict) ⊎ (status ≡ statuses.WriteFault)

-- Usage comes exactly where the words are no command line.
pub record IsUsage (words : List (List ℕ)) (status : Status) : Type 0 where
  pub only : status ≡ statuses.Usage → IsCommandLine words → ⊥
  pub always : (IsCommandLine words → ⊥) → EndsAs status statuses.Usage

-- a read fault, a write fault or want of memory
abbrev pub IsHindered : Status → Type 0
IsHindered statuses.ReadFault = Unit {0}
IsHindered statuses.WriteFault = Unit {0}
IsHindered statuses.Memory = Unit {0}
IsHindered other = ⊥

-- a write fault or want of memory
abbrev pub IsStopped : Status → Type 0
IsStopped statuses.WriteFault = Unit {0}
IsStopped statuses.Memory = Unit {0}
IsStopped other = ⊥

-- the report, the run or the network was printed
abbrev pub IsPrinted : Status → Type 0
IsPrinted statuses.Clean = Unit {0}
IsPrinted statuses.Found = Unit {0}
IsPrinted statuses.Open = Unit {0}
IsPrinted other = ⊥

-- the bytes describe a network
abbrev pub IsDescribed : List ℕ → Type 0
IsDescribed bytes = (length bytes ≤ limit) × (net : Network) × IsAccepted bytes net

-- the bytes describe a network that passes a limit
pub record IsTooLarge (bytes : List ℕ) : Type 0 where
  pub fits : length bytes ≤ limit
  pub net : Network
  pub accepted : IsAccepted bytes net
  pub passes : PassesLimit net

-- For a command over the network of a file, and a source that holds these bytes: they are refused exactly where they describe no network,
-- but where a fault or want of memory hinders it. Where they describe one, the report or the run is printed, but where that
-- is hindered or a limit is answered; and a limit is answered only where a network that is explored passes one.
pub record IsExact (command : Command) (bytes : List ℕ) (status : Status) : Type 0 where
  pub refused : status ≡ statuses.Refused → IsDescribed bytes → ⊥
  pub printed : IsPrinted status → IsDescribed bytes
  pub limited : status ≡ statuses.Limit → (command ≡ commands.Explore) × IsTooLarge bytes
  pub refuses : (IsDescribed bytes → ⊥) → (status ≡ statuses.Refused) ⊎ IsHindered status
  pub prints : IsDescribed bytes → IsPrinted status ⊎ ((status ≡ statuses.Limit) ⊎ IsHindered status)
  pub prints_within : length bytes ≤ limit → (net : Network) → IsAccepted bytes net → (command ≡ commands.Explore → PassesLimit net → ⊥) → IsPrinted status ⊎ IsHindered status

-- For a command over the network that is made of a number: its summary is printed, or its file, but where a write fault or want
-- of memory comes between, or a limit is answered; and a limit is answered only where a network that is explored passes one.
pub record IsExactMade (making : Making) (number : ℕ) (status : Status) : Type 0 where
  pub limited : status ≡ statuses.Limit → (making ≡ makings.Explore) × PassesLimit (made number).network
  pub prints : IsPrinted status ⊎ ((status ≡ statuses.Limit) ⊎ IsStopped status)
  pub prints_within : (making ≡ makings.Explore → PassesLimit (made number).network → ⊥) → IsPrinted status ⊎ IsStopped status
  pub prints_file : making ≡ makings.Print → (status ≡ statuses.Clean) ⊎ IsStopped status
