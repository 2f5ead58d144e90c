-- The exit status of the program.
use Rattle.std.specs.Prelude.{◌≡◌, ◌≤◌, ℕ, List, Some}
use Rattle.std.specs.declared.option.Option.{Option}
use Rattle.kn_io.specs.Causes.{Rose}
use Rattle.kn_report.specs.declared.status.Status.{Status}
use Rattle.kn_report.specs.declared.status.Status.TheVariants as statuses
use Rattle.kn_report.specs.Statuses.{code_of}
use Rattle.kn_words.specs.Lines.{IsLine}
use Rattle.netsym.specs.Runs.{Runs, line_for, line_of_making}
use Rattle.netsym.specs.declared.command.Command.{Command}
use Rattle.netsym.specs.declared.command.Making.{Making}
use Rattle.netsym.specs.Exact.{IsUsage, IsExact, IsExactMade}

-- where the system gives no words: the number of want of memory where that is the cause, and else 9, which is no status's
pub record IsRefusal (WantsMemory : Type 0) (number : ℕ) : Type 0 where
  pub memory : WantsMemory → number ≡ code_of statuses.Memory
  pub other : (WantsMemory → ⊥) → number ≡ 9

-- nothing was read and nothing was written
pub record IsUntouched {S K : Type 0} (source source' : S) (sink sink' : K) : Type 0 where
  pub unread : source' ≡ source
  pub unwritten : sink' ≡ sink

-- The number is that of the status with which the top call ends for these words, and all that the top call promises of
-- its words, its source and its sink holds.
pub record IsCall (words : List (List ℕ)) (left left' : Option (List ℕ)) (faults faults' : ℕ) (taken taken' : Option (List ℕ)) (flaws flaws' : ℕ) (number : ℕ) : Type 0 where
  pub status : Status
  pub number_is : number ≡ code_of status
  pub runs : Runs words left left' faults faults' taken taken' status
  pub reads : faults ≤ faults'
  pub writes : flaws ≤ flaws'
  pub read_fault : status ≡ statuses.ReadFault → Rose faults faults'
  pub write_fault : status ≡ statuses.WriteFault → Rose flaws flaws'
  pub usage : IsUsage words status
  pub exact : (command : Command) (bytes : List ℕ) → IsLine (line_for command) words → left ≡ Some bytes → IsExact command bytes status
  pub made : (making : Making) (number : ℕ) → IsLine (line_of_making making number) words → IsExactMade making number status
