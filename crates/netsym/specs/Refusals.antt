-- Which files are accepted and which are refused, and the line of a refusal.
use Rattle.std.specs.Prelude.{◌≡◌, ℕ, List, ◌++◌, codes, decimal, Result, Ok, Err}
use Rattle.kn_plan.specs.Nets.{Network}
use Rattle.kn_plan.specs.Files.{File}
use Rattle.kn_netfile.specs.Faults.{Fault}
use Rattle.kn_netfile.specs.Reading.{file_of}
use Rattle.netsym.specs.declared.answer.Unanswered.{Unanswered}
use Rattle.netsym.specs.declared.answer.Unanswered.TheVariants as unanswered

-- the bytes are a file of this network
pub record IsAccepted (bytes : List ℕ) (net : Network) : Type 0 where
  pub file : File
  pub given : file_of bytes ≡ Ok file
  pub network : file.network ≡ net

-- a refusal by its number and place
abbrev pub refusal_line : ℕ → List ℕ → List ℕ
refusal_line number place = codes "netsym: refused F" ++ (decimal number ++ (codes " " ++ (place ++ codes "\n")))

-- The text refuses a file: it names the fault.
abbrev pub IsRefusal : Result File Fault → List ℕ → Type 0
IsRefusal (Err fault) text = text ≡ refusal_line fault.number fault.place
IsRefusal (Ok file) text = ⊥

-- the refusal's line has this number and place; nothing is said where memory ran out
abbrev pub Tells : ℕ → List ℕ → Unanswered → Type 0
Tells number place (unanswered.Refused line) = line.items ≡ refusal_line number place
Tells number place (unanswered.Memory e) = Unit {0}

-- where bytes are refused, the line says why; nothing is said where memory ran out
abbrev pub SaysWhy : List ℕ → Unanswered → Type 0
SaysWhy bytes (unanswered.Refused line) = IsRefusal (file_of bytes) line.items
SaysWhy bytes (unanswered.Memory e) = Unit {0}
