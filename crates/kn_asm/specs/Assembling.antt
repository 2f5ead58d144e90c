-- The program of a text, or its first fault.
use Rattle.std.specs.Prelude.{◌≡◌, ℕ, ◌+◌, Bool, true, false, not, ◌&&◌, ◌||◌, ◌==◌, if◌then◌else◌, List, [], ◌∷◌, ◌++◌, length, map, codes, Option, Some, None, Result, Ok, Err, is_some, unwrap_or, bytes_eq}
use Rattle.std.specs.List.{flat_map}
use Rattle.std.specs.Option.{option_map, option_to_list}
use Rattle.kn_code.specs.declared.program.Instr.{Instr}
use Rattle.kn_code.specs.declared.program.Instr.TheVariants.{Jmp, Brz, Ret, Halt}
use Rattle.kn_code.specs.Code.{Code}
use Rattle.kn_asm.specs.declared.fault.AsmCause.{AsmCause}
use Rattle.kn_asm.specs.declared.fault.AsmCause.TheVariants as causes
use Rattle.kn_asm.specs.declared.fault.AsmFault.{AsmFault}
use Rattle.kn_asm.specs.declared.fault.AsmFault.TheVariants as faults
use Rattle.kn_asm.specs.Meaning.{Content, nothing, wrong, does}
use Rattle.kn_asm.specs.Lines.{Line, lines_of_lem, is_instr_lem, counted_lem, target_of_lem, instr_of_content}

-- how many instructions some lines hold
abbrev pub instrs_in : List Line → ℕ
instrs_in [] = 0
instrs_in (l ∷ ls) = counted_lem l.content + instrs_in ls

abbrev pub has_label : List ℕ → Option (List ℕ) → Bool
has_label name None = false
has_label name (Some label) = bytes_eq name label

-- the index of the instruction behind a label, on its first line; the index of the lines' first instruction is given
unfoldable pub place_from : List ℕ → ℕ → List Line → Option ℕ
place_from name index [] = None
place_from name index (l ∷ ls) = if has_label name l.label then Some index else place_from name (index + counted_lem l.content) ls

abbrev pub place_of : List Line → List ℕ → Option ℕ
place_of ls name = place_from name 0 ls

-- ---- the faults of a line

abbrev pub or_else : Option AsmCause → Option AsmCause → Option AsmCause
or_else None other = other
or_else (Some cause) other = Some cause

abbrev pub given : Bool → AsmCause → Option AsmCause
given here cause = if here then Some cause else None

-- the line alone is wrong: Syntax, Mnemonic or Operand
abbrev pub wrong_in : Content → Option AsmCause
wrong_in (wrong cause) = Some cause
wrong_in other = None

-- its label has a place already
abbrev pub is_twice : (List ℕ → Option ℕ) → Option (List ℕ) → Bool
is_twice places None = false
is_twice places (Some name) = is_some (places name)

-- its target has no place
abbrev pub is_lost : (List ℕ → Option ℕ) → Option (List ℕ) → Bool
is_lost places None = false
is_lost places (Some name) = not (is_some (places name))

-- it holds an instruction and 4,096 stand before it, or it is the last line and there is no instruction
abbrev pub is_miscounted : Content → ℕ → Bool → Bool
is_miscounted content before last = (is_instr_lem content && (before == 4096)) || (last && (before + counted_lem content == 0))

-- an instruction behind which none is needed
abbrev pub ends_lem : Instr → Bool
ends_lem (Jmp to) = true
ends_lem Ret = true
ends_lem Halt = true
ends_lem other = false

-- an instruction must follow it: it has one that goes on, or a label and none
abbrev pub is_open : Option (List ℕ) → Content → Bool
is_open label (does i target) = not (ends_lem i)
is_open label (wrong cause) = false
is_open label nothing = is_some label

-- the first fault of a line: whether its label stands before and its target nowhere, how many instructions stand before and
-- after it, and whether it is the last line
abbrev pub fault_given_lem : Line → Bool → Bool → ℕ → ℕ → Bool → Option AsmCause
fault_given_lem l twice lost before after last =
    or_else (wrong_in l.content)
    (or_else (given twice causes.Twice)
    (or_else (given lost causes.NoLabel)
    (or_else (given (is_miscounted l.content before last) causes.Count)
    (given ((after == 0) && is_open l.label l.content) causes.End))))

-- the first fault of a line of a text, between the lines before it and those after it
abbrev pub fault_of : List Line → List Line → Line → List Line → Option AsmCause
fault_of all before l after =
    fault_given_lem l (is_twice (place_of before) l.label) (is_lost (place_of all) (target_of_lem l.content)) (instrs_in before) (instrs_in after) (length after == 0)

abbrev pub refused : ℕ → Option AsmCause → Option AsmFault → Option AsmFault
refused line (Some cause) others = Some (faults.Refused line cause)
refused line None others = others

-- the first line with a fault, among those after some without one
abbrev pub first_fault_from : List Line → List Line → List Line → Option AsmFault
first_fault_from all before [] = None
first_fault_from all before (l ∷ ls) = refused (length before + 1) (fault_of all before l ls) (first_fault_from all (before ++ l ∷ []) ls)

abbrev pub first_fault_lem : List Line → Option AsmFault
first_fault_lem ls = first_fault_from ls [] ls

-- ---- the program

-- an instruction with its target
abbrev pub aimed_lem : Instr → ℕ → Instr
aimed_lem (Jmp x) to = Jmp to
aimed_lem (Brz a x) to = Brz a to
aimed_lem other to = other

abbrev pub target_place : (List ℕ → Option ℕ) → Option (List ℕ) → ℕ
target_place places None = 0
target_place places (Some name) = unwrap_or (places name) 0

-- the instruction of a line, if any, with its target's place
abbrev pub settled_lem : (List ℕ → Option ℕ) → Content → List Instr
settled_lem places content = option_to_list (option_map (λ i. aimed_lem i (target_place places (target_of_lem content))) (instr_of_content content))

-- the labels of the handlers, in the order of the bytecode
abbrev pub handler_names : List (List ℕ)
handler_names =
    codes "boot" ∷ codes "recv" ∷ codes "timer0" ∷ codes "timer1" ∷ codes "timer2" ∷ codes "timer3" ∷ codes "timer4" ∷ codes "timer5" ∷ codes "timer6" ∷ codes "timer7" ∷ []

-- the instructions of lines without a fault, and the places of the handlers' labels
abbrev pub code_of_lines : List Line → Code
code_of_lines ls = record {
  instrs = flat_map (λ (l : Line). settled_lem (place_of ls) l.content) ls;
  handlers = map (place_of ls) handler_names;
}

abbrev pub decided : Option AsmFault → Code → Result Code AsmFault
decided None code = Ok code
decided (Some fault) code = Err fault

abbrev pub program_of_lem : List Line → Result Code AsmFault
program_of_lem ls = decided (first_fault_lem ls) (code_of_lines ls)

-- what a text is assembled to
unfoldable pub assembled : List ℕ → Result Code AsmFault
assembled text = program_of_lem (lines_of_lem text)

-- ---- what a function returned

-- its fault is the text's, unless memory ran out
abbrev pub Fails : AsmFault → Result Code AsmFault → Type 0
Fails (faults.Refused line cause) read = read ≡ Err (faults.Refused line cause)
Fails (faults.Memory e) read = Unit {0}

-- the program or the fault that is read, unless memory ran out
abbrev pub Gives : Result Code AsmFault → Result Code AsmFault → Type 0
Gives (Ok code) read = read ≡ Ok code
Gives (Err e) read = Fails e read
