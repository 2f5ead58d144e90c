-- The text of a program.
use Rattle.std.specs.Prelude.{ℕ, ◌+◌, Bool, true, false, ◌==◌, nat_eq, if◌then◌else◌, List, [], ◌∷◌, ◌++◌, codes, decimal, Option, Some, None, find, slice_index_or}
use Rattle.std.specs.List.{flat_map, list_any}
use Rattle.kn_ops.specs.Table.{Entry, instructions}
use Rattle.kn_code.specs.declared.program.Instr.{Instr}
use Rattle.kn_code.specs.declared.program.Instr.TheVariants.{Jmp, Brz}
use Rattle.kn_code.specs.declared.row.Row.{Row}
use Rattle.kn_code.specs.Code.{Code}
use Rattle.kn_code.specs.Rows.{row_of_lem}
use Rattle.kn_asm.specs.declared.meaning.Slot.{Slot}
use Rattle.kn_asm.specs.declared.meaning.Slot.TheVariants.{RegisterA, RegisterB, RegisterC, ByteA, WordP, WordQ, TargetP}
use Rattle.kn_asm.specs.Meaning.{slots_lem}
use Rattle.kn_asm.specs.Assembling.{handler_names}

abbrev pub register_text : ℕ → List ℕ
register_text n = codes "r" ++ decimal n

-- the label that a target gets
abbrev pub label_text : ℕ → List ℕ
label_text index = codes "L" ++ decimal index

-- the operand that a field holds
abbrev pub slot_text : Slot → Row → List ℕ
slot_text RegisterA r = register_text r.a
slot_text RegisterB r = register_text r.b
slot_text RegisterC r = register_text r.c
slot_text ByteA r = decimal r.a
slot_text WordP r = decimal r.p
slot_text WordQ r = decimal r.q
slot_text TargetP r = label_text r.p

-- a blank and the operands, with commas between them
abbrev pub operands_text : List Slot → Row → List ℕ
operands_text [] r = []
operands_text (s ∷ ss) r = codes " " ++ (slot_text s r ++ flat_map (λ (x : Slot). codes ", " ++ slot_text x r) ss)

-- two blanks, the name and the operands
abbrev pub row_text : Option Entry → Row → List ℕ
row_text None r = []
row_text (Some e) r = codes "  " ++ (e.name ++ (operands_text (slots_lem e.shape) r ++ codes "\n"))

unfoldable pub instr_text : Instr → List ℕ
instr_text i = row_text (find (λ (e : Entry). nat_eq e.code (row_of_lem i).code) instructions) (row_of_lem i)

-- whether an instruction's target is an index
abbrev pub goes_to : ℕ → Instr → Bool
goes_to index (Jmp to) = to == index
goes_to index (Brz a to) = to == index
goes_to index other = false

abbrev pub label_line : Bool → ℕ → List ℕ
label_line false index = []
label_line true index = label_text index ++ codes ":\n"

abbrev pub is_at : ℕ → Option ℕ → Bool
is_at index None = false
is_at index (Some entry) = entry == index

-- a line for each handler that begins at an index; the first entry's number is given
abbrev pub handler_lines : ℕ → ℕ → List (Option ℕ) → List ℕ
handler_lines index number [] = []
handler_lines index number (entry ∷ entries) =
    (if is_at index entry then slice_index_or handler_names number [] ++ codes ":\n" else []) ++ handler_lines index (number + 1) entries

-- the lines of the instruction at an index: the handlers' labels, a target's label and the instruction
abbrev pub place_text : List Instr → List (Option ℕ) → ℕ → Instr → List ℕ
place_text all handlers index i = handler_lines index 0 handlers ++ (label_line (list_any (goes_to index) all) index ++ instr_text i)

-- the lines of some instructions of a program, the first of which has an index
unfoldable pub lines_text : List Instr → List (Option ℕ) → ℕ → List Instr → List ℕ
lines_text all handlers index [] = []
lines_text all handlers index (i ∷ is) = place_text all handlers index i ++ lines_text all handlers (index + 1) is

unfoldable pub disassembled : Code → List ℕ
disassembled code = lines_text code.instrs code.handlers 0 code.instrs
