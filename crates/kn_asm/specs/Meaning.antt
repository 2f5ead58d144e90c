-- What a mnemonic and its operands mean.
use Rattle.std.specs.Prelude.{ℕ, false, nat_lt, if◌then◌else◌, List, [], ◌∷◌, Option, Some, None, Result, Ok, Err, string_bytes, find, bytes_eq}
use Rattle.std.specs.Option.{option_map}
use Rattle.kn_ops.specs.declared.table.Shape.{Shape}
use Rattle.kn_ops.specs.declared.table.Shape.TheVariants as shapes
use Rattle.kn_ops.specs.Table.{Entry, instructions}
use Rattle.kn_code.specs.declared.program.Instr.{Instr}
use Rattle.kn_code.specs.declared.row.Row.{Row}
use Rattle.kn_code.specs.declared.row.RowFault.{RowFault}
use Rattle.kn_code.specs.Code.{IsInstr}
use Rattle.kn_code.specs.Rows.{the_row}
use Rattle.kn_code.specs.Decoding.{instr_of_lem}
use Rattle.kn_asm.specs.declared.fault.AsmCause.{AsmCause}
use Rattle.kn_asm.specs.declared.fault.AsmCause.TheVariants as causes
use Rattle.kn_asm.specs.declared.meaning.Slot.{Slot}
use Rattle.kn_asm.specs.declared.meaning.Slot.TheVariants.{RegisterA, RegisterB, RegisterC, ByteA, WordP, WordQ, TargetP}
use Rattle.kn_asm.specs.declared.meaning.Body.{Body}
use Rattle.kn_asm.specs.declared.meaning.Body.TheVariants as bodies
use Rattle.kn_asm.specs.Operands.{Operand, register, number, named}

-- what a line holds behind its label: nothing, something wrong, or an instruction, with 0 in place of the target that it names
pub data Content : Type 0 where
  nothing : Content
  wrong : AsmCause → Content
  does : Instr → Option (List ℕ) → Content

-- a content without where its target's name lies in memory
abbrev pub body_view : Body → Content
body_view bodies.Nothing = nothing
body_view (bodies.Wrong cause) = wrong cause
body_view (bodies.Does instr target) = does instr (option_map string_bytes target)

-- which operands an instruction has, and the fields of the bytecode where they stand
abbrev pub slots_lem : Shape → List Slot
slots_lem shapes.RegWord = RegisterA ∷ WordP ∷ []
slots_lem shapes.RegReg = RegisterA ∷ RegisterB ∷ []
slots_lem shapes.RegMem = RegisterA ∷ WordP ∷ []
slots_lem shapes.MemReg = WordP ∷ RegisterA ∷ []
slots_lem shapes.RegRegSpan = RegisterA ∷ RegisterB ∷ WordP ∷ WordQ ∷ []
slots_lem shapes.Target = TargetP ∷ []
slots_lem shapes.RegTarget = RegisterA ∷ TargetP ∷ []
slots_lem shapes.RegWidth = RegisterA ∷ WordP ∷ []
slots_lem shapes.TimerDelay = ByteA ∷ WordP ∷ []
slots_lem shapes.TimerOnly = ByteA ∷ []
slots_lem shapes.LinkRegCount = WordP ∷ RegisterB ∷ ByteA ∷ []
slots_lem shapes.RegCount = RegisterB ∷ ByteA ∷ []
slots_lem shapes.RegIndex = RegisterA ∷ WordP ∷ []
slots_lem shapes.RegRegReg = RegisterA ∷ RegisterB ∷ RegisterC ∷ []
slots_lem shapes.Reg = RegisterA ∷ []
slots_lem shapes.Bare = []

-- an operand put into its field, where it is of the right kind and the field holds it; a target's field stays
abbrev pub put_lem : Slot → Operand → Row → Option Row
put_lem RegisterA (register n) r = Some (the_row r.code n r.b r.c r.p r.q)
put_lem RegisterB (register n) r = Some (the_row r.code r.a n r.c r.p r.q)
put_lem RegisterC (register n) r = Some (the_row r.code r.a r.b n r.p r.q)
put_lem ByteA (number n) r = if nat_lt n 256 then Some (the_row r.code n r.b r.c r.p r.q) else None
put_lem WordP (number n) r = if nat_lt n 65536 then Some (the_row r.code r.a r.b r.c n r.q) else None
put_lem WordQ (number n) r = if nat_lt n 65536 then Some (the_row r.code r.a r.b r.c r.p n) else None
put_lem TargetP (named name) r = Some r
put_lem slot other r = None

abbrev pub and_then : Option Row → (Row → Option Row) → Option Row
and_then None f = None
and_then (Some r) f = f r

-- all operands put into their fields, where there are as many
abbrev pub filled_lem : List Slot → List Operand → Row → Option Row
filled_lem [] [] r = Some r
filled_lem [] (o ∷ os) r = None
filled_lem (s ∷ ss) [] r = None
filled_lem (s ∷ ss) (o ∷ os) r = and_then (put_lem s o r) (filled_lem ss os)

-- the instruction of some fields, where a valid program may hold it but for its target
abbrev pub in_range : Result Instr RowFault → Option Instr
in_range (Ok i) = Some i
in_range (Err f) = None

abbrev pub instr_of_fields : Option Row → Option Instr
instr_of_fields None = None
instr_of_fields (Some r) = in_range (instr_of_lem 1 false r)

-- the instruction of a row of the instruction table with some operands
abbrev pub instr_with_lem : Entry → List Operand → Option Instr
instr_with_lem e os = instr_of_fields (filled_lem (slots_lem e.shape) os (the_row e.code 0 0 0 0 0))

-- the first name among some operands
abbrev pub target_in_lem : List Operand → Option (List ℕ)
target_in_lem [] = None
target_in_lem (named name ∷ os) = Some name
target_in_lem (register n ∷ os) = target_in_lem os
target_in_lem (number n ∷ os) = target_in_lem os

abbrev pub does_or_wrong : Option Instr → Option (List ℕ) → Content
does_or_wrong None target = wrong causes.Operand
does_or_wrong (Some i) target = does i target

abbrev pub meaning_at : Option Entry → List Operand → Content
meaning_at None os = wrong causes.Mnemonic
meaning_at (Some e) os = does_or_wrong (instr_with_lem e os) (target_in_lem os)

-- the row that has the mnemonic as its name decides what the operands must be
abbrev pub meaning_lem : List ℕ → List Operand → Content
meaning_lem name os = meaning_at (find (λ (e : Entry). bytes_eq e.name name) instructions) os

-- an instruction that a valid program may hold but for its target
abbrev pub IsSound : Content → Type 0
IsSound (does i target) = IsInstr 1 i
IsSound other = Unit {0}
