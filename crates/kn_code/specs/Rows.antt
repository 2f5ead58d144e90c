-- The rows of instructions, and the one spelling of a program.
use Rattle.std.specs.Prelude.{ℕ, List, ◌∷◌, ◌++◌, length, Option, unwrap_or}
use Rattle.std.specs.List.{flat_map}
use Rattle.std.specs.Int.{w16, to_be_bytes}
use Rattle.kn_code.specs.declared.program.Instr.{Instr}
use Rattle.kn_code.specs.declared.program.Instr.TheVariants.{Const, Mov, Not, Ld, St, Ldx, Stx, Jmp, Brz, Input, Timer, Cancel, Send, Bcast, Recvw, Add, Sub, Mul, And, Or, Xor, Shl, Shr, Sar, Udiv, Urem, Eq, Ult, Slt, Rlen, Rfrom, Assert, Node, Now, Ret, Halt}
use Rattle.kn_code.specs.declared.row.Row.{Row}
use Rattle.kn_code.specs.Code.{Code}

-- the opcode, the bytes a, b and c, and the words p and q
abbrev pub the_row : ℕ → ℕ → ℕ → ℕ → ℕ → ℕ → Row
the_row code a b c p q = record { code = code; a = a; b = b; c = c; p = p; q = q }

-- the row of each instruction: what it does not use is 0
abbrev pub row_of_lem : Instr → Row
row_of_lem (Const a n) = the_row 0x01 a 0 0 n 0
row_of_lem (Mov a b) = the_row 0x02 a b 0 0 0
row_of_lem (Not a b) = the_row 0x03 a b 0 0 0
row_of_lem (Ld a m) = the_row 0x04 a 0 0 m 0
row_of_lem (St m a) = the_row 0x05 a 0 0 m 0
row_of_lem (Ldx a b m n) = the_row 0x06 a b 0 m n
row_of_lem (Stx a b m n) = the_row 0x07 a b 0 m n
row_of_lem (Jmp to) = the_row 0x08 0 0 0 to 0
row_of_lem (Brz a to) = the_row 0x09 a 0 0 to 0
row_of_lem (Input a w) = the_row 0x0a a 0 0 w 0
row_of_lem (Timer k d) = the_row 0x0b k 0 0 d 0
row_of_lem (Cancel k) = the_row 0x0c k 0 0 0 0
row_of_lem (Send l b n) = the_row 0x0d n b 0 l 0
row_of_lem (Bcast b n) = the_row 0x0e n b 0 0 0
row_of_lem (Recvw a k) = the_row 0x0f a 0 0 k 0
row_of_lem (Add a b c) = the_row 0x10 a b c 0 0
row_of_lem (Sub a b c) = the_row 0x11 a b c 0 0
row_of_lem (Mul a b c) = the_row 0x12 a b c 0 0
row_of_lem (And a b c) = the_row 0x13 a b c 0 0
row_of_lem (Or a b c) = the_row 0x14 a b c 0 0
row_of_lem (Xor a b c) = the_row 0x15 a b c 0 0
row_of_lem (Shl a b c) = the_row 0x16 a b c 0 0
row_of_lem (Shr a b c) = the_row 0x17 a b c 0 0
row_of_lem (Sar a b c) = the_row 0x18 a b c 0 0
row_of_lem (Udiv a b c) = the_row 0x19 a b c 0 0
row_of_lem (Urem a b c) = the_row 0x1a a b c 0 0
row_of_lem (Eq a b c) = the_row 0x1b a b c 0 0
row_of_lem (Ult a b c) = the_row 0x1c a b c 0 0
row_of_lem (Slt a b c) = the_row 0x1d a b c 0 0
row_of_lem (Rlen a) = the_row 0x1e a 0 0 0 0
row_of_lem (Rfrom a) = the_row 0x1f a 0 0 0 0
row_of_lem (Assert a) = the_row 0x20 a 0 0 0 0
row_of_lem (Node a) = the_row 0x21 a 0 0 0 0
row_of_lem (Now a) = the_row 0x22 a 0 0 0 0
row_of_lem Ret = the_row 0x23 0 0 0 0 0
row_of_lem Halt = the_row 0x24 0 0 0 0 0

-- an opcode, three bytes and two words
abbrev pub row_bytes : Row → List ℕ
row_bytes r = r.code ∷ r.a ∷ r.b ∷ r.c ∷ (to_be_bytes w16 r.p ++ to_be_bytes w16 r.q)

-- an entry is an instruction's index, or 65,535 for none
abbrev pub entry_bytes : Option ℕ → List ℕ
entry_bytes entry = to_be_bytes w16 (unwrap_or entry 65535)

-- the eight bytes of an instruction
abbrev pub instr_bytes : Instr → List ℕ
instr_bytes i = row_bytes (row_of_lem i)

-- the number of instructions, the handlers and the instructions
abbrev pub spelling : Code → List ℕ
spelling code = to_be_bytes w16 (length code.instrs) ++ flat_map entry_bytes code.handlers ++ flat_map instr_bytes code.instrs
