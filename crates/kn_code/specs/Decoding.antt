-- Reading a program from left to right, with the first fault that is met.
use Rattle.std.specs.Prelude.{Bool, true, ◌≡◌, ℕ, zero, suc, ◌+◌, ◌*◌, ◌&&◌, not, List, [], ◌∷◌, length, drop, Option, Some, None, Ok, Err, ◌==◌, nat_lt, nat_le, if◌then◌else◌, slice_index}
use Rattle.std.specs.declared.result.Result.{Result}
use Rattle.std.specs.Int.{w16, from_be_bytes}
use Rattle.kn_code.specs.declared.program.Instr.{Instr}
use Rattle.kn_code.specs.declared.program.Instr.TheVariants.{Const, Mov, Not, Ld, St, Ldx, Stx, Jmp, Brz, Input, Timer, Cancel, Send, Bcast, Recvw, Add, Sub, Mul, And, Or, Xor, Shl, Shr, Sar, Udiv, Urem, Eq, Ult, Slt, Rlen, Rfrom, Assert, Node, Now, Ret, Halt}
use Rattle.kn_code.specs.declared.row.Row.{Row}
use Rattle.kn_code.specs.declared.row.RowFault.{RowFault}
use Rattle.kn_code.specs.declared.row.RowFault.TheVariants as rows
use Rattle.kn_code.specs.declared.decoding.CodeFault.{CodeFault}
use Rattle.kn_code.specs.declared.decoding.CodeFault.TheVariants as faults
use Rattle.kn_code.specs.Code.{Code}
use Rattle.kn_code.specs.Rows.{row_of_lem}

-- the first fault is the fault of the whole
infixl 10 ◌>>=◌
abbrev pub ◌>>=◌ : {A B : Type 0} → Result A CodeFault → (A → Result B CodeFault) → Result B CodeFault
(Ok x) >>= f = f x
(Err e) >>= f = Err e

-- a function's fault is the fault of the reading, unless memory ran out
abbrev pub Fails : {Y : Type 0} → CodeFault → Result Y CodeFault → Type 0
Fails (faults.Length place) read = read ≡ Err (faults.Length place)
Fails (faults.Handler place) read = read ≡ Err (faults.Handler place)
Fails (faults.Opcode place) read = read ≡ Err (faults.Opcode place)
Fails (faults.Field place) read = read ≡ Err (faults.Field place)
Fails (faults.Target place) read = read ≡ Err (faults.Target place)
Fails (faults.Memory e) read = Unit {0}

-- what a function returned, seen by view, is what the reading gives, unless memory ran out
abbrev pub Gives : {X Y : Type 0} → (X → Y) → Result X CodeFault → Result Y CodeFault → Type 0
Gives view (Ok x) read = read ≡ Ok (view x)
Gives view (Err e) read = Fails e read

-- so many items of a width, one after another, each read with how many come after it and its place
unfoldable pub items_from : {X : Type 0} → (ℕ → ℕ → List ℕ → Result X CodeFault) → ℕ → ℕ → ℕ → List ℕ → Result (List X) CodeFault
items_from step width zero place bytes = Ok []
items_from step width (suc left) place bytes = do
  first ← step left place bytes
  others ← items_from step width left (place + width) (drop width bytes)
  Ok (first ∷ others)

-- the entry at the front: 65,535 is none
abbrev pub entry_at_lem : List ℕ → Option ℕ
entry_at_lem bytes =
    let entry = from_be_bytes w16 (slice_index bytes 0 ∷ slice_index bytes 1 ∷ []) in
    if entry == 65535 then None else Some entry

-- an entry that is none or below the number of instructions, else the entry
abbrev pub names : ℕ → Option ℕ → Result (Option ℕ) ℕ
names count None = Ok None
names count (Some e) = if nat_lt e count then Ok (Some e) else Err e

-- the fault of an entry, with its place
abbrev pub handled : ℕ → Result (Option ℕ) ℕ → Result (Option ℕ) CodeFault
handled place (Ok entry) = Ok entry
handled place (Err entry) = Err (faults.Handler place)

-- a handler's entry is none or an instruction's index
unfoldable pub handler_at : ℕ → ℕ → ℕ → List ℕ → Result (Option ℕ) CodeFault
handler_at count left place bytes = handled place (names count (entry_at_lem bytes))

-- The instruction that an opcode makes of the fields, whatever they are.
abbrev pub by_opcode_lem : Row → Option Instr
by_opcode_lem r =
    if r.code == 0x01 then Some (Const r.a r.p)
    else (if r.code == 0x02 then Some (Mov r.a r.b)
    else (if r.code == 0x03 then Some (Not r.a r.b)
    else (if r.code == 0x04 then Some (Ld r.a r.p)
    else (if r.code == 0x05 then Some (St r.p r.a)
    else (if r.code == 0x06 then Some (Ldx r.a r.b r.p r.q)
    else (if r.code == 0x07 then Some (Stx r.a r.b r.p r.q)
    else (if r.code == 0x08 then Some (Jmp r.p)
    else (if r.code == 0x09 then Some (Brz r.a r.p)
    else (if r.code == 0x0a then Some (Input r.a r.p)
    else (if r.code == 0x0b then Some (Timer r.a r.p)
    else (if r.code == 0x0c then Some (Cancel r.a)
    else (if r.code == 0x0d then Some (Send r.p r.b r.a)
    else (if r.code == 0x0e then Some (Bcast r.b r.a)
    else (if r.code == 0x0f then Some (Recvw r.a r.p)
    else (if r.code == 0x10 then Some (Add r.a r.b r.c)
    else (if r.code == 0x11 then Some (Sub r.a r.b r.c)
    else (if r.code == 0x12 then Some (Mul r.a r.b r.c)
    else (if r.code == 0x13 then Some (And r.a r.b r.c)
    else (if r.code == 0x14 then Some (Or r.a r.b r.c)
    else (if r.code == 0x15 then Some (Xor r.a r.b r.c)
    else (if r.code == 0x16 then Some (Shl r.a r.b r.c)
    else (if r.code == 0x17 then Some (Shr r.a r.b r.c)
    else (if r.code == 0x18 then Some (Sar r.a r.b r.c)
    else (if r.code == 0x19 then Some (Udiv r.a r.b r.c)
    else (if r.code == 0x1a then Some (Urem r.a r.b r.c)
    else (if r.code == 0x1b then Some (Eq r.a r.b r.c)
    else (if r.code == 0x1c then Some (Ult r.a r.b r.c)
    else (if r.code == 0x1d then Some (Slt r.a r.b r.c)
    else (if r.code == 0x1e then Some (Rlen r.a)
    else (if r.code == 0x1f then Some (Rfrom r.a)
    else (if r.code == 0x20 then Some (Assert r.a)
    else (if r.code == 0x21 then Some (Node r.a)
    else (if r.code == 0x22 then Some (Now r.a)
    else (if r.code == 0x23 then Some Ret
    else (if r.code == 0x24 then Some Halt
    else None)))))))))))))))))))))))))))))))))))

-- a register, and how many from it on: 0 to 8 of the 16
abbrev pub is_span_lem : ℕ → ℕ → Bool
is_span_lem b n = nat_lt b 16 && nat_le n 8 && nat_le (b + n) 16

-- so many words of memory from one on: 1 to 16 of the 64
abbrev pub is_memory_span_lem : ℕ → ℕ → Bool
is_memory_span_lem m n = nat_lt m 64 && (nat_le 1 n && (nat_le n 16 && nat_le (m + n) 64))

-- the three registers of an operator
abbrev pub are_registers_lem : ℕ → ℕ → ℕ → Bool
are_registers_lem a b c = nat_lt a 16 && (nat_lt b 16 && nat_lt c 16)

-- registers, words of memory, counts, timers, indices, delays and widths are in range
abbrev pub is_in_range_lem : Instr → Bool
is_in_range_lem (Const a n) = nat_lt a 16
is_in_range_lem (Mov a b) = nat_lt a 16 && nat_lt b 16
is_in_range_lem (Not a b) = nat_lt a 16 && nat_lt b 16
is_in_range_lem (Ld a m) = nat_lt a 16 && nat_lt m 64
is_in_range_lem (St m a) = nat_lt m 64 && nat_lt a 16
is_in_range_lem (Ldx a b m n) = nat_lt a 16 && (nat_lt b 16 && is_memory_span_lem m n)
is_in_range_lem (Stx a b m n) = nat_lt a 16 && (nat_lt b 16 && is_memory_span_lem m n)
is_in_range_lem (Jmp to) = true
is_in_range_lem (Brz a to) = nat_lt a 16
is_in_range_lem (Input a w) = nat_lt a 16 && (nat_le 1 w && nat_le w 16)
is_in_range_lem (Timer k d) = nat_lt k 8 && nat_le 1 d
is_in_range_lem (Cancel k) = nat_lt k 8
is_in_range_lem (Send l b n) = is_span_lem b n
is_in_range_lem (Bcast b n) = is_span_lem b n
is_in_range_lem (Recvw a k) = nat_lt a 16 && nat_lt k 8
is_in_range_lem (Add a b c) = are_registers_lem a b c
is_in_range_lem (Sub a b c) = are_registers_lem a b c
is_in_range_lem (Mul a b c) = are_registers_lem a b c
is_in_range_lem (And a b c) = are_registers_lem a b c
is_in_range_lem (Or a b c) = are_registers_lem a b c
is_in_range_lem (Xor a b c) = are_registers_lem a b c
is_in_range_lem (Shl a b c) = are_registers_lem a b c
is_in_range_lem (Shr a b c) = are_registers_lem a b c
is_in_range_lem (Sar a b c) = are_registers_lem a b c
is_in_range_lem (Udiv a b c) = are_registers_lem a b c
is_in_range_lem (Urem a b c) = are_registers_lem a b c
is_in_range_lem (Eq a b c) = are_registers_lem a b c
is_in_range_lem (Ult a b c) = are_registers_lem a b c
is_in_range_lem (Slt a b c) = are_registers_lem a b c
is_in_range_lem (Rlen a) = nat_lt a 16
is_in_range_lem (Rfrom a) = nat_lt a 16
is_in_range_lem (Assert a) = nat_lt a 16
is_in_range_lem (Node a) = nat_lt a 16
is_in_range_lem (Now a) = nat_lt a 16
is_in_range_lem Ret = true
is_in_range_lem Halt = true

-- a jump goes to an instruction, and the last instruction ends
abbrev pub may_stand_lem : ℕ → Bool → Instr → Bool
may_stand_lem count last (Jmp to) = nat_lt to count
may_stand_lem count last (Brz a to) = nat_lt to count && not last
may_stand_lem count last Ret = true
may_stand_lem count last Halt = true
may_stand_lem count last other = not last

-- two rows have the same opcode and fields
abbrev pub is_same_row : Row → Row → Bool
is_same_row r s = (r.code == s.code) && ((r.a == s.a) && ((r.b == s.b) && ((r.c == s.c) && ((r.p == s.p) && (r.q == s.q)))))

-- the fields are tested, then the target
abbrev pub checked_lem : Bool → Bool → Instr → Result Instr RowFault
checked_lem fields target i = if fields then (if target then Ok i else Err rows.Target) else Err rows.Field

-- an instruction is a row's where it is in range and its own row is that one, with 0 in the fields that it does not use
abbrev pub tested : ℕ → Bool → Row → Option Instr → Result Instr RowFault
tested count last r None = Err rows.Opcode
tested count last r (Some i) = checked_lem (is_same_row (row_of_lem i) r && is_in_range_lem i) (may_stand_lem count last i) i

-- the instruction of a row among so many, and whether it is the last one
abbrev pub instr_of_lem : ℕ → Bool → Row → Result Instr RowFault
instr_of_lem count last r = tested count last r (by_opcode_lem r)

-- the row that stands at a place
abbrev pub row_at_lem : List ℕ → ℕ → Row
row_at_lem bytes at = record {
  code = slice_index bytes at;
  a = slice_index bytes (at + 1);
  b = slice_index bytes (at + 2);
  c = slice_index bytes (at + 3);
  p = from_be_bytes w16 (slice_index bytes (at + 4) ∷ slice_index bytes (at + 5) ∷ []);
  q = from_be_bytes w16 (slice_index bytes (at + 6) ∷ slice_index bytes (at + 7) ∷ []);
}

-- the fault of a row, with its place
abbrev pub placed_lem : RowFault → ℕ → CodeFault
placed_lem rows.Opcode place = faults.Opcode place
placed_lem rows.Field place = faults.Field place
placed_lem rows.Target place = faults.Target place

-- the same of what was read
abbrev pub instr_placed : ℕ → Result Instr RowFault → Result Instr CodeFault
instr_placed place (Ok i) = Ok i
instr_placed place (Err f) = Err (placed_lem f place)

-- the row at the front is the instruction of a program
unfoldable pub instr_at : ℕ → ℕ → ℕ → List ℕ → Result Instr CodeFault
instr_at count left place bytes = instr_placed place (instr_of_lem count (left == 0) (row_at_lem bytes 0))

-- the number of instructions that the bytes announce
abbrev pub count_of : List ℕ → ℕ
count_of bytes = from_be_bytes w16 (slice_index bytes 0 ∷ slice_index bytes 1 ∷ [])

-- 22 bytes and eight for each of 1 to 4,096 instructions
abbrev pub has_length : List ℕ → ℕ → ℕ → Bool
has_length bytes len count = not (nat_lt len 22) && not (count == 0) && not (nat_lt 4096 count) && (len == 22 + 8 * count)

-- all of the bytes: the length first, then the handlers, then the instructions
unfoldable pub code_at : List ℕ → Result Code CodeFault
code_at bytes =
    if has_length bytes (length bytes) (count_of bytes) then (do
      handlers ← items_from (handler_at (count_of bytes)) 2 10 2 (drop 2 bytes)
      instrs ← items_from (instr_at (count_of bytes)) 8 (count_of bytes) 22 (drop 22 bytes)
      Ok (record { instrs = instrs; handlers = handlers }))
    else Err (faults.Length (length bytes))
