-- What a program is, without where it lies in memory.
use Rattle.std.specs.Prelude.{◌≡◌, ℕ, ◌+◌, ◌<◌, ◌≤◌, ◌^◌, List, [], ◌∷◌, length, Option, IfSome}
use Rattle.kn_code.specs.declared.program.Instr.{Instr}
use Rattle.kn_code.specs.declared.program.Instr.TheVariants.{Const, Mov, Not, Ld, St, Ldx, Stx, Jmp, Brz, Input, Timer, Cancel, Send, Bcast, Recvw, Add, Sub, Mul, And, Or, Xor, Shl, Shr, Sar, Udiv, Urem, Eq, Ult, Slt, Rlen, Rfrom, Assert, Node, Now, Ret, Halt}

-- Its instructions, and where its ten handlers begin (boot, recv, timer 0 to timer 7).
pub record Code : Type 0 where
  pub instrs : List Instr
  pub handlers : List (Option ℕ)

-- the code without anything, which is no valid program
abbrev pub no_code : Code
no_code = record { instrs = []; handlers = [] }

-- so many words of memory from one on: 1 to 16 of the 64
pub record IsMemorySpan (first count : ℕ) : Type 0 where
  pub some : 1 ≤ count
  pub few : count ≤ 16
  pub within : first + count ≤ 64

-- The fields of an instruction among so many are in range; the first register to send is one of the 16 also where none is
-- sent.
abbrev pub IsInstr : ℕ → Instr → Type 0
IsInstr count (Const a n) = (a < 16) × (n < 2 ^ 16)
IsInstr count (Mov a b) = (a < 16) × (b < 16)
IsInstr count (Not a b) = (a < 16) × (b < 16)
IsInstr count (Ld a m) = (a < 16) × (m < 64)
IsInstr count (St m a) = (m < 64) × (a < 16)
IsInstr count (Ldx a b m n) = (a < 16) × (b < 16) × IsMemorySpan m n
IsInstr count (Stx a b m n) = (a < 16) × (b < 16) × IsMemorySpan m n
IsInstr count (Jmp to) = to < count
IsInstr count (Brz a to) = (a < 16) × (to < count)
IsInstr count (Input a w) = (a < 16) × (1 ≤ w) × (w ≤ 16)
IsInstr count (Timer k d) = (k < 8) × ((1 ≤ d) × (d < 2 ^ 16))
IsInstr count (Cancel k) = k < 8
IsInstr count (Send l b n) = (l < 2 ^ 16) × ((n ≤ 8) × (b + n ≤ 16) × (b < 16))
IsInstr count (Bcast b n) = (n ≤ 8) × (b + n ≤ 16) × (b < 16)
IsInstr count (Recvw a k) = (a < 16) × (k < 8)
IsInstr count (Add a b c) = (a < 16) × (b < 16) × (c < 16)
IsInstr count (Sub a b c) = (a < 16) × (b < 16) × (c < 16)
IsInstr count (Mul a b c) = (a < 16) × (b < 16) × (c < 16)
IsInstr count (And a b c) = (a < 16) × (b < 16) × (c < 16)
IsInstr count (Or a b c) = (a < 16) × (b < 16) × (c < 16)
IsInstr count (Xor a b c) = (a < 16) × (b < 16) × (c < 16)
IsInstr count (Shl a b c) = (a < 16) × (b < 16) × (c < 16)
IsInstr count (Shr a b c) = (a < 16) × (b < 16) × (c < 16)
IsInstr count (Sar a b c) = (a < 16) × (b < 16) × (c < 16)
IsInstr count (Udiv a b c) = (a < 16) × (b < 16) × (c < 16)
IsInstr count (Urem a b c) = (a < 16) × (b < 16) × (c < 16)
IsInstr count (Eq a b c) = (a < 16) × (b < 16) × (c < 16)
IsInstr count (Ult a b c) = (a < 16) × (b < 16) × (c < 16)
IsInstr count (Slt a b c) = (a < 16) × (b < 16) × (c < 16)
IsInstr count (Rlen a) = a < 16
IsInstr count (Rfrom a) = a < 16
IsInstr count (Assert a) = a < 16
IsInstr count (Node a) = a < 16
IsInstr count (Now a) = a < 16
IsInstr count Ret = Unit {0}
IsInstr count Halt = Unit {0}

-- it may stand last
abbrev pub Ends : Instr → Type 0
Ends (Jmp to) = Unit {0}
Ends Ret = Unit {0}
Ends Halt = Unit {0}
Ends other = ⊥

-- a fact of each element and how many come after it
abbrev pub AllWithLeft : {X : Type 0} → (ℕ → X → Type 0) → List X → Type 0
AllWithLeft P [] = Unit {0}
AllWithLeft P (x ∷ xs) = P (length xs) x × AllWithLeft P xs

-- an instruction is in range, and the last one ends
abbrev pub Stands : ℕ → ℕ → Instr → Type 0
Stands count left i = IsInstr count i × (left ≡ 0 → Ends i)

-- a handler's entry names an instruction
abbrev pub Names : ℕ → ℕ → Option ℕ → Type 0
Names count left entry = IfSome entry (λ e. e < count)

-- 1 to 4,096 instructions, each of which stands, and ten handlers
pub record IsValid (code : Code) : Type 0 where
  pub some : 1 ≤ length code.instrs
  pub fits : length code.instrs ≤ 4096
  pub instrs : AllWithLeft (Stands (length code.instrs)) code.instrs
  pub ten : length code.handlers ≡ 10
  pub handlers : AllWithLeft (Names (length code.instrs)) code.handlers
