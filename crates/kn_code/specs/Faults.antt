-- Where each fault is, said of the bytes: the length first, then the first handler or instruction that is not right.
use Rattle.std.specs.Prelude.{◌≡◌, ◌≢◌, ◌⊎◌, ℕ, ◌+◌, ◌*◌, ◌-◌, ◌<◌, ◌≤◌, List, [], ◌∷◌, length, slice_index}
use Rattle.std.specs.Int.{w16, from_be_bytes}
use Rattle.kn_code.specs.declared.program.Instr.{Instr}
use Rattle.kn_code.specs.declared.row.Row.{Row}
use Rattle.kn_code.specs.declared.decoding.CodeFault.{CodeFault}
use Rattle.kn_code.specs.declared.decoding.CodeFault.TheVariants as faults
use Rattle.kn_code.specs.Code.{IsInstr, Stands}
use Rattle.kn_code.specs.Rows.{row_of_lem}

-- the word whose two bytes stand at a place
abbrev pub word_at : List ℕ → ℕ → ℕ
word_at bytes at = from_be_bytes w16 (slice_index bytes at ∷ slice_index bytes (at + 1) ∷ [])

-- the eight bytes that stand at a place
abbrev pub row_here : List ℕ → ℕ → Row
row_here bytes at = record {
  code = slice_index bytes at;
  a = slice_index bytes (at + 1);
  b = slice_index bytes (at + 2);
  c = slice_index bytes (at + 3);
  p = word_at bytes (at + 4);
  q = word_at bytes (at + 6);
}

-- fewer than 22 bytes, no instruction or more than 4,096, or another length than 22 + 8n
abbrev pub HasWrongLength : List ℕ → Type 0
HasWrongLength bytes = (length bytes < 22) ⊎ (word_at bytes 0 ≡ 0) ⊎ (4096 < word_at bytes 0) ⊎ (length bytes ≢ 22 + 8 * word_at bytes 0)

-- an entry is neither 65,535 nor an instruction's index
abbrev pub IsWrongEntry : ℕ → ℕ → Type 0
IsWrongEntry count entry = (entry ≢ 65535) × (count ≤ entry)

-- no instruction has the opcode
abbrev pub HasWrongOpcode : Row → Type 0
HasWrongOpcode r = (i : Instr) (count : ℕ) → IsInstr count i → (row_of_lem i).code ≢ r.code

-- an instruction has the opcode, but none has these fields: one is out of its range, or one is not used and not 0
pub record HasWrongField (r : Row) : Type 0 where
  pub instr : Instr
  pub count : ℕ
  pub fits : IsInstr count instr
  pub opcode : (row_of_lem instr).code ≡ r.code
  pub none : (i : Instr) (n : ℕ) → IsInstr n i → r ≢ row_of_lem i

-- an instruction has these fields, but none that has them stands here: its target is not below the number of
-- instructions, or it may not be the last
pub record HasWrongTarget (count left : ℕ) (r : Row) : Type 0 where
  pub instr : Instr
  pub among : ℕ
  pub fits : IsInstr among instr
  pub fields : r ≡ row_of_lem instr
  pub stray : (i : Instr) → r ≡ row_of_lem i → Stands count left i → ⊥

-- a row is an instruction's that stands there
pub record HasInstr (count left : ℕ) (r : Row) : Type 0 where
  pub instr : Instr
  pub fields : r ≡ row_of_lem instr
  pub stands : Stands count left instr

-- the handler's entry at the place is wrong, and the length and the entries before it are right
pub record IsAtHandler (bytes : List ℕ) (place : ℕ) : Type 0 where
  pub length : HasWrongLength bytes → ⊥
  pub index : ℕ
  pub below : index < 10
  pub here : place ≡ 2 + 2 * index
  pub wrong : IsWrongEntry (word_at bytes 0) (word_at bytes place)
  pub before : (k : ℕ) → k < index → IsWrongEntry (word_at bytes 0) (word_at bytes (2 + 2 * k)) → ⊥

-- the row at the place is wrong, and the length, the handlers and the instructions before it are right
pub record IsAtInstr (bytes : List ℕ) (place : ℕ) (Wrong : ℕ → ℕ → Row → Type 0) : Type 0 where
  pub length : HasWrongLength bytes → ⊥
  pub handlers : (k : ℕ) → k < 10 → IsWrongEntry (word_at bytes 0) (word_at bytes (2 + 2 * k)) → ⊥
  pub index : ℕ
  pub below : index < word_at bytes 0
  pub here : place ≡ 22 + 8 * index
  pub wrong : Wrong (word_at bytes 0) (word_at bytes 0 - 1 - index) (row_here bytes place)
  pub before : (k : ℕ) → k < index → HasInstr (word_at bytes 0) (word_at bytes 0 - 1 - k) (row_here bytes (22 + 8 * k))

-- The first fault and its place. At one place it is the opcode's, else a field's, else the target's. Want of memory is no
-- fault of the bytes.
abbrev pub IsFirstFault : List ℕ → CodeFault → Type 0
IsFirstFault bytes (faults.Length place) = HasWrongLength bytes × (place ≡ length bytes)
IsFirstFault bytes (faults.Handler place) = IsAtHandler bytes place
IsFirstFault bytes (faults.Opcode place) = IsAtInstr bytes place (λ count left r. HasWrongOpcode r)
IsFirstFault bytes (faults.Field place) = IsAtInstr bytes place (λ count left r. HasWrongField r)
IsFirstFault bytes (faults.Target place) = IsAtInstr bytes place (λ count left r. HasWrongTarget count left r)
IsFirstFault bytes (faults.Memory e) = ⊥

-- a fact of a fault of the bytes
abbrev pub UnlessMemory : CodeFault → Type 0 → Type 0
UnlessMemory (faults.Memory e) P = Unit {0}
UnlessMemory other P = P
