-- The operands of an instruction in a line.
use Rattle.std.specs.Prelude.{ℕ, Bool, ◌==◌, nat_lt, if◌then◌else◌, List, [], ◌∷◌, length, drop, Option, Some, None, slice_index, string_bytes}
use Rattle.std.specs.List.{slice_split}
use Rattle.kn_asm.specs.declared.operand.Operand.{Operand as CodeOperand}
use Rattle.kn_asm.specs.declared.operand.Operand.TheVariants as operands
use Rattle.kn_asm.specs.Words.{skip, word, after_word, is_blank, is_name, decimal_of_lem, number_of_lem}

-- a register, a number, or a name
pub data Operand : Type 0 where
  register : ℕ → Operand
  number : ℕ → Operand
  named : List ℕ → Operand

-- an operand without where its name lies in memory
abbrev pub operand_view : CodeOperand → Operand
operand_view (operands.Register r) = register r
operand_view (operands.Number n) = number n
operand_view (operands.Name name) = named (string_bytes name)

-- the numbers of the registers
abbrev pub below_16 : Option ℕ → Option ℕ
below_16 None = None
below_16 (Some n) = if nat_lt n 16 then Some n else None

-- the register that a word names: `r` and 0 to 15
abbrev pub register_of_lem : List ℕ → Option ℕ
register_of_lem w = if slice_index w 0 == 114 then below_16 (decimal_of_lem (drop 1 w)) else None

-- a word that is neither a register nor a number
abbrev pub name_operand : List ℕ → Option Operand
name_operand w = if is_name w then Some (named w) else None

abbrev pub number_operand : Option ℕ → List ℕ → Option Operand
number_operand None w = name_operand w
number_operand (Some n) w = Some (number n)

abbrev pub register_operand : Option ℕ → List ℕ → Option Operand
register_operand None w = number_operand (number_of_lem w) w
register_operand (Some r) w = Some (register r)

-- the operand that a word is
abbrev pub operand_of_lem : List ℕ → Option Operand
operand_of_lem w = register_operand (register_of_lem w) w

-- the operand that a text is but for blanks round it
abbrev pub operand_in_lem : List ℕ → Option Operand
operand_in_lem text = if length (skip (after_word (skip text))) == 0 then operand_of_lem (word (skip text)) else None

abbrev pub is_comma : ℕ → Bool
is_comma c = c == 44

abbrev pub put_first : {A : Type 0} → Option A → Option (List A) → Option (List A)
put_first None others = None
put_first (Some x) None = None
put_first (Some x) (Some others) = Some (x ∷ others)

-- the operands of some texts, where each is one
unfoldable pub operands_of_lem : List (List ℕ) → Option (List Operand)
operands_of_lem [] = Some []
operands_of_lem (text ∷ texts) = put_first (operand_in_lem text) (operands_of_lem texts)

-- the operands behind a mnemonic: none, or after a blank some that commas separate
abbrev pub operands_after_lem : List ℕ → Option (List Operand)
operands_after_lem rest =
    if length (skip rest) == 0 then Some []
    else if is_blank (slice_index rest 0) then operands_of_lem (slice_split is_comma rest)
    else None
