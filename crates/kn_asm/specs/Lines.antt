-- The lines of a text.
use Rattle.std.specs.Prelude.{ℕ, Bool, true, false, ◌==◌, if◌then◌else◌, List, [], ◌∷◌, length, drop, map, Option, Some, None, slice_index}
use Rattle.std.specs.List.{slice_split}
use Rattle.kn_code.specs.declared.program.Instr.{Instr}
use Rattle.kn_asm.specs.declared.fault.AsmCause.TheVariants as causes
use Rattle.kn_asm.specs.Words.{skip, word, after_word, uncommented, is_name}
use Rattle.kn_asm.specs.Operands.{Operand, operands_after_lem}
use Rattle.kn_asm.specs.Meaning.{Content, nothing, wrong, does, meaning_lem, IsSound}

-- a label, if any, and what follows it; a line that is not of the form of a line has no label
pub record Line : Type 0 where
  pub label : Option (List ℕ)
  pub content : Content

abbrev pub behind_mnemonic : List ℕ → Option (List Operand) → Content
behind_mnemonic name None = wrong causes.Syntax
behind_mnemonic name (Some os) = meaning_lem name os

-- nothing, or a mnemonic and its operands
abbrev pub content_in_lem : List ℕ → Content
content_in_lem text =
    if length text == 0 then nothing
    else if is_name (word text) then behind_mnemonic (word text) (operands_after_lem (after_word text))
    else wrong causes.Syntax

abbrev pub unlabelled : Content → Line
unlabelled content = record { label = None; content = content }

abbrev pub labelled_lem : List ℕ → Content → Line
labelled_lem name (wrong causes.Syntax) = unlabelled (wrong causes.Syntax)
labelled_lem name other = record { label = Some name; content = other }

-- a label with its ':', if any, and a content
abbrev pub line_at_lem : List ℕ → Line
line_at_lem text =
    if slice_index (after_word text) 0 == 58 then (
    if is_name (word text) then labelled_lem (word text) (content_in_lem (skip (drop 1 (after_word text)))) else unlabelled (wrong causes.Syntax))
    else unlabelled (content_in_lem text)

unfoldable pub line_of_lem : List ℕ → Line
line_of_lem text = line_at_lem (skip (uncommented text))

abbrev pub is_feed : ℕ → Bool
is_feed c = c == 10

-- the lines of a text: what follows the last line feed is one too
abbrev pub lines_of_lem : List ℕ → List Line
lines_of_lem text = map line_of_lem (slice_split is_feed text)

-- whether a line counts as an instruction
abbrev pub is_instr_lem : Content → Bool
is_instr_lem nothing = false
is_instr_lem (wrong causes.Syntax) = false
is_instr_lem other = true

-- how many instructions a line counts as
abbrev pub counted_lem : Content → ℕ
counted_lem content = if is_instr_lem content then 1 else 0

-- the label that an instruction has as its target
abbrev pub target_of_lem : Content → Option (List ℕ)
target_of_lem (does i target) = target
target_of_lem other = None

-- the instruction, with 0 in place of its target
abbrev pub instr_of_content : Content → Option Instr
instr_of_content (does i target) = Some i
instr_of_content other = None

-- lines whose instructions are in range
abbrev pub AreSound : List Line → Type 0
AreSound [] = Unit {0}
AreSound (l ∷ ls) = IsSound l.content × AreSound ls
