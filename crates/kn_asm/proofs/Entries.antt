-- The lines of a program's text, as they are read.
use Rattle.std.proofs.Common.{◌≡◌, ℕ, zero, suc, ◌+◌, ◌<◌, ◌≤◌, Bool, true, false, List, [], ◌∷◌, ◌++◌, length, codes, Option, Some, None, refl, ap, ◌∙◌, arith, append_assoc}
use Rattle.std.specs.Prelude.{◌==◌, slice_index, slice_index_or, if◌then◌else◌}
use Rattle.std.specs.List.{list_all, list_any}
use Rattle.kn_code.specs.declared.program.Instr.{Instr}
use Rattle.kn_code.specs.Code.{AllWithLeft, Stands}
use Rattle.kn_asm.specs.Words.{is_word, is_name}
use Rattle.kn_asm.specs.Meaning.{nothing}
use Rattle.kn_asm.specs.Lines.{Line, lines_of_lem}
use Rattle.kn_asm.specs.Assembling.{handler_names}
use Rattle.kn_asm.specs.Printing.{label_text, instr_text, goes_to, label_line, is_at, handler_lines, lines_text}
use Rattle.kn_asm.proofs.Printed.{label_name, decimal_word}
use Rattle.kn_asm.proofs.PrintedLines.{IsLine, line_more, line_end, label_line_is, instr_entry, instr_line_is}

-- ---- the entries

abbrev pub label_of : List ℕ → Line
label_of w = record { label = Some w; content = nothing }

-- a label in front of some lines, where it is wanted
abbrev pub label_when : Bool → List ℕ → List Line → List Line
label_when false w ls = ls
label_when true w ls = label_of w ∷ ls

abbrev pub handler_name : ℕ → List ℕ
handler_name n = slice_index_or handler_names n []

abbrev pub handler_entries : ℕ → ℕ → List (Option ℕ) → List Line → List Line
handler_entries index number [] ls = ls
handler_entries index number (e ∷ es) ls = label_when (is_at index e) (handler_name number) (handler_entries index (number + 1) es ls)

abbrev pub entries : List Instr → List (Option ℕ) → ℕ → List Instr → List Line
entries all handlers index [] = record { label = None; content = nothing } ∷ []
entries all handlers index (i ∷ is) =
    handler_entries index 0 handlers (label_when (list_any (goes_to index) all) (label_text index) (instr_entry i ∷ entries all handlers (index + 1) is))

-- ---- the names of the handlers

-- a name that no target's label is
pub record IsHandlerName (w : List ℕ) : Type 0 where
  pub words : list_all is_word w ≡ true
  pub named : is_name w ≡ true
  pub apart : (slice_index w 0 == 76) ≡ false

pub handler_named : (n : ℕ) → n < 10 → IsHandlerName (handler_name n)
handler_named zero lt = record { words = refl; named = refl; apart = refl }
handler_named (suc zero) lt = record { words = refl; named = refl; apart = refl }
handler_named (suc (suc zero)) lt = record { words = refl; named = refl; apart = refl }
handler_named (suc (suc (suc zero))) lt = record { words = refl; named = refl; apart = refl }
handler_named (suc (suc (suc (suc zero)))) lt = record { words = refl; named = refl; apart = refl }
handler_named (suc (suc (suc (suc (suc zero))))) lt = record { words = refl; named = refl; apart = refl }
handler_named (suc (suc (suc (suc (suc (suc zero)))))) lt = record { words = refl; named = refl; apart = refl }
handler_named (suc (suc (suc (suc (suc (suc (suc zero))))))) lt = record { words = refl; named = refl; apart = refl }
handler_named (suc (suc (suc (suc (suc (suc (suc (suc zero)))))))) lt = record { words = refl; named = refl; apart = refl }
handler_named (suc (suc (suc (suc (suc (suc (suc (suc (suc zero))))))))) lt = record { words = refl; named = refl; apart = refl }
handler_named (suc (suc (suc (suc (suc (suc (suc (suc (suc (suc n)))))))))) lt = absurd (omega (arith, lt))

-- ---- the text of the entries

when_read : (b : Bool) (w rest : List ℕ) (ls : List Line) → IsLine (w ++ codes ":\n") (label_of w) → lines_of_lem rest ≡ ls
    → lines_of_lem ((if b then w ++ codes ":\n" else []) ++ rest) ≡ label_when b w ls
when_read false w rest ls h more = more
when_read true w rest ls h more = line_more (w ++ codes ":\n") rest (label_of w) ls h more

handlers_read : (index number : ℕ) (es : List (Option ℕ)) (rest : List ℕ) (ls : List Line) → number + length es ≡ 10 → lines_of_lem rest ≡ ls
    → lines_of_lem (handler_lines index number es ++ rest) ≡ handler_entries index number es ls
handlers_read index number [] rest ls ten more = more
handlers_read index number (e ∷ es) rest ls ten more =
    let name = handler_named number (omega (arith, ten)) in
    let w : List ℕ = handler_name number in
    ap lines_of_lem (append_assoc (if is_at index e then w ++ codes ":\n" else []) (handler_lines index (number + 1) es) rest)
    ∙ when_read (is_at index e) w (handler_lines index (number + 1) es ++ rest) (handler_entries index (number + 1) es ls) (label_line_is w name.words name.named) (handlers_read index (number + 1) es rest ls (omega (arith, ten)) more)

target_read : (b : Bool) (index : ℕ) (rest : List ℕ) (ls : List Line) → index < 65536 → lines_of_lem rest ≡ ls → lines_of_lem (label_line b index ++ rest) ≡ label_when b (label_text index) ls
target_read false index rest ls lt more = more
target_read true index rest ls lt more =
    line_more (label_text index ++ codes ":\n") rest (label_of (label_text index)) ls (label_line_is (label_text index) (decimal_word index lt) (label_name index lt)) more

place_assoc : (a b c d : List ℕ) → (a ++ (b ++ c)) ++ d ≡ a ++ (b ++ (c ++ d))
place_assoc a b c d = append_assoc a (b ++ c) d ∙ ap (λ (l : List ℕ). a ++ l) (append_assoc b c d)

pub entries_read : (all : List Instr) (handlers : List (Option ℕ)) (index count : ℕ) (is : List Instr) → length handlers ≡ 10 → count ≤ 4096 → index + length is ≤ 4096 → AllWithLeft (Stands count) is
    → lines_of_lem (lines_text all handlers index is) ≡ entries all handlers index is
unfolding lines_text
entries_read all handlers index count [] ten few room h = line_end
entries_read all handlers index count (i ∷ is) ten few room h =
    let b : Bool = list_any (goes_to index) all in
    let more : lines_of_lem (lines_text all handlers (index + 1) is) ≡ entries all handlers (index + 1) is = entries_read all handlers (index + 1) count is ten few (omega (arith, room)) h.1 in
    let one : lines_of_lem (instr_text i ++ lines_text all handlers (index + 1) is) ≡ instr_entry i ∷ entries all handlers (index + 1) is =
    line_more (instr_text i) (lines_text all handlers (index + 1) is) (instr_entry i) (entries all handlers (index + 1) is) (instr_line_is count i few h.0.0) more in
    ap lines_of_lem (place_assoc (handler_lines index 0 handlers) (label_line b index) (instr_text i) (lines_text all handlers (index + 1) is))
    ∙ handlers_read index 0 handlers (label_line b index ++ (instr_text i ++ lines_text all handlers (index + 1) is)) (label_when b (label_text index) (instr_entry i ∷ entries all handlers (index + 1) is)) (omega (arith, ten))
    (target_read b index (instr_text i ++ lines_text all handlers (index + 1) is) (instr_entry i ∷ entries all handlers (index + 1) is) (omega (arith, room)) one)
