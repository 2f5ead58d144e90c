-- A piece that is taken off the front of a text.
use Rattle.std.proofs.Common.{◌≡◌, ℕ, ◌+◌, ◌≤◌, true, false, List, ◌++◌, length, take, drop, sym, ap, ◌∙◌, arith}
use Rattle.std.specs.Prelude.{nat_eq, codes}
use Rattle.std.specs.Cmp.Lexicographic.{pointwise}
use Rattle.std.proofs.lemmas.Bool.Decides.{Decides-eqb}
use Rattle.std.proofs.lemmas.Slice.Eq.{slice_eq-Decides}
use Rattle.std.proofs.lemmas.List.{take-append-drop}
use Rattle.kn_report.proofs.Lines.{begins_with, line_some}

-- the text begins with the piece
pub stripped : (text piece spelled after : List ℕ) → piece ≡ spelled → pointwise nat_eq (take (length piece) text) piece ≡ true → after ≡ drop (length piece) text → text ≡ spelled ++ after
stripped text piece spelled after is same rest =
    let front : take (length piece) text ≡ piece = (slice_eq-Decides Decides-eqb (take (length piece) text) piece true (sym same)).0 same_true in
    sym (take-append-drop (length piece) text) ∙ ap (λ (l : List ℕ). l ++ drop (length piece) text) (front ∙ is) ∙ ap (λ (l : List ℕ). spelled ++ l) (sym rest)
  where
    same_true : true ≡ true
    same_true = cc

-- the text does not begin with the piece
pub not_stripped : (text piece spelled : List ℕ) → piece ≡ spelled → pointwise nat_eq (take (length piece) text) piece ≡ false → (more : List ℕ) → text ≡ spelled ++ more → ⊥
not_stripped text piece spelled is differs more from =
    let front : take (length piece) text ≡ piece = begins_with text piece more (from ∙ ap (λ (l : List ℕ). l ++ more) (sym is)) in
    let wrong : false ≡ true = (slice_eq-Decides Decides-eqb (take (length piece) text) piece false (sym differs)).1 front in
    cc

-- what is left is shorter, where the piece is a line
pub shorter : (text piece body after : List ℕ) → piece ≡ body ++ codes "\n" → length after + length piece ≡ length text → 1 + length after ≤ length text
shorter text piece body after is sum = omega (arith, sum, ap length is, line_some body)
