-- The line at the front of a text.
use Rattle.std.proofs.Common.{◌≡◌, ℕ, ◌+◌, ◌≤◌, List, ◌∷◌, ◌++◌, length, take, refl, ap, sym, subst, ◌∙◌, arith, append_assoc, length-append}
use Rattle.std.specs.Prelude.{Some, None, codes}
use Rattle.std.proofs.Math.Seq.{take-append_seam}
use Rattle.kn_report.specs.Words.{Without, BeginsWith, IsItemRead}
use Rattle.kn_report.proofs.Cut.{cut_once, same_rest, some_is, none_is}

-- a line ends with a line feed
pub line_some : (body : List ℕ) → 1 ≤ length (body ++ codes "\n")
line_some body = omega (arith, length-append body (codes "\n"))

module _ {A : Type 0} (body : A → List ℕ) (P : A → Type 0) (no_feed : (y : A) → P y → Without 10 (body y)) (text line rest : List ℕ) (is : text ≡ line ++ rest) (w : Without 10 line) (b : BeginsWith 10 rest) where
  -- a text that begins with an item's line is cut at its end
  pub line_cut : (y : A) (more : List ℕ) → P y → text ≡ (body y ++ codes "\n") ++ more → line ≡ body y
  line_cut y more good from = (cut_once 10 line rest (body y) (10 ∷ more) w b (no_feed y good) refl (sym is ∙ from ∙ append_assoc (body y) (codes "\n") more)).0

  -- nothing was read of the line
  pub line_of_none : ((y : A) → P y → line ≡ body y → None ≡ Some y) → (y : A) (more : List ℕ) → P y → text ≡ (body y ++ codes "\n") ++ more → ⊥
  line_of_none reads y more good from = none_is y (reads y good (line_cut y more good from))

  -- what was read is not of the form, or is spelled otherwise
  pub line_of_other : (x : A) → ((y : A) → P y → line ≡ body y → Some x ≡ Some y) → (P x → (more : List ℕ) → text ≡ (body x ++ codes "\n") ++ more → ⊥) → (y : A) (more : List ℕ) → P y → text ≡ (body y ++ codes "\n") ++ more → ⊥
  line_of_other x reads wrong y more good from =
      let same = some_is x y (reads y good (line_cut y more good from)) in
      wrong (subst P (sym same) good) more (from ∙ ap (λ (z : A). (body z ++ codes "\n") ++ more) (sym same))

  -- what was read is spelled as it stands
  pub line_of_item : (x : A) (after : List ℕ) → ((y : A) → P y → line ≡ body y → Some x ≡ Some y) → P x → text ≡ (body x ++ codes "\n") ++ after → IsItemRead (λ (y : A). body y ++ codes "\n") P text x after
  line_of_item x after reads good whole = record {
    whole = whole;
    good = good;
    one = λ y more fine from.
        let same = some_is x y (reads y fine (line_cut y more fine from)) in
        (sym same, same_rest (body x ++ codes "\n") more after (ap (λ (z : A). (body z ++ codes "\n") ++ more) same ∙ sym from ∙ whole));
  }

-- a text begins with a piece
pub begins_with : (text piece more : List ℕ) → text ≡ piece ++ more → take (length piece) text ≡ piece
begins_with text piece more from = ap (take (length piece)) from ∙ take-append_seam piece more
