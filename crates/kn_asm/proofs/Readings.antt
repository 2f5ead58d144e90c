-- A line whose label is read first.
use Rattle.std.proofs.Common.{◌≡◌, ℕ, Bool, true, false, List, drop, Some, None, refl, sym, ap, ◌∙◌}
use Rattle.std.specs.Prelude.{◌==◌, slice_index, if◌then◌else◌}
use Rattle.kn_asm.specs.Words.{skip, word, after_word, is_name}
use Rattle.kn_asm.specs.Meaning.{Content}
use Rattle.kn_asm.specs.Lines.{Line, content_in_lem, labelled_lem, line_at_lem}

colon_front : (b : Bool) (rest after : List ℕ) → Some after ≡ (if b then Some rest else None) → (b ≡ true) × (after ≡ rest)
colon_front true rest after e = (refl, cc)
colon_front false rest after e = absurd cc

pub labelled_line : (text w rest after : List ℕ) (content : Content) (l : Line) → w ≡ word text → rest ≡ after_word text
    → Some after ≡ (if slice_index rest 0 == 58 then Some (drop 1 rest) else None) → true ≡ is_name w → content ≡ content_in_lem (skip after) → l ≡ labelled_lem w content → l ≡ line_at_lem text
labelled_line text w rest after content l is_w is_rest colon named is_content is_l =
    let h : ((slice_index rest 0 == 58) ≡ true) × (after ≡ drop 1 rest) = colon_front (slice_index rest 0 == 58) (drop 1 rest) after colon in
    let behind : content ≡ content_in_lem (skip (drop 1 (after_word text))) = is_content ∙ ap (λ (a : List ℕ). content_in_lem (skip a)) (h.1 ∙ ap (drop 1) is_rest) in
    let here : (slice_index (after_word text) 0 == 58) ≡ true = sym (ap (λ (r : List ℕ). slice_index r 0 == 58) is_rest) ∙ h.0 in
    let name : is_name (word text) ≡ true = sym (named ∙ ap is_name is_w) in
    is_l ∙ ap (λ (v : List ℕ). labelled_lem v content) is_w ∙ ap (labelled_lem (word text)) behind ∙ rw (here, name) refl
