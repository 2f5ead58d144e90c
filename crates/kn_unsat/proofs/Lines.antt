-- The lines of a text, one by one.
use Rattle.std.proofs.Common.{◌≡◌, ℕ, ◌<◌, List, [], ◌∷◌, ◌++◌, length, ap, sym, ◌∙◌, arith, append_assoc, append-nil}
use Rattle.std.specs.List.{AllByRecursion}
use Rattle.std.proofs.lemmas.List.Concat.{flat_map-cons, flat_map-append}
use Rattle.kn_cnf.specs.Formulas.{Step}
use Rattle.kn_unsat.specs.Text.{line_text, text_of, IsNumbered}
use Rattle.kn_unsat.specs.Words.{IsLineRead}

-- what is left of a log
abbrev pub LeftLines : List Step → List Step → List ℕ → Type 0
LeftLines log lines rest = (tail : List Step) × (log ≡ lines ++ tail) × AllByRecursion IsNumbered tail × (rest ≡ text_of tail)

pub found_more : (text : List ℕ) (lines : List Step) (rest : List ℕ) (line : Step) (after : List ℕ) → text ≡ text_of lines ++ rest → rest ≡ line_text line ++ after → text ≡ text_of (lines ++ line ∷ []) ++ after
found_more text lines rest line after found is =
    let last : text_of (line ∷ []) ≡ line_text line = flat_map-cons line_text line [] ∙ append-nil (line_text line) in
    let whole : text_of (lines ++ line ∷ []) ≡ text_of lines ++ line_text line = flat_map-append line_text lines (line ∷ []) ∙ ap (λ (t : List ℕ). text_of lines ++ t) last in
    found ∙ (ap (λ (t : List ℕ). text_of lines ++ t) is ∙ (sym (append_assoc (text_of lines) (line_text line) after) ∙ ap (λ (t : List ℕ). t ++ after) (sym whole)))

pub numbered_more : (lines : List Step) (line : Step) → AllByRecursion IsNumbered lines → IsNumbered line → AllByRecursion IsNumbered (lines ++ line ∷ [])
numbered_more [] line all n = (n, tt)
numbered_more (s ∷ ss) line all n = (all.0, numbered_more ss line all.1 n)

pub left_more : (log lines : List Step) (rest : List ℕ) (line : Step) (after : List ℕ) → LeftLines log lines rest → IsLineRead rest line after → LeftLines log (lines ++ line ∷ []) after
left_more log lines rest line after left read = go left.0 left.1 left.2 left.3
  where
    go : (tail : List Step) → log ≡ lines ++ tail → AllByRecursion IsNumbered tail → rest ≡ text_of tail → LeftLines log (lines ++ line ∷ []) after
    go [] e all r = let wrong : line_text line ++ after ≡ [] = sym read.whole ∙ r in absurd (omega (arith, ap length wrong))
    go (s ∷ ss) e all r =
        let one = read.one s (text_of ss) all.0 (r ∙ flat_map-cons line_text s ss) in
        (ss, e ∙ (ap (λ (t : Step). lines ++ t ∷ ss) one.0 ∙ sym (append_assoc lines (line ∷ []) ss)), all.1, sym one.1)

pub left_wrong : (log lines : List Step) (rest : List ℕ) → LeftLines log lines rest → 0 < length rest → ((s : Step) (after : List ℕ) → IsNumbered s → rest ≡ line_text s ++ after → ⊥) → ⊥
left_wrong log lines rest left some wrong = go left.0 left.2 left.3
  where
    go : (tail : List Step) → AllByRecursion IsNumbered tail → rest ≡ text_of tail → ⊥
    go [] all r = omega (arith, some, ap length r)
    go (s ∷ ss) all r = wrong s (text_of ss) all.0 (r ∙ flat_map-cons line_text s ss)

pub left_none : (log lines : List Step) (rest : List ℕ) → LeftLines log lines rest → length rest ≡ 0 → lines ≡ log
left_none log lines rest left none = go left.0 left.1 left.3
  where
    go : (tail : List Step) → log ≡ lines ++ tail → rest ≡ text_of tail → lines ≡ log
    go [] e r = sym (e ∙ append-nil lines)
    go (s ∷ ss) e r = absurd (omega (arith, none, ap length (r ∙ flat_map-cons line_text s ss)))
