-- The dstate, the pick and the inputs.
use Rattle.std.proofs.Common.{◌∷◌, ◌++◌, List, ℕ, inr, refl, ap, subst, ◌∙◌}
use Rattle.std.specs.Prelude.{codes, flat_map, decimal}
use Rattle.kn_model.specs.Reports.{At}
use Rattle.kn_report.specs.Texts.{behind_blank, inputs_text}
use Rattle.kn_report.specs.Views.{reach_of}
use Rattle.kn_report.specs.Words.{Reads}
use Rattle.kn_report.proofs.Fields.{place_dstate}
use Rattle.kn_report.proofs.line_of.place_of.Goals as goal

pub returns : goal.returns
returns c = λ d is a fits from.
    let words = codes " pick" ++ (flat_map behind_blank is ++ (codes " inputs " ++ inputs_text a)) in
    let n = c.word_behind.ensures (decimal d) words (place_dstate d words c.args.text.now fits.0 refl from) in
    let picks = c.behind.ensures (codes " pick") (flat_map behind_blank is ++ (codes " inputs " ++ inputs_text a)) refl n.1 in
    let pick = c.in_ok-pick.ensures is (codes " inputs " ++ inputs_text a) fits.1 (inr (32 ∷ inputs_text a, refl, refl)) picks in
    let last = c.behind-2.ensures (codes " inputs") (32 ∷ inputs_text a) refl pick.1 in
    subst (λ (l : List ℕ). Reads reach_of (At d l a) c.place_with.result) (pick.0 ∙ ap (λ (l : List ℕ). l ++ is) c.new.ensures.items)
    (c.place_with.ensures d a (c.usize_of.ensures d fits.0 n.0) (c.in_ok-inputs.ensures a fits.2 last))
