-- A place, or a word.
use Rattle.std.proofs.Common.{◌≡◌, true, false, sym, subst, ◌∙◌}
use Rattle.std.specs.Prelude.{codes}
use Rattle.std.proofs.lemmas.Bool.Decides.{Decides-eqb}
use Rattle.std.proofs.lemmas.Slice.Eq.{slice_eq-Decides}
use Rattle.std.proofs.lemmas.Result.{MatchResult-weaker}
use Rattle.kn_model.specs.Reports.{Reach}
use Rattle.kn_report.specs.Views.{reach_of}
use Rattle.kn_report.specs.Words.{Reads}
use Rattle.kn_report.proofs.Numbers.{reach_open, reach_nowhere, reach_place}
use Rattle.kn_report.proofs.line_of.reach_of_text.Goals as goal

pub returns-then-eq : goal.returns-then-eq
returns-then-eq c = λ x fits is.
    let u = c.until.ensures in
    reach_open x c.args.text.now c.until.result.0.now c.until.result.1.now fits is u.whole u.without u.begins
    ((slice_eq-Decides Decides-eqb c.until.result.0.now (codes "open") c.eq.result (rw c.as_slice.ensures at c.eq.ensures)).0 c.if-eq.true)

pub returns-then-eq-2 : goal.returns-then-eq-2
returns-then-eq-2 c = λ x fits is.
    let u = c.until.ensures in
    reach_nowhere x c.args.text.now c.until.result.0.now c.until.result.1.now fits is u.whole u.without u.begins
    ((slice_eq-Decides Decides-eqb c.until.result.0.now (codes "nowhere") c.eq-2.result (rw c.as_slice-2.ensures at c.eq-2.ensures)).0 c.if-eq-2.true)

pub returns : goal.returns
returns c = MatchResult-weaker c.place_of.result c.place_of.ensures (λ o reads. λ x fits is.
    let u = c.until.ensures in
    let not_open : c.until.result.0.now ≡ codes "open" → ⊥ = λ e. let wrong : true ≡ false = sym ((slice_eq-Decides Decides-eqb c.until.result.0.now (codes "open") c.eq.result (rw c.as_slice.ensures at c.eq.ensures)).1 e) ∙ c.if-eq.false in cc in
    let not_nowhere : c.until.result.0.now ≡ codes "nowhere" → ⊥ = λ e. let wrong : true ≡ false = sym ((slice_eq-Decides Decides-eqb c.until.result.0.now (codes "nowhere") c.eq-2.result (rw c.as_slice-2.ensures at c.eq-2.ensures)).1 e) ∙ c.if-eq-2.false in cc in
    let p = reach_place x c.args.text.now c.until.result.0.now c.until.result.1.now fits is u.whole u.without u.begins not_open not_nowhere in
    subst (λ (y : Reach). Reads reach_of y o) (sym p.4) (reads p.0 p.1 p.2 p.3 p.5)) (λ e q. q)
