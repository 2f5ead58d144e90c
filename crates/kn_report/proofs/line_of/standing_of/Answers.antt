-- A number, or inputs.
use Rattle.std.proofs.Common.{◌≡◌, true, false, refl, ap, sym, ◌∙◌}
use Rattle.std.specs.Prelude.{Some, codes, decimal}
use Rattle.std.proofs.lemmas.Bool.Decides.{Decides-eqb}
use Rattle.std.proofs.lemmas.Slice.Eq.{slice_eq-Decides}
use Rattle.kn_report.proofs.Numbers.{standing_open, standing_inputs}
use Rattle.kn_report.proofs.line_of.standing_of.Goals as goal

pub returns-then-eq : goal.returns-then-eq
returns-then-eq c = λ s fits is.
    let u = c.until.ensures in
    let same : c.until.result.0.now ≡ codes "open" = (slice_eq-Decides Decides-eqb c.until.result.0.now (codes "open") c.eq.result (rw c.as_slice.ensures at c.eq.ensures)).0 c.if-eq.true in
    let n = standing_open s c.args.text.now c.until.result.0.now c.until.result.1.now fits is u.whole u.without u.begins same in
    c.not_decided.ensures n.0 (c.number_of.ensures n.0 n.1 (c.behind.ensures (codes " ") (decimal n.0) refl n.3)) ∙ ap Some (sym n.2)

pub returns : goal.returns
returns c = λ s fits is.
    let u = c.until.ensures in
    let other : c.until.result.0.now ≡ codes "open" → ⊥ = λ e. let wrong : true ≡ false = sym ((slice_eq-Decides Decides-eqb c.until.result.0.now (codes "open") c.eq.result (rw c.as_slice.ensures at c.eq.ensures)).1 e) ∙ c.if-eq.false in cc in
    let a = standing_inputs s c.args.text.now c.until.result.0.now c.until.result.1.now fits is u.whole u.without u.begins other in
    c.known_inputs.ensures a.0 (c.in_ok-inputs_of.ensures a.0 a.1 a.3) ∙ ap Some (sym a.2)
