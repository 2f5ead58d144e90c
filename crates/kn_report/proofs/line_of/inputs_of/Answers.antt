-- None, or some.
use Rattle.std.proofs.Common.{◌≡◌, true, ap, ◌∙◌}
use Rattle.std.specs.Prelude.{Some, codes}
use Rattle.std.proofs.lemmas.Bool.Decides.{Decides-eqb}
use Rattle.std.proofs.lemmas.Slice.Eq.{slice_eq-Decides}
use Rattle.kn_report.proofs.Numbers.{no_inputs}
use Rattle.kn_report.proofs.line_of.inputs_of.Goals as goal

pub returns-then-eq : goal.returns-then-eq
returns-then-eq c = λ a fits is.
    let dash : c.args.text.now ≡ codes " -" = (slice_eq-Decides Decides-eqb c.args.text.now (codes " -") c.eq.result (rw c.as_slice.ensures at c.eq.ensures)).0 c.if-eq.true in
    ap Some (c.new.ensures ∙ no_inputs a c.args.text.now fits is dash)
