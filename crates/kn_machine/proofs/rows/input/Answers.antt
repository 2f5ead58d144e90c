use Rattle.std.proofs.Common.{◌≡◌, ap, sym, ◌∙◌}
use Rattle.kn_machine.specs.Ways.{WayView}
use Rattle.kn_machine.proofs.Stepping.{input_full}
use Rattle.kn_machine.proofs.rows.input.Goals as goal

pub returns-then-index-eq65535 : goal.returns-then-index-eq65535
returns-then-index-eq65535 c = λ net.
    let v = c.args.way.now in
    let same : v.machine.inputs ≡ c.way-inside.inside.0.0.inputs = sym (ap (λ i. i.machine.inputs) c.way-inside.view_is ∙ ap (λ (z : WayView). z.machine.inputs) c.way.view_is) in
    input_full net c.args.spot.now c.args.a c.args.w v c.fail.new.way (same ∙ c.if-index-eq65535.true) c.fail.ensures.way c.fail.ensures.still
