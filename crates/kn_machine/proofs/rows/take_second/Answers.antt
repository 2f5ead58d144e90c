use Rattle.std.proofs.Common.{true, ap, sym, ◌∙◌}
use Rattle.kn_machine.specs.Ways.{way_of}
use Rattle.kn_machine.specs.Effects.{here_of, side_at}
use Rattle.kn_machine.proofs.Sides.{side_is, bounds_second}
use Rattle.kn_machine.proofs.rows.take_second.Goals as goal

pub returns-in-Brz-clause-way : goal.returns-in-Brz-clause-way
returns-in-Brz-clause-way c = λ net.
    let here = here_of net c.args.spot.now in
    let v = way_of c.args.way.now in
    side_is here c.args.instr true v (way_of c.jump.new.self) (c.jump.ensures.way ∙ ap (λ i. side_at here i true v) (sym c.in-Brz.is))

pub returns-in-Assert-clause-way : goal.returns-in-Assert-clause-way
returns-in-Assert-clause-way c = λ net.
    let here = here_of net c.args.spot.now in
    let v = way_of c.args.way.now in
    side_is here c.args.instr true v (way_of c.fail.new.way) (c.fail.ensures.way ∙ ap (λ i. side_at here i true v) (sym c.in-Assert.is))

pub returns-in_default : goal.returns-in_default
returns-in_default c =
    let v = way_of c.args.way.now in
    record {
      way = λ net. side_is (here_of net c.args.spot.now) c.args.instr true v (way_of c.fail-in_default.new.way) (c.fail-in_default.ensures.way ∙ bounds_second (here_of net c.args.spot.now) c.args.instr v c.requires.decides c.in_default.not-Brz c.in_default.not-Assert);
      still = c.fail-in_default.ensures.still;
    }
