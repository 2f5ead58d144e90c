-- A way up to its end.
use Rattle.std.proofs.Common.{◌<◌, ap, ◌∙◌, arith}
use Rattle.kn_plan.specs.Files.{File}
use Rattle.kn_conc.specs.Ways.{here_of, way_of}
use Rattle.kn_conc.specs.declared.rows.Step.TheVariants as steps
use Rattle.kn_conc.proofs.Turning.{turns_on}
use Rattle.kn_conc.proofs.run.run.Goals as goal

pub returns-in-Stops-clause-way : goal.returns-in-Stops-clause-way
returns-in-Stops-clause-way c =
    let fuel = c.args.net.now.network.limits.fuel in
    let less : c.loop-done.done < fuel = omega (arith, c.loop-done-test.true, ap (λ (f : File). f.network.limits.fuel) c.net.view_is) in
    turns_on c.args.inputs.now (here_of c.args.net.now.network c.args.spot.now) fuel c.loop-done.done (way_of c.loop-done.way) (way_of c.take_turn.new.way) c.in_ok-take_turn.field-0 steps.Stops _ less c.loop-done.invariant.way c.in-Stops.is c.in_ok-take_turn.ensures.turn

pub loop-done-preserved : goal.loop-done-preserved
loop-done-preserved c =
    let fuel = c.args.net.now.network.limits.fuel in
    let less : c.loop-done.done < fuel = omega (arith, c.loop-done-test.true, ap (λ (f : File). f.network.limits.fuel) c.net.view_is) in
    record {
      way = turns_on c.args.inputs.now (here_of c.args.net.now.network c.args.spot.now) fuel c.loop-done.done (way_of c.loop-done.way) (way_of c.take_turn.new.way) c.in_ok-take_turn.field-0 steps.Goes _ less c.loop-done.invariant.way c.in-Goes.is c.in_ok-take_turn.ensures.turn;
      node = c.in_ok-take_turn.ensures.node ∙ c.loop-done.invariant.node;
      trace = c.in_ok-take_turn.ensures.trace ∙ c.loop-done.invariant.trace;
    }
