-- A way up to its end, or to a decision.
use Rattle.std.proofs.Common.{arith}
use Rattle.kn_machine.specs.Ways.{way_of}
use Rattle.kn_machine.specs.Effects.{here_of}
use Rattle.kn_step.specs.Given.{onward}
use Rattle.kn_step.specs.Turns.{turned}
use Rattle.kn_step.specs.declared.run.Turn.TheVariants as turns
use Rattle.kn_step.proofs.Turning.{on_self, on_through, leads_first, leads_one, leads_next, leads_last, turn_is, still_on}
use Rattle.kn_step.proofs.run.run_stretch.Goals as goal

pub loop-done-init : goal.loop-done-init
loop-done-init g c =
    let net = c.args.net.now.network in
    let spot = c.args.spot.now in
    record { leads = leads_first (here_of net spot) c.args.fuel (way_of c.args.way.now); on = on_self net spot c.args.way.now c.requires.sound }

pub take_turn-requires-clause-sound : goal.take_turn-requires-clause-sound
take_turn-requires-clause-sound g c = c.loop-done.invariant.on.sound

pub returns-in-Ends : goal.returns-in-Ends
returns-in-Ends g c =
    let net = c.args.net.now.network in
    let spot = c.args.spot.now in
    let v = c.loop-done.way in
    let w = c.take_turn.new.way in
    let made = turn_is net spot v w c.in_ok-take_turn.field-0 turns.Ends c.in-Ends.is c.in_ok-take_turn.ensures in
    record {
      leads = leads_one (here_of net spot) c.args.fuel c.loop-done.done (way_of v) (onward (here_of net spot) c.args.fuel (way_of c.args.way.now)) (turned (here_of net spot) 0 turns.Ends w) c.loop-done-test.true c.loop-done.invariant.leads (made.leads _);
      on = on_through net spot c.args.way.now v w c.loop-done.invariant.on made.on;
      splits = tt;
    }

pub returns-in-Splits : goal.returns-in-Splits
returns-in-Splits g c =
    let net = c.args.net.now.network in
    let spot = c.args.spot.now in
    let v = c.loop-done.way in
    let w = c.take_turn.new.way in
    let made = turn_is net spot v w c.in_ok-take_turn.field-0 (turns.Splits c.in-Splits.split) c.in-Splits.is c.in_ok-take_turn.ensures in
    record {
      leads = leads_one (here_of net spot) c.args.fuel c.loop-done.done (way_of v) (onward (here_of net spot) c.args.fuel (way_of c.args.way.now)) _ c.loop-done-test.true c.loop-done.invariant.leads (made.leads _);
      on = on_through net spot c.args.way.now v w c.loop-done.invariant.on made.on;
      splits = (made.splits, omega (arith, c.loop-done-test.true));
    }

pub loop-done-preserved : goal.loop-done-preserved
loop-done-preserved g c =
    let net = c.args.net.now.network in
    let spot = c.args.spot.now in
    let v = c.loop-done.way in
    let w = c.take_turn.new.way in
    let made = turn_is net spot v w c.in_ok-take_turn.field-0 turns.Goes c.in-Goes.is c.in_ok-take_turn.ensures in
    record {
      leads = leads_next (here_of net spot) c.args.fuel c.loop-done.done (way_of v) (way_of w) (onward (here_of net spot) c.args.fuel (way_of c.args.way.now)) c.loop-done-test.true c.loop-done.invariant.leads made.leads;
      on = on_through net spot c.args.way.now v w c.loop-done.invariant.on made.on;
    }

pub returns : goal.returns
returns g c =
    let net = c.args.net.now.network in
    let spot = c.args.spot.now in
    let v = c.loop-done.way in
    let w = c.run_out.new.way in
    let still = c.run_out.ensures.still in
    record {
      leads = leads_last (here_of net spot) c.args.fuel c.loop-done.done (way_of v) (onward (here_of net spot) c.args.fuel (way_of c.args.way.now)) _ c.loop-done-test.false c.loop-done.invariant.leads (c.run_out.ensures.leads net);
      on = on_through net spot c.args.way.now v w c.loop-done.invariant.on (still_on net spot v w still c.loop-done.invariant.on.sound);
      splits = tt;
    }
