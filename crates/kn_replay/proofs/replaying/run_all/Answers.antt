-- One tick after another.
use Rattle.kn_replay.proofs.Ticking.{run_begins, one_tick}
use Rattle.kn_replay.proofs.replaying.run_all.Goals as goal

pub loop-tick-init : goal.loop-tick-init
loop-tick-init c = run_begins c.args.net.now.network c.args.inputs.now c.args.nodes.now c.args.events.now.items c.requires.whole c.requires.nodes c.requires.none

pub loop-tick-preserved : goal.loop-tick-preserved
loop-tick-preserved c =
    let h = c.loop-tick.invariant in
    one_tick c.args.net.now.network c.args.inputs.now c.loop-tick.tick c.loop-tick.nodes c.run_tick.new.nodes c.loop-tick.events.items c.run_tick.new.events.items h (c.in_ok-run_tick.ensures h.scenario h.nodes)
