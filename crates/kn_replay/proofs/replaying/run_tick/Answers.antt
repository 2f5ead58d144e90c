-- One node after another.
use Rattle.std.proofs.Common.{◌≡◌, length, subst, arith}
use Rattle.kn_replay.proofs.Ticking.{IsTicking, one_node, tick_ends}
use Rattle.kn_replay.proofs.replaying.run_tick.Goals as goal

pub loop-node-preserved : goal.loop-node-preserved
loop-node-preserved c s is =
    let h = c.loop-node.invariant s is in
    one_node c.args.net.now.network c.args.inputs.now c.args.tick c.loop-node.node s c.loop-node.nodes c.settle.new.nodes c.args.events.now.items c.loop-node.events.items c.settle.new.events.items h (c.in_ok-settle.ensures h.scenario h.nodes)

pub returns : goal.returns
returns c s is =
    let h = c.loop-node.invariant s is in
    let all : c.loop-node.node ≡ length c.args.net.now.network.nodes = omega arith in
    tick_ends c.args.net.now.network c.args.inputs.now c.args.tick s c.loop-node.nodes c.args.events.now.items c.loop-node.events.items
    (subst (λ n. IsTicking c.args.net.now.network c.args.inputs.now c.args.tick n s c.loop-node.nodes c.args.events.now.items c.loop-node.events.items) all h)
