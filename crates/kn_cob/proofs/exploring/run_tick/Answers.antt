use Rattle.std.proofs.Common.{◌≡◌, length, sym, subst, ℕ, arith}
use Rattle.kn_cob.specs.Copies.{AreCopies}
use Rattle.kn_cob.specs.Ticks.{so_far}
use Rattle.kn_cob.proofs.Ticks.{so_far_none}
use Rattle.kn_cob.proofs.exploring.run_tick.Goals as goal

pub loop-node-init : goal.loop-node-init
loop-node-init g c = record {
  made = subst (AreCopies c.args.net.now.network c.args.tick c.args.list.items) (sym (so_far_none c.args.net.now.network c.args.tick)) c.requires.copies;
  few = c.requires.few;
}

pub returns-clause-given : goal.returns-clause-given
returns-clause-given g c =
    let all : c.loop-node.node ≡ length c.args.net.now.network.nodes = omega (arith, c.loop-node-test.false, c.loop-node.auto.node-end, c.node_count-node-end.ensures.count) in
    subst (λ (n : ℕ). AreCopies c.args.net.now.network c.args.tick c.loop-node.list.items (so_far c.args.net.now.network c.args.tick n)) all c.loop-node.invariant.made
