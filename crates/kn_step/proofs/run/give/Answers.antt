-- One path more.
use Rattle.std.proofs.Common.{ap, arith}
use Rattle.kn_plan.specs.Files.{File}
use Rattle.kn_machine.specs.Ways.{way_of}
use Rattle.kn_step.proofs.Behind.{came_more, came_over}
use Rattle.kn_step.proofs.Giving.{kept_path}
use Rattle.kn_step.proofs.run.give.Goals as goal

pub returns-then-len-net : goal.returns-then-len-net
returns-then-len-net c =
    let net = c.args.net.now.network in
    let spot = c.args.spot.now in
    let made = c.in-Ok.ensures in
    came_over net spot c.args.out.now.items c.push.new.self.items c.in-Ok.path (way_of c.args.way) c.in_default.ensures.items made.path
    (kept_path net.limits.conflicts spot.node spot.history c.args.way c.in-Ok.path made.node made.history made.own made.standing made.sends c.requires.sound c.requires.stamps)
    (omega (arith, c.if-len-net.true, c.len.ensures, ap (λ (f : File). f.network.limits.states) c.net.view_is))

pub returns : goal.returns
returns c =
    let net = c.args.net.now.network in
    let spot = c.args.spot.now in
    let made = c.in-Ok.ensures in
    came_more net spot c.args.out.now.items c.push.new.self.items c.in-Ok.path (way_of c.args.way) c.in_default.ensures.items made.path
    (kept_path net.limits.conflicts spot.node spot.history c.args.way c.in-Ok.path made.node made.history made.own made.standing made.sends c.requires.sound c.requires.stamps) tt
    (omega (arith, c.if-len-net.false, c.len.ensures, ap (λ (f : File). f.network.limits.states) c.net.view_is))
