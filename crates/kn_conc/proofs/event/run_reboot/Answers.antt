-- A node reboots, or it does not.
use Rattle.kn_conc.specs.Ways.{here_of, way_of}
use Rattle.kn_conc.proofs.Choosing.{reboots, stays_up}
use Rattle.kn_conc.proofs.event.run_reboot.Goals as goal

pub returns-in_ok-run_handler-clause-way : goal.returns-in_ok-run_handler-clause-way
returns-in_ok-run_handler-clause-way c =
    let net = c.args.net.now.network in
    reboots c.args.inputs.now (here_of net c.args.spot.now) (way_of c.args.way.now) (way_of c.choose.new.way) (way_of c.clear.new.way) (way_of c.run_handler.new.way) c.in_ok-choose.field-0
    (c.in_ok-choose.ensures.taken net) (c.in_ok-choose.ensures.way net) c.if-branch.true c.in_ok-clear.ensures.way c.in_ok-run_handler.ensures.way

pub returns-else-branch-clause-way : goal.returns-else-branch-clause-way
returns-else-branch-clause-way c =
    let net = c.args.net.now.network in
    stays_up c.args.inputs.now (here_of net c.args.spot.now) (way_of c.args.way.now) (way_of c.choose.new.way) c.in_ok-choose.field-0
    (c.in_ok-choose.ensures.taken net) (c.in_ok-choose.ensures.way net) c.if-branch.false
