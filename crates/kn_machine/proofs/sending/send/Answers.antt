-- One packet more is sent.
use Rattle.std.proofs.Common.{ap, ◌∙◌, refl}
use Rattle.kn_machine.specs.contracts.way.Way.{the_view}
use Rattle.kn_machine.proofs.Sends.{packet_goes}
use Rattle.kn_machine.proofs.sending.send.Goals as goal

pub returns-clause-way : goal.returns-clause-way
returns-clause-way c net =
    packet_goes net c.args.spot.now c.args.way.now _ _ _ c.args.b c.args.n c.args.link c.in_ok-packet.packet c.way.view_is c.way.invariant.known c.in_ok-packet.ensures (ap the_view c.way-inside.view_is ∙ c.way.view_is) c.in_ok-push.ensures.items refl
