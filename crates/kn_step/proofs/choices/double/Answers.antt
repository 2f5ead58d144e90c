-- The copy of a packet waits.
use Rattle.std.proofs.Common.{refl, ap, ◌∙◌}
use Rattle.kn_packet.specs.Packets.{PacketView}
use Rattle.kn_model.specs.Terms.{terms}
use Rattle.kn_model.specs.Paths.{doubled}
use Rattle.kn_machine.specs.Views.{packet_of}
use Rattle.kn_machine.specs.Effects.{here_of}
use Rattle.kn_machine.specs.Ways.{WayView, way_of}
use Rattle.kn_step.proofs.Clearing.{doubled_way, machine_doubled, ok_then}
use Rattle.kn_step.proofs.choices.double.Goals as goal

pub returns-clause-way : goal.returns-clause-way
returns-clause-way c = λ net.
    let i = c.way.inside in
    let v : WayView = record { machine = i.machine; terms = i.terms; cond = i.cond; standing = i.standing; own = i.own; trace = i.trace; pc = i.pc; bits = i.bits; literals = i.literals; sends = i.sends.items } in
    let spot = c.args.spot.now in
    let mail = c.args.mail.now in
    ok_then c.queue_copy.result
    (λ e.
    doubled_way net spot mail v (record v { machine = c.queue_copy.new.machine }) c.queue_copy.new.machine (e ∙ ap (λ (p : PacketView). machine_doubled p v.machine) c.in_ok-copy.ensures) refl
    ∙ ap (λ (w : WayView). doubled terms (here_of net spot) (packet_of mail) (way_of w)) c.way.view_is)
    c.queue_copy.ensures.ok
