-- A packet is taken.
use Rattle.std.proofs.Common.{ap, subst, List}
use Rattle.kn_packet.specs.Packets.{PacketView}
use Rattle.kn_node.specs.Views.{MachineView}
use Rattle.kn_step.proofs.DueEvents.{Begins, Mails, begun_mail, mail_first}
use Rattle.kn_step.proofs.event.begin.Goals as goal

pub returns-in-Packet-clause-state : goal.returns-in-Packet-clause-state
returns-in-Packet-clause-state c =
    let i = c.machine.inside in
    let p = c.in-Packet in
    let m : MachineView = record { registers = i.registers.items; memory = i.memory.items; timers = i.timers.items; queue = i.queue; inputs = i.inputs; sent = i.sent; losses = i.losses; duplications = i.duplications; outcome = i.outcome; booted = i.booted; reboots = i.reboots.items } in
    let after : MachineView = record m { queue = c.take.new.self } in
    subst (λ (x : MachineView). Begins c.args.tick c.args.event x after) c.machine.view_is
    (begun_mail c.args.tick p.from p.seq p.copy c.args.event m after p.is (ap (λ (q : List PacketView). record m { queue = q }) c.take.ensures.others))

pub returns-in-Packet-clause-mail : goal.returns-in-Packet-clause-mail
returns-in-Packet-clause-mail c =
    let i = c.machine.inside in
    let p = c.in-Packet in
    let m : MachineView = record { registers = i.registers.items; memory = i.memory.items; timers = i.timers.items; queue = i.queue; inputs = i.inputs; sent = i.sent; losses = i.losses; duplications = i.duplications; outcome = i.outcome; booted = i.booted; reboots = i.reboots.items } in
    subst (λ (x : MachineView). Mails c.args.tick c.args.event x c.take.result) c.machine.view_is
    (mail_first c.args.tick p.from p.seq p.copy c.args.event m c.take.result p.is c.take.ensures.packet)
