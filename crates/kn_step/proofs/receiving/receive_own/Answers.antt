-- What a state learns of packets' guards.
use Rattle.std.proofs.Common.{◌∙◌, sym, subst, ap, length}
use Rattle.kn_term.specs.Reached.{RootsStand}
use Rattle.kn_packet.specs.Packets.{PacketView}
use Rattle.std.specs.Prelude.{List}
use Rattle.kn_node.specs.Views.{ConfigView, MachineView}
use Rattle.kn_step.proofs.Received.{config_longer, receive_stands, receive_learned}
use Rattle.kn_step.proofs.receiving.receive_own.Goals as goal

pub guards-requires : goal.guards-requires
guards-requires g c = c.c.invariant.literals

pub invariant_of-queued : goal.invariant_of-queued
invariant_of-queued g c =
    let i = c.c.inside in
    let longer = config_longer i.terms c.guards.new.terms i.machine i.cond c.in_ok-more.ensures.grows c.c.invariant in
    record {
      registers = subst (λ (m : MachineView). RootsStand (length c.guards.new.terms) m.registers) (sym c.queue_up.ensures.others) longer.registers;
      memory = subst (λ (m : MachineView). RootsStand (length c.guards.new.terms) m.memory) (sym c.queue_up.ensures.others) longer.memory;
      literals = longer.literals;
    }

pub learn-requires-clause-standing : goal.learn-requires-clause-standing
learn-requires-clause-standing g c =
    let i = c.c.inside in
    let v : ConfigView = record { node = i.node; machine = i.machine; terms = i.terms; cond = i.cond; trace = i.trace; history = i.history; standing = i.standing } in
    receive_stands c.args.budget c.args.c v _ c.guards.new.terms c.args.inbox.now c.in_ok-more.ensures.grows c.c.invariant c.c.view_is
    (ap (λ (m : MachineView). record v { terms = c.guards.new.terms; machine = m }) (c.queue_up.ensures.others ∙ ap (λ (q : List PacketView). record i.machine { queue = q }) c.in_ok-queue_up.ensures.queue)) c.requires.standing

pub returns : goal.returns
returns g c =
    let i = c.c.inside in
    let v : ConfigView = record { node = i.node; machine = i.machine; terms = i.terms; cond = i.cond; trace = i.trace; history = i.history; standing = i.standing } in
    receive_learned c.args.budget c.args.c v _ c.guards.new.terms c.args.inbox.now c.in_ok-more.more c.learn.result c.in_ok-more.ensures.grows c.c.invariant c.c.view_is
    (ap (λ (m : MachineView). record v { terms = c.guards.new.terms; machine = m }) (c.queue_up.ensures.others ∙ ap (λ (q : List PacketView). record i.machine { queue = q }) c.in_ok-queue_up.ensures.queue))
    c.in_ok-more.ensures.alike c.learn.ensures
