-- What a packet takes of a way stands.
use Rattle.std.proofs.Common.{◌∙◌, ap, arith}
use Rattle.kn_machine.specs.contracts.way.Way.{the_view}
use Rattle.kn_machine.specs.Ways.{WayView}
use Rattle.kn_machine.proofs.Sends.{packet_stands}
use Rattle.kn_machine.proofs.sending.packet_of.Goals as goal

pub invariant_of-result : goal.invariant_of-result
invariant_of-result c =
    let same = ap the_view c.way-inside.view_is in
    packet_stands c.way.inside.terms c.way.inside.machine.registers c.way.inside.cond c.way.invariant.registers_stand c.way.invariant.known_stands
    c.in_ok-copy.field-0 _ _ _ _ _ (c.deref.ensures.value ∙ ap (λ (w : WayView). w.machine.registers) same) c.in_ok-from_slice.ensures.ok (omega arith)
    (c.in_ok-from_slice-2.ensures.items ∙ (c.literals.ensures ∙ ap (λ (w : WayView). w.cond) same)) (c.in_ok-copy.ensures ∙ ap (λ (w : WayView). w.terms) same)
