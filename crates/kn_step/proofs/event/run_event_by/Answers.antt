-- What is due of what is kept is due of the state.
use Rattle.std.proofs.Common.{sym, ap, ◌∙◌}
use Rattle.kn_node.specs.Views.{ConfigView}
use Rattle.kn_model.specs.Due as model
use Rattle.kn_machine.specs.Views.{state_of, own_of}
use Rattle.kn_step.proofs.DueEvents.{same_due}
use Rattle.kn_step.proofs.event.run_event_by.Goals as goal

pub unreachable-requires : goal.unreachable-requires
unreachable-requires g c =
    let v = c.deref.result.now in
    let ticks = c.args.net.now.network.limits.ticks in
    let none = same_due ticks c.args.tick v.terms v.machine v.trace (own_of v) c.requires.ready.early ∙ (sym c.next_event.ensures ∙ c.in_default.is) in
    c.requires.due (ap (λ (u : ConfigView). model.due ticks c.args.tick (state_of u)) (sym c.deref.ensures) ∙ none)

pub run_from-requires-clause-due : goal.run_from-requires-clause-due
run_from-requires-clause-due g c =
    let v = c.deref.result.now in
    let ticks = c.args.net.now.network.limits.ticks in
    ap (λ (u : ConfigView). model.due ticks c.args.tick (state_of u)) (c.deref-2.ensures ∙ sym c.deref.ensures)
    ∙ (same_due ticks c.args.tick v.terms v.machine v.trace (own_of v) c.requires.ready.early ∙ (sym c.next_event.ensures ∙ c.in-Some.is))
