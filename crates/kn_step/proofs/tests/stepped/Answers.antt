-- What is due of what is kept is due of the state.
use Rattle.std.proofs.Common.{◌≡◌, Bool, true, not, Option, Some, None, sym, ap, ◌∙◌}
use Rattle.std.specs.Option.{is_some}
use Rattle.kn_packet.specs.declared.packet.Event.{Event}
use Rattle.kn_node.specs.Views.{ConfigView}
use Rattle.kn_model.specs.Due as model
use Rattle.kn_machine.specs.Views.{state_of, own_of}
use Rattle.kn_step.proofs.DueEvents.{same_due}
use Rattle.kn_step.proofs.tests.stepped.Goals as goal

not_none : (o : Option Event) → is_some o ≡ true → o ≡ None → ⊥
not_none None e n = absurd cc
not_none (Some x) e n = absurd cc

pub run_event-requires-clause-due : goal.run_event-requires-clause-due
run_event-requires-clause-due g c none =
    let v = c.deref.result.now in
    let ticks = c.args.net.now.network.limits.ticks in
    let kept = sym (same_due ticks c.args.tick v.terms v.machine v.trace (own_of v) c.requires.ready.early) ∙ (ap (λ (u : ConfigView). model.due ticks c.args.tick (state_of u)) c.deref.ensures ∙ none) in
    not_none c.next_event.result (c.is_none.ensures ∙ ap (λ (b : Bool). not b) c.if-is_none.false) (c.next_event.ensures ∙ kept)
