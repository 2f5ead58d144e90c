-- A choice by a fresh input.
use Rattle.std.proofs.Common.{ap, ◌∙◌}
use Rattle.kn_machine.specs.Ways.{WayView}
use Rattle.kn_step.proofs.Choosing.{choice_of, not_full, on_sends}
use Rattle.kn_step.proofs.Turning.{sound_still}
use Rattle.kn_step.proofs.choices.choose.Goals as goal

pub returns : goal.returns
returns g c =
    let net = c.args.net.now.network in
    let spot = c.args.spot.now in
    let v = c.args.way.now in
    let u = c.ask.new.way in
    let l = c.in_ok-literal.literal in
    let made = c.in_ok-literal.ensures in
    let inputs = ap (λ i. i.machine.inputs) c.way-inside.view_is ∙ ap (λ (w : WayView). w.machine.inputs) c.way.view_is in
    choice_of net spot l v u c.choose_by.new.way c.choose_by.result (not_full _ v.machine.inputs inputs c.if-way-eq65535.false) made.term made.truth made.way
    (on_sends net spot l v u (sound_still net.limits.conflicts v u made.known made.standing c.requires.sound) made.sends) c.choose_by.ensures
