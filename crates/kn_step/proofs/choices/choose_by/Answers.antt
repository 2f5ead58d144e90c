-- The answers that the sides of the literal leave.
use Rattle.std.proofs.Common.{◌++◌, true, sym, ap, subst, ◌∙◌}
use Rattle.kn_term.specs.Terms.{Term}
use Rattle.kn_cond.specs.Literals.{Literal}
use Rattle.kn_cond.specs.Meanings.{literal_of}
use Rattle.kn_plan.specs.Files.{File}
use Rattle.kn_model.specs.Terms.{terms}
use Rattle.kn_model.specs.Paths.{decided}
use Rattle.kn_model.specs.Alikes.{ConditionAlike}
use Rattle.kn_machine.specs.Ways.{WayView, way_of, known_of}
use Rattle.kn_step.specs.Sides.{Implies}
use Rattle.kn_step.proofs.OneMore.{is_first, is_second}
use Rattle.kn_step.proofs.Choosing.{answer_stays, answer_takes, answer_both, further_sound, sides_are}
use Rattle.kn_step.proofs.choices.choose_by.Goals as goal

pub returns-in_ok-decide-in-First : goal.returns-in_ok-decide-in-First
returns-in_ok-decide-in-First g c =
    let net = c.args.net.now.network in
    let v = c.args.way.now in
    let m = literal_of v.terms c.args.literal in
    let known = subst (λ (w : WayView). ConditionAlike (known_of w) ((way_of w).state.own ++ (way_of w).literals)) c.way.view_is c.way.invariant.known in
    let implied = is_first c.net.inside.limits.conflicts (known_of v) m c.in_ok-sides_of.field-0 c.in-First.is c.in_ok-sides_of.ensures in
    answer_stays net c.args.spot.now c.args.literal v c.decide.new.way known implied c.in_ok-decide-in-First.ensures.way (c.in_ok-decide-in-First.ensures.sound net.limits.conflicts implied c.requires.sound) c.in_ok-decide-in-First.ensures.sends

pub returns-in_ok-decide-in-Second : goal.returns-in_ok-decide-in-Second
returns-in_ok-decide-in-Second g c =
    let net = c.args.net.now.network in
    let v = c.args.way.now in
    let m = literal_of v.terms c.args.literal in
    let other = c.negated.ensures.truth v.terms in
    let known = subst (λ (w : WayView). ConditionAlike (known_of w) ((way_of w).state.own ++ (way_of w).literals)) c.way.view_is c.way.invariant.known in
    let implied = is_second c.net.inside.limits.conflicts (known_of v) m c.in_ok-sides_of.field-0 c.in-Second.is c.in_ok-sides_of.ensures in
    answer_takes net c.args.spot.now c.args.literal v c.decide-in-Second.new.way known implied (c.in_ok-decide-in-Second.ensures.way ∙ ap (λ (l : Literal Term). decided terms true l (way_of v)) other)
    (c.in_ok-decide-in-Second.ensures.sound net.limits.conflicts (subst (Implies (known_of v)) (sym other) implied) c.requires.sound) c.in_ok-decide-in-Second.ensures.sends

pub returns-in_ok-decide-in-Both : goal.returns-in_ok-decide-in-Both
returns-in_ok-decide-in-Both g c =
    let net = c.args.net.now.network in
    let conflicts = net.limits.conflicts in
    let v = c.args.way.now in
    let m = literal_of v.terms c.args.literal in
    let both = sides_are conflicts c.net.inside.limits.conflicts (known_of v) m c.in_ok-sides_of.field-0 c.in-Both.first c.in-Both.second (ap (λ (f : File). f.network.limits.conflicts) c.net.view_is) c.in-Both.is c.in_ok-sides_of.ensures in
    let other = c.negated-in-Both.ensures.truth v.terms in
    answer_both net c.args.spot.now c.args.literal v c.in_ok-kept-in-Both.kept c.decide-in-Both.new.way c.in_ok-kept-in-Both.ensures.way (c.in_ok-kept-in-Both.ensures.sound conflicts both.0 c.requires.sound) c.in_ok-kept-in-Both.ensures.sends
    (rw (c.in_ok-kept-in-Both.ensures.same, other) at c.in_ok-decide-in-Both.ensures.way)
    (further_sound conflicts v c.stay.new.way c.decide-in-Both.new.way c.args.literal c.negated-in-Both.result c.in-Both.second c.in_ok-kept-in-Both.ensures.same other both.1 c.requires.sound (c.in_ok-decide-in-Both.ensures.sound conflicts))
    (rw c.in_ok-kept-in-Both.ensures.same at c.in_ok-decide-in-Both.ensures.sends)
