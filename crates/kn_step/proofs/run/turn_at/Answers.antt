-- A decision one of whose sides goes on.
use Rattle.std.proofs.Common.{true, subst, ◌++◌}
use Rattle.kn_term.specs.Terms.{Term}
use Rattle.kn_cond.specs.Literals.{Literal}
use Rattle.kn_cond.specs.Meanings.{literal_of}
use Rattle.kn_model.specs.Terms.{terms}
use Rattle.kn_model.specs.Paths.{decided}
use Rattle.kn_model.specs.Alikes.{ConditionAlike}
use Rattle.kn_machine.specs.Ways.{WayView, way_of, known_of, AlikeWay}
use Rattle.kn_machine.specs.Effects.{here_of, side_at}
use Rattle.kn_step.proofs.OneMore.{implied_shuts, implied_other, is_first, is_second}
use Rattle.kn_step.proofs.Turning.{first_shut, second_shut, here_good}
use Rattle.kn_step.proofs.run.turn_at.Goals as goal

pub returns-in_ok-go-in-First-clause-leads : goal.returns-in_ok-go-in-First-clause-leads
returns-in_ok-go-in-First-clause-leads g c = λ fuel.
    let net = c.args.net.now.network in
    let spot = c.args.spot.now in
    let old = c.args.way.now in
    second_shut net spot (here_good net spot c.requires.place) fuel c.args.instr c.args.literal old (known_of old) (way_of c.go.new.way) c.requires.at.decides (subst (λ (w : WayView). ConditionAlike (known_of w) ((way_of w).state.own ++ (way_of w).literals)) c.way.view_is c.way.invariant.known)
    (implied_shuts (known_of old) (literal_of old.terms c.args.literal) (is_first c.net.inside.limits.conflicts (known_of old) (literal_of old.terms c.args.literal) c.in_ok-sides_of.field-0 c.in-First.is c.in_ok-sides_of.ensures)) c.in_ok-go-in-First.ensures.way

pub returns-in_ok-go-in-Second-clause-leads : goal.returns-in_ok-go-in-Second-clause-leads
returns-in_ok-go-in-Second-clause-leads g c = λ fuel.
    let net = c.args.net.now.network in
    let spot = c.args.spot.now in
    let old = c.args.way.now in
    let l = c.args.literal in
    first_shut net spot (here_good net spot c.requires.place) fuel c.args.instr l old (known_of old) (way_of c.go-in-Second.new.way) c.requires.at.decides (subst (λ (w : WayView). ConditionAlike (known_of w) ((way_of w).state.own ++ (way_of w).literals)) c.way.view_is c.way.invariant.known)
    (implied_other (known_of old) (literal_of old.terms l) (is_second c.net.inside.limits.conflicts (known_of old) (literal_of old.terms l) c.in_ok-sides_of.field-0 c.in-Second.is c.in_ok-sides_of.ensures))
    (subst (λ (m : Literal Term). AlikeWay (way_of c.go-in-Second.new.way) (decided terms true m (side_at (here_of net spot) c.args.instr true (way_of old)))) (c.negated.ensures.truth old.terms) c.in_ok-go-in-Second.ensures.way)
