-- A way beside another one.
use Rattle.std.proofs.Common.{sym, subst, [], ◌∷◌, ◌++◌}
use Rattle.kn_cond.specs.Conditions.{that, StandsFor}
use Rattle.kn_cond.specs.Meanings.{literal_of}
use Rattle.kn_machine.specs.Ways.{WayView, known_of}
use Rattle.kn_step.specs.Turns.{IsSound}
use Rattle.kn_step.proofs.choices.stay.Goals as goal

pub returns-clause-sound : goal.returns-clause-sound
returns-clause-sound c = λ budget stands sound.
    let fork = sym c.in_ok-kept.ensures.fork in
    c.in_ok-decide.ensures.sound budget
    (subst (λ (w : WayView). StandsFor budget (that (known_of w ++ literal_of w.terms c.args.literal ∷ [])) c.args.standing) fork stands) (subst (IsSound budget) fork sound)
