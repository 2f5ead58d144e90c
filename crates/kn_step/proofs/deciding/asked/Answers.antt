-- One side, as it is judged.
use Rattle.std.proofs.Common.{ap, subst, ◌∙◌, List, [], ◌∷◌, ◌++◌}
use Rattle.std.specs.Prelude.{MatchOption}
use Rattle.kn_term.specs.declared.node.Literal.{Literal}
use Rattle.kn_cond.specs.Conditions.{that, IsImpossible, StandsFor}
use Rattle.kn_cond.specs.Meanings.{literal_of}
use Rattle.kn_machine.specs.Ways.{WayView, known_of}
use Rattle.kn_step.proofs.OneMore.{judged_one}
use Rattle.kn_step.proofs.deciding.asked.Goals as goal

pub returns : goal.returns
returns g c =
    let w = c.way.inside in
    let l = c.args.literal in
    let b = c.args.budget in
    let one = judged_one b w.terms w.cond c.add.new.self l c.in_ok-judged.judged (c.in_ok-add.ensures.ok ∙ ap (λ (ls : List Literal). ls ++ l ∷ []) c.new-more.ensures) c.in_ok-judged.ensures in
    subst (λ (v : WayView). MatchOption c.standing.result (IsImpossible (that (known_of v ++ literal_of v.terms l ∷ []))) (StandsFor b (that (known_of v ++ literal_of v.terms l ∷ [])))) c.way.view_is
    (c.standing.ensures b _ one)
