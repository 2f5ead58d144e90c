-- The part, laid over the others.
use Rattle.std.proofs.Common.{subst}
use Rattle.kn_solve.specs.Parts.{is_among}
use Rattle.kn_solve.specs.Verdicts.{IsJudged}
use Rattle.kn_cond.specs.Conditions.{that}
use Rattle.kn_solve.proofs.more.of_all.Goals as goal

pub returns-in_ok-words-in-Met : goal.returns-in_ok-words-in-Met
returns-in_ok-words-in-Met c = λ budget whole earlier part rest split touched apart least judged.
    c.parts_join.ensures whole earlier part rest (is_among c.args.inputs.now) c.args.least.now c.in-Met.found c.in_ok-words-in-Met.words split touched apart least (subst (IsJudged budget (that part)) c.in-Met.is judged) c.order.ensures c.in_ok-words-in-Met.ensures

pub returns-in-Never : goal.returns-in-Never
returns-in-Never c = λ budget whole earlier part rest split touched apart least judged.
    c.part_never.ensures whole part split.part_in (subst (IsJudged budget (that part)) c.in-Never.is judged)

pub returns-in-Undecided : goal.returns-in-Undecided
returns-in-Undecided c = λ budget whole earlier part rest split touched apart least judged.
    let told = subst (IsJudged budget (that part)) c.in-Undecided.is judged in
    (told.0, c.part_far.ensures budget whole part split.part_in told.1)
