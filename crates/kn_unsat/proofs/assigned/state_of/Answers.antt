-- How the clause stands with a literal more.
use Rattle.std.proofs.Common.{List, false, take, sym, subst}
use Rattle.std.proofs.lemmas.List.{take_more}
use Rattle.kn_cnf.specs.declared.clauses.Lit.{Lit}
use Rattle.kn_cnf.specs.States.{IsState}
use Rattle.kn_unsat.proofs.assigned.state_of.Goals as goal

pub loop-l-preserved : goal.loop-l-preserved
loop-l-preserved c = λ ls assigned.
    let d : Lit = record { var = 0; neg = false } in
    let more = take_more c.args.clause.now c.loop-l.l-index d c.loop-l-test.true in
    subst (λ (front : List Lit). IsState ls front c.with_literal-state.result) (sym more)
    (c.with_literal-state.ensures ls (take c.loop-l.l-index c.args.clause.now) (c.value_of.ensures ls assigned) (c.loop-l.invariant ls assigned))
