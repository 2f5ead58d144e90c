-- What was found.
use Rattle.kn_solve.proofs.Found.{model_verdict, closed_verdict, spent_verdict}
use Rattle.kn_solve.proofs.asking.decided.Goals as goal

pub returns-in-Model : goal.returns-in-Model
returns-in-Model c = λ q circuit.
    let f = c.in_ok-cnf.ensures in
    let s = c.in_ok-bits.ensures in
    model_verdict q c.args.inputs.now c.args.aig.now c.args.edge c.in_ok-cnf.cnf c.inputs.result c.in_ok-bits.field-0 c.in-Model.bits c.deref.result.now c.in_ok-least-in-Model.least c.one_list.ensures f.exact f.extends c.requires.order c.requires.bits c.inputs.ensures c.in-Model.is s.model s.least c.deref.ensures.value c.in_ok-least-in-Model.ensures c.order.ensures circuit

pub returns-in-Closed : goal.returns-in-Closed
returns-in-Closed c = λ q circuit.
    closed_verdict q c.args.inputs.now c.args.aig.now c.args.edge c.in_ok-cnf.cnf c.in_ok-bits.field-0 c.in-Closed.log c.in_ok-cnf.ensures.extends c.requires.order c.requires.bits c.in-Closed.is c.in_ok-bits.ensures.never circuit

pub returns : goal.returns
returns c = λ q circuit.
    let s = c.in_ok-bits.ensures in
    spent_verdict q c.args.inputs.now c.args.aig.now c.args.edge c.in_ok-cnf.cnf c.inputs.result c.args.budget c.in_ok-bits.field-0 c.in-Spent.leaves c.in_ok-cnf.ensures.extends c.requires.order c.requires.bits c.inputs.ensures c.in-Spent.is s.spent s.left s.refuted circuit
