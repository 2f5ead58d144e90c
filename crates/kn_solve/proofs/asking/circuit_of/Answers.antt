-- The circuit of the term.
use Rattle.std.proofs.Common.{refl}
use Rattle.kn_solve.proofs.Opening.{circuit_of_term}
use Rattle.kn_solve.proofs.asking.circuit_of.Goals as goal

pub blast-requires-clause-covers : goal.blast-requires-clause-covers
blast-requires-clause-covers c = c.in_ok-inputs.ensures.covers 0 c.args.root refl

pub returns-clause-circuit : goal.returns-clause-circuit
returns-clause-circuit c = λ q asked.
    circuit_of_term c.one_list.ensures c.words_by_inputs.ensures q c.args.terms.now c.args.root c.in_ok-inputs.inputs c.blast.new.aig c.is_not_zero.new.aig c.in_ok-word.word c.in_ok-edge.edge asked c.order.ensures.order c.requires.root c.in_ok-inputs.ensures.order (c.in_ok-inputs.ensures.covers 0 c.args.root refl) c.in_ok-inputs.ensures.read c.in_ok-word.ensures.value c.in_ok-edge.ensures.edge
