-- Operands are replaced.
use Rattle.kn_simplify.proofs.Folding.{operator_folded, choice_folded}
use Rattle.kn_simplify.proofs.Simpler.{word_over, input_over, operator_over, choice_over}
use Rattle.kn_simplify.proofs.whole.over_simpler.Goals as goal

pub returns-in-Konst-clause-term : goal.returns-in-Konst-clause-term
returns-in-Konst-clause-term c = λ ns place stands are. word_over ns place c.in-Konst.word c.args.node c.in-Konst.is stands

pub returns-in-Input-clause-term : goal.returns-in-Input-clause-term
returns-in-Input-clause-term c = λ ns place stands are. input_over ns place c.in-Input.node c.in-Input.index c.in-Input.width c.args.node c.in-Input.is stands

pub returns-in-Apply-clause-term : goal.returns-in-Apply-clause-term
returns-in-Apply-clause-term c = λ ns place. operator_over ns place _ c.in-Apply.op c.in-Apply.x c.in-Apply.y _ _ c.args.node c.in-Apply.is c.simpler.ensures c.simpler-in-Apply.ensures

pub returns-in-Apply-clause-folded : goal.returns-in-Apply-clause-folded
returns-in-Apply-clause-folded c = λ ns. operator_folded ns _ c.in-Apply.op c.in-Apply.x c.in-Apply.y _ _ c.args.node c.in-Apply.is c.simpler.ensures c.simpler-in-Apply.ensures

pub returns-in-Ite-clause-term : goal.returns-in-Ite-clause-term
returns-in-Ite-clause-term c = λ ns place. choice_over ns place _ c.in-Ite.c c.in-Ite.x c.in-Ite.y _ _ _ c.args.node c.in-Ite.is c.simpler-in-Ite.ensures c.simpler-in-Ite-2.ensures c.simpler-in-Ite-3.ensures

pub returns-in-Ite-clause-folded : goal.returns-in-Ite-clause-folded
returns-in-Ite-clause-folded c = λ ns. choice_folded ns _ c.in-Ite.c c.in-Ite.x c.in-Ite.y _ _ _ c.args.node c.in-Ite.is c.simpler-in-Ite.ensures c.simpler-in-Ite-2.ensures c.simpler-in-Ite-3.ensures
