-- The node's word out of those of its operands.
use Rattle.std.specs.Prelude.{nat_eq}
use Rattle.std.specs.HashMap.{get}
use Rattle.kn_blast.proofs.Growing.{if_each}
use Rattle.kn_blast.proofs.Tabling.{input_word_of, operator_word, choice_word}
use Rattle.kn_blast.proofs.circuit.word_of.Goals as goal

pub returns-in-Input-clause-value : goal.returns-in-Input-clause-value
returns-in-Input-clause-value c =
    if_each c.input_edges.result _ _ (λ v made ns has covers. input_word_of c.args.aig.now v.items c.args.inputs.now ns c.in-Input.node c.in-Input.index c.in-Input.width c.args.node c.in-Input.is covers made) c.input_edges.ensures.value

pub returns-in-Apply-clause-value : goal.returns-in-Apply-clause-value
returns-in-Apply-clause-value c =
    if_each c.operate.result _ _ (λ v made ns has covers. operator_word c.args.aig.now c.operate.new.aig c.args.inputs.now ns (get nat_eq c.args.table.now) c.in-Apply.op c.in-Apply.x c.in-Apply.y _ _ v.items c.args.node c.in-Apply.is has c.word_at-xs.ensures.value c.word_at-ys.ensures.value made) c.operate.ensures.word

pub returns-in-Ite-clause-value : goal.returns-in-Ite-clause-value
returns-in-Ite-clause-value c =
    if_each c.chosen.result _ _ (λ v made ns has covers. choice_word c.args.aig.now c.chosen.new.aig c.args.inputs.now ns (get nat_eq c.args.table.now) c.in-Ite.c c.in-Ite.x c.in-Ite.y _ _ _ v.items c.args.node c.in-Ite.is has c.word_at-condition.ensures.value c.word_at-xs-in-Ite.ensures.value c.word_at-ys-in-Ite.ensures.value made) c.chosen.ensures.word
