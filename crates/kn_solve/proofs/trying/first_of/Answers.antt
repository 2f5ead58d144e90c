-- The inputs of one more place.
use Rattle.std.proofs.Common.{arith, subst}
use Rattle.kn_term.specs.Valuations.{AreEntries}
use Rattle.kn_term.specs.Nodes.{term_at}
use Rattle.kn_solve.proofs.Early.{early_least, none_more, not_zero, is_zero}
use Rattle.kn_solve.proofs.trying.first_of.Goals as goal

pub returns-then-branch-ne0 : goal.returns-then-branch-ne0
returns-then-branch-ne0 c = λ q asked reads.
    early_least c.one_list.ensures q (term_at c.args.terms.now c.args.root.index) c.args.inputs.now asked reads c.requires.order c.loop-number.number c.in_ok-words.left c.in_ok-words.ensures.left (omega (arith, c.if-left-gt0.false)) c.in_ok-words.words c.in_ok-words.ensures.words c.order.ensures (c.loop-number.invariant q asked reads)
    (not_zero c.in_ok-value.field-0 _ c.in_ok-value.ensures c.if-branch-ne0.true)

pub loop-number-preserved : goal.loop-number-preserved
loop-number-preserved c = λ q asked reads.
    none_more c.one_list.ensures q (term_at c.args.terms.now c.args.root.index) c.args.inputs.now asked reads c.requires.order c.loop-number.number c.in_ok-words.left c.in_ok-words.ensures.left (omega (arith, c.if-left-gt0.false)) c.in_ok-words.words c.in_ok-words.ensures.words (subst AreEntries c.words.view_is c.words.invariant) (c.loop-number.invariant q asked reads)
    (is_zero c.in_ok-value.field-0 _ c.in_ok-value.ensures c.if-branch-ne0.false)
