-- What is known with one literal more, and once all were asked.
use Rattle.std.proofs.Common.{◌++◌, List, refl, subst}
use Rattle.kn_term.specs.declared.node.Literal.{Literal as Listed}
use Rattle.kn_cond.specs.Conditions.{that, IsImpossible, StandsFor}
use Rattle.kn_cond.specs.Meanings.{condition_of}
use Rattle.kn_solve.proofs.Successive.{each_next, each_known, each_never, each_all}
use Rattle.kn_solve.proofs.more.ask_each.Goals as goal

pub loop-literal-preserved : goal.loop-literal-preserved
loop-literal-preserved g c =
    let ns = c.args.terms.now in
    let items = c.literals-literal-items.result.now in
    let i = c.loop-literal.literal-index in
    let all = c.loop-literal.all in
    let none = c.new-one.result in
    let one = c.add.new.self in
    let asked = that (condition_of ns all ++ condition_of ns one) in
    record {
      all = each_next ns c.args.c.now items all none one i _ c.loop-literal-test.true refl c.loop-literal.invariant.all c.new-one.ensures c.in_ok-add.ensures.ok c.add-in-loop-literal.new.self c.in_ok-add-2.ensures.ok;
      known = each_known ns c.args.c.now items all none one i _ c.loop-literal-test.true refl c.loop-literal.invariant.all c.new-one.ensures c.in_ok-add.ensures.ok c.args.budget c.add-in-loop-literal.new.self c.in-Some.next c.in_ok-add-2.ensures.ok (c.in-Some.ensures c.args.budget asked c.in_ok-judged.ensures);
    }

pub returns-in_default : goal.returns-in_default
returns-in_default g c =
    let ns = c.args.terms.now in
    let items = c.literals-literal-items.result.now in
    let i = c.loop-literal.literal-index in
    let all = c.loop-literal.all in
    let none = c.new-one.result in
    let one = c.add.new.self in
    let asked = that (condition_of ns all ++ condition_of ns one) in
    subst (λ (ls : List Listed). IsImpossible (that (condition_of ns c.args.c.now ++ condition_of ns ls))) c.literals-literal-items.ensures
    (each_never ns c.args.c.now items all none one i _ c.loop-literal-test.true refl c.loop-literal.invariant.all c.new-one.ensures c.in_ok-add.ensures.ok (c.in_default.ensures c.args.budget asked c.in_ok-judged.ensures))

pub returns : goal.returns
returns g c =
    let ns = c.args.terms.now in
    let items = c.literals-literal-items.result.now in
    c.judged_of.ensures c.args.budget _ (subst (λ (ls : List Listed). StandsFor c.args.budget (that (condition_of ns c.args.c.now ++ condition_of ns ls)) c.loop-literal.standing) c.literals-literal-items.ensures
    (each_all ns c.args.budget c.args.c.now items c.loop-literal.all c.loop-literal.literal-index c.loop-literal.standing c.loop-literal-test.false c.loop-literal.invariant.all c.loop-literal.invariant.known))
