-- What was decided of the formula's term.
use Rattle.std.proofs.Common.{subst, IfSome}
use Rattle.std.specs.declared.option.Option.{Option}
use Rattle.kn_term.specs.Terms.{Valuation}
use Rattle.kn_cond.specs.Conditions.{IsLeast}
use Rattle.kn_solve.specs.Formulas.{query_of}
use Rattle.kn_solve.proofs.Stating.{if_each}
use Rattle.kn_solve.proofs.Found.{verdict_met, verdict_never, verdict_undecided, asked_of_formula}
use Rattle.kn_solve.proofs.asking.ask.Goals as goal

pub returns-clause-met : goal.returns-clause-met
returns-clause-met c =
    let q = query_of c.args.f.now in
    if_each c.decided.result _ _ (λ v all. verdict_met c.args.budget q v (all q (c.in_ok-inputs.ensures.circuit q (asked_of_formula c.one_list.ensures c.f.inside.terms c.in_ok-terms.terms c.whole.new.terms c.f.inside.condition c.f.inside.columns.items c.deref.result.now c.args.f.now c.in_ok-root.root.index c.in_ok-terms.ensures c.deref.ensures.value c.f.invariant.0 c.f.invariant.1 c.f.view_is c.order.ensures.order c.order-2.ensures.order c.in_ok-root.ensures.stands c.in_ok-root.ensures.term)))) c.decided.ensures

pub returns-clause-never : goal.returns-clause-never
returns-clause-never c =
    let q = query_of c.args.f.now in
    if_each c.decided.result _ _ (λ v all. verdict_never c.args.budget q v (all q (c.in_ok-inputs.ensures.circuit q (asked_of_formula c.one_list.ensures c.f.inside.terms c.in_ok-terms.terms c.whole.new.terms c.f.inside.condition c.f.inside.columns.items c.deref.result.now c.args.f.now c.in_ok-root.root.index c.in_ok-terms.ensures c.deref.ensures.value c.f.invariant.0 c.f.invariant.1 c.f.view_is c.order.ensures.order c.order-2.ensures.order c.in_ok-root.ensures.stands c.in_ok-root.ensures.term)))) c.decided.ensures

pub returns-clause-undecided : goal.returns-clause-undecided
returns-clause-undecided c =
    let q = query_of c.args.f.now in
    if_each c.decided.result _ _ (λ v all. verdict_undecided c.args.budget q v (all q (c.in_ok-inputs.ensures.circuit q (asked_of_formula c.one_list.ensures c.f.inside.terms c.in_ok-terms.terms c.whole.new.terms c.f.inside.condition c.f.inside.columns.items c.deref.result.now c.args.f.now c.in_ok-root.root.index c.in_ok-terms.ensures c.deref.ensures.value c.f.invariant.0 c.f.invariant.1 c.f.view_is c.order.ensures.order c.order-2.ensures.order c.in_ok-root.ensures.stands c.in_ok-root.ensures.term)))) c.decided.ensures

pub returns-in-Some-clause-met : goal.returns-in-Some-clause-met
returns-in-Some-clause-met c =
    let q = query_of c.args.f.now in
    subst (λ (o : Option Valuation). IfSome o (IsLeast q)) c.in-Some.is (c.in_ok-least.ensures q (asked_of_formula c.one_list.ensures c.f.inside.terms c.in_ok-terms.terms c.whole.new.terms c.f.inside.condition c.f.inside.columns.items c.deref.result.now c.args.f.now c.in_ok-root.root.index c.in_ok-terms.ensures c.deref.ensures.value c.f.invariant.0 c.f.invariant.1 c.f.view_is c.order.ensures.order c.order-2.ensures.order c.in_ok-root.ensures.stands c.in_ok-root.ensures.term))
