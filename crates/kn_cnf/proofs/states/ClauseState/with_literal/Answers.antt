-- A literal more, by its value and by how the clause stood.
use Rattle.std.proofs.Common.{◌≡◌, sym, subst, ◌∙◌, true, false}
use Rattle.std.specs.Prelude.{Some, None}
use Rattle.kn_cnf.specs.Units.{lit_value}
use Rattle.kn_cnf.proofs.Equal.{lit_decides}
use Rattle.kn_cnf.specs.States.{IsState}
use Rattle.kn_cnf.proofs.Literals.{with_true, with_false, with_first, with_same, with_second, with_any}
use Rattle.kn_cnf.proofs.states.ClauseState.with_literal.Goals as goal

pub returns-in-Some-true : goal.returns-in-Some-true
returns-in-Some-true c = λ ls xs v m. let is : lit_value ls c.args.l ≡ Some true = cc in with_true ls xs c.args.l is

pub returns-in-Some-false : goal.returns-in-Some-false
returns-in-Some-false c = λ ls xs v m. let is : lit_value ls c.args.l ≡ Some false = cc in with_false ls xs c.args.l is c.args.self m

pub returns-in-False : goal.returns-in-False
returns-in-False c = λ ls xs v m. let is : lit_value ls c.args.l ≡ None = cc in with_first ls xs c.args.l is (subst (IsState ls xs) c.in-False.is m)

pub returns-then-eq : goal.returns-then-eq
returns-then-eq c = λ ls xs v m. with_same ls xs c.args.l c.in-Unit.m ((lit_decides c.in-Unit.m c.args.l).0 (sym c.eq.ensures ∙ c.if-eq.true)) (subst (IsState ls xs) c.in-Unit.is m)

pub returns-else-eq : goal.returns-else-eq
returns-else-eq c = λ ls xs v m.
    let is : lit_value ls c.args.l ≡ None = cc in
    with_second ls xs c.args.l is c.in-Unit.m (λ e. let wrong : true ≡ false = sym ((lit_decides c.in-Unit.m c.args.l).1 e) ∙ (sym c.eq.ensures ∙ c.if-eq.false) in cc) (subst (IsState ls xs) c.in-Unit.is m)

pub returns-in-Other : goal.returns-in-Other
returns-in-Other c = λ ls xs v m. with_any ls xs c.args.l (subst (IsState ls xs) c.in-Other.is m)
