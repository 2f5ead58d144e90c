-- The literals behind those of the condition.
use Rattle.std.proofs.Common.{◌∙◌}
use Rattle.kn_solve.proofs.Stating.{stated_kept, on_err, on_ok, on_err_each, joined_stand, joined_stated, columns_stand, left_stated}
use Rattle.kn_solve.proofs.formula.Formula.add.Goals as goal

pub returns-in_err-own-clause-err : goal.returns-in_err-own-clause-err
returns-in_err-own-clause-err c =
    on_err c.from_residual.result _ (stated_kept c.self.inside.terms c.imported.new.own c.self.inside.condition c.self.inside.columns.items c.imported.ensures.grows c.self.invariant.0 c.self.invariant.1 ∙ c.self.view_is)

pub invariant_of-self-2 : goal.invariant_of-self-2
invariant_of-self-2 c = (
  joined_stand c.join.result c.self.inside.terms c.imported.new.own c.self.inside.condition c.in_ok-own.own c.join.new.self c.imported.ensures.grows c.self.invariant.0 c.in_ok-own.ensures.stand c.join.ensures.ok c.join.ensures.err,
  columns_stand c.self.inside.terms c.imported.new.own c.self.inside.columns.items c.imported.ensures.grows c.self.invariant.1,
)

pub returns-clause-ok : goal.returns-clause-ok
returns-clause-ok c =
    on_ok c.join.result _ _ (λ joined. joined_stated c.self.inside.terms c.imported.new.own c.self.inside.condition c.in_ok-own.own c.join.new.self c.self.inside.columns.items _ c.args.self.now c.imported.ensures.grows c.self.invariant.0 c.self.invariant.1 c.in_ok-own.ensures.same c.self.view_is joined) c.join.ensures.ok

pub returns-clause-err : goal.returns-clause-err
returns-clause-err c =
    on_err_each c.join.result _ _ (λ left. left_stated c.self.inside.terms c.imported.new.own c.self.inside.condition c.join.new.self c.self.inside.columns.items c.args.self.now c.imported.ensures.grows c.self.invariant.0 c.self.invariant.1 c.self.view_is left) c.join.ensures.err
