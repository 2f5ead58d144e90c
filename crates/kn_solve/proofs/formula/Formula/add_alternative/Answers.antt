-- The alternative behind those of the last column.
use Rattle.std.proofs.Common.{◌∙◌}
use Rattle.kn_cond.proofs.Kept.{StandIn-extends}
use Rattle.kn_solve.proofs.Stating.{stated_kept, on_err, on_ok, on_err_each, last_stated, columns_stand, same_stated}
use Rattle.kn_solve.proofs.formula.Formula.add_alternative.Goals as goal

pub returns-in_err-own-clause-err : goal.returns-in_err-own-clause-err
returns-in_err-own-clause-err c =
    on_err c.from_residual.result _ (stated_kept c.self.inside.terms c.imported.new.own c.self.inside.condition c.self.inside.columns.items c.imported.ensures.grows c.self.invariant.0 c.self.invariant.1 ∙ c.self.view_is)

pub invariant_of-self-2 : goal.invariant_of-self-2
invariant_of-self-2 c = (
  StandIn-extends c.self.inside.terms c.imported.new.own c.self.inside.condition c.imported.ensures.grows c.self.invariant.0,
  c.push_last.ensures.stand c.imported.new.own c.in_ok-own.ensures.stand (columns_stand c.self.inside.terms c.imported.new.own c.self.inside.columns.items c.imported.ensures.grows c.self.invariant.1),
)

pub returns-clause-ok : goal.returns-clause-ok
returns-clause-ok c =
    on_ok c.push_last.result _ _ (λ put. last_stated c.self.inside.terms c.imported.new.own c.self.inside.condition c.in_ok-own.own c.self.inside.columns.items c.push_last.new.columns.items _ c.args.self.now c.imported.ensures.grows c.self.invariant.0 c.self.invariant.1 c.in_ok-own.ensures.same c.self.view_is put) c.push_last.ensures.ok

pub returns-clause-err : goal.returns-clause-err
returns-clause-err c =
    on_err_each c.push_last.result _ _ (λ put. same_stated c.self.inside.terms c.imported.new.own c.self.inside.condition c.self.inside.columns.items c.push_last.new.columns.items c.args.self.now c.imported.ensures.grows c.self.invariant.0 c.self.invariant.1 c.self.view_is put) c.push_last.ensures.err
