-- The last column with one alternative more.
use Rattle.std.proofs.Common.{◌∙◌, ap, List, [], ◌∷◌, ◌++◌, Vec}
use Rattle.std.specs.declared.alloc.Global.{Global}
use Rattle.kn_term.specs.declared.node.Literal.{Literal}
use Rattle.kn_solve.proofs.Stating.{on_err, pushed_last, same_last}
use Rattle.kn_solve.proofs.formula.push_last.Goals as goal

pub returns-in_err-push-clause-err : goal.returns-in_err-push-clause-err
returns-in_err-push-clause-err c = on_err c.from_residual.result _ (λ ns. same_last ns c.args.columns.now.items c.push.new.self _ _ (c.in_err-push.ensures.items ∙ ap (λ (v : Vec (List Literal) Global). v.items) c.index_mut.ensures.value))

pub returns-clause-ok : goal.returns-clause-ok
returns-clause-ok c = λ ns. pushed_last ns c.args.columns.now.items c.push.new.self _ c.args.c c.len-last.result (c.len-last.ensures ∙ c.args.columns.now.ok.0) c.requires (c.in_ok-push.ensures.items ∙ ap (λ (v : Vec (List Literal) Global). v.items ++ c.args.c ∷ []) c.index_mut.ensures.value)
