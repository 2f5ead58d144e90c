-- A log that checks leaves no model.
use Rattle.std.proofs.Common.{◌≡◌, List, IfOk, map, ap, subst, ◌∙◌}
use Rattle.kn_cnf.specs.declared.clauses.Lit.{Lit}
use Rattle.kn_cnf.specs.Formulas.{Formula, items_of}
use Rattle.kn_cnf.specs.Truth.{AreNeverMet}
use Rattle.std.proofs.lemmas.Result.{IfOk-weaker}
use Rattle.kn_sat.specs.Answers.{OnClosed}
use Rattle.kn_sat.proofs.Refuted.{answers_never}
use Rattle.kn_sat.proofs.searching.search.Goals as goal

pub returns-clause-never : goal.returns-clause-never
returns-clause-never c =
    let cs = map items_of c.deref.result.now in
    let same : cs ≡ (c.args.cnf.now).clauses = ap (map items_of) c.deref.ensures.value ∙ ap (λ (f : Formula). f.clauses) c.cnf.view_is in
    subst (λ (ds : List (List Lit)). IfOk c.run.result (OnClosed (λ _. AreNeverMet ds))) same (IfOk-weaker c.run.result _ _ (λ f a. answers_never c.args.inputs cs c.args.budget f a) c.run.ensures)
