-- A log that checks leaves no values that meet the clauses.
use Rattle.std.proofs.Common.{◌≡◌, List, [], take, drop, sym, subst}
use Rattle.std.proofs.lemmas.List.{drop_all}
use Rattle.kn_cnf.specs.Formulas.{Step}
use Rattle.kn_cnf.specs.Good.{AreGood, before}
use Rattle.kn_cnf.proofs.Sound.{never_met}
use Rattle.kn_unsat.proofs.checking.check.Goals as goal

pub returns-clause-never : goal.returns-clause-never
returns-clause-never c = λ t.
    let lines = c.as_slice-lines.result.now in
    let none : drop c.loop-place.place lines ≡ [] = drop_all c.loop-place.place lines c.loop-place-test.false in
    let good = c.loop-place.invariant.1 (subst (λ (ss : List Step). AreGood (before c.cnf.inside.clauses.items (take c.loop-place.place lines)) ss) (sym none) tt) in
    never_met c.args.cnf.now.clauses lines (record { good = good; ends = c.ends_empty.ensures.0 t })
