-- A line whose clause is apart is good exactly where its hints refute.
use Rattle.std.proofs.Common.{List, ℕ, [], subst, ap}
use Rattle.std.specs.Prelude.{IsTrue}
use Rattle.std.proofs.lemmas.Result.{IfOk-weaker}
use Rattle.kn_cnf.specs.declared.clauses.Lit.{Lit}
use Rattle.kn_cnf.specs.Good.{HasBoth, falsified, Refutes, IsGood, before}
use Rattle.kn_unsat.proofs.Hints.{Both, good_by}
use Rattle.kn_unsat.proofs.checking.is_good.Goals as goal

pub returns : goal.returns
returns c =
    let f = rw c.if-not-branch.false at c.in_ok-falsify.ensures in
    let cs = before c.args.clauses.now c.args.earlier.now in
    let ls = falsified [] c.deref.result.now in
    rw (← c.line.view_is)
    (IfOk-weaker c.follow.result (λ b. Both (IsTrue b) (Refutes cs ls c.deref-2.result.now)) (λ b. Both (IsTrue b) (IsGood cs (record { clause = c.line.inside.clause.items; hints = c.line.inside.hints.items })))
    (λ b both. good_by cs (record { clause = c.line.inside.clause.items; hints = c.line.inside.hints.items }) ls b
    (subst (λ (xs : List Lit). HasBoth xs → ⊥) c.deref.ensures.value f.0)
    (ap (falsified []) c.deref.ensures.value)
    (subst (λ (hs : List ℕ). Both (IsTrue b) (Refutes cs ls hs)) c.deref-2.ensures.value both))
    (c.follow.ensures ls f.1))
