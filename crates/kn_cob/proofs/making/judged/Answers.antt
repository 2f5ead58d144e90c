-- What is asked of nothing, and of all literals.
use Rattle.std.proofs.Common.{◌≡◌, [], ◌++◌, List, ℕ, ap, sym, subst, ◌∙◌}
use Rattle.std.specs.Prelude.{IfOk}
use Rattle.kn_term.specs.declared.node.Literal.{Literal}
use Rattle.kn_term.specs.Terms.{Valuation}
use Rattle.kn_cond.specs.Conditions.{Condition, that, IsLeast}
use Rattle.kn_cond.specs.Meanings.{condition_of}
use Rattle.kn_plan.specs.Files.{File}
use Rattle.kn_solve.specs.Formulas.{Asked}
use Rattle.kn_solve.specs.Verdicts.{IsJudged}
use Rattle.kn_cob.specs.Reports.{joint_of}
use Rattle.kn_cob.proofs.Opening.{nothing_asked}
use Rattle.kn_cob.proofs.making.judged.Goals as goal

pub ask_more-requires-clause-known : goal.ask_more-requires-clause-known
ask_more-requires-clause-known c =
    let ns = c.condition.result.0.now in
    subst (λ (a : Valuation). IsLeast (that (condition_of ns c.new-none.result)) a) (sym c.new.ensures)
    (subst (λ (ls : List Literal). IsLeast (that (condition_of ns ls)) []) (sym c.new-none.ensures) (nothing_asked 0))

pub returns : goal.returns
returns c =
    let ns = c.condition.result.0.now in
    let all = c.condition.result.1.now in
    let asked : condition_of ns c.new-none.result ++ condition_of ns all ≡ joint_of c.args.scenario.now =
    ap (λ (ls : List Literal). condition_of ns ls ++ condition_of ns all) c.new-none.ensures ∙ (c.condition.ensures.means ∙ ap (λ (f : Asked). f.condition) c.in_ok-joint.ensures) in
    subst (λ (d : Condition). IfOk c.ask_more.result (IsJudged c.args.net.now.network.limits.conflicts (that d))) asked
    (subst (λ (n : ℕ). IfOk c.ask_more.result (IsJudged n (that (condition_of ns c.new-none.result ++ condition_of ns all)))) (ap (λ (f : File). f.network.limits.conflicts) c.net.view_is) c.ask_more.ensures)
