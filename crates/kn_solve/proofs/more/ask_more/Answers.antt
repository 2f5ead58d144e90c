-- What was told already.
use Rattle.std.proofs.Common.{IfSome, ◌++◌, subst}
use Rattle.std.specs.declared.option.Option.{Option}
use Rattle.kn_cond.specs.Conditions.{that}
use Rattle.kn_cond.specs.Meanings.{condition_of}
use Rattle.kn_solve.specs.declared.judge.Judged.{Judged}
use Rattle.kn_solve.specs.Verdicts.{IsJudged}
use Rattle.kn_solve.proofs.more.ask_more.Goals as goal

pub returns-in-Some : goal.returns-in-Some
returns-in-Some g c =
    let ns = c.args.terms.now in
    let asked = that (condition_of ns c.args.c.now ++ condition_of ns c.args.more.now) in
    subst (λ (o : Option Judged). IfSome o (IsJudged c.args.budget asked)) c.in-Some.is (c.in_ok-told.ensures c.args.budget (condition_of ns c.args.c.now) c.requires.known)
