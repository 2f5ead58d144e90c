-- One failure more, one that is not there, and no failed state.
use Rattle.std.proofs.Common.{List, length, subst, sym, arith}
use Rattle.kn_model.specs.Reports.{FailureLine}
use Rattle.kn_report.specs.Sections.{IsFailure, failure_at}
use Rattle.kn_report.proofs.Gathering.{SoFar, one_more, all_read, few_more}
use Rattle.kn_report.proofs.Failing.{next_read, next_none, past_failed, count_more}
use Rattle.kn_report.proofs.section.read_failures.Goals as goal

pub loop-state-preserved : goal.loop-state-preserved
loop-state-preserved c =
    let failures = c.loop-state.failures.items in
    let item = rw c.in-Some.is at c.in_ok-next_failure.ensures.item in
    let few = rw c.in-Some.is at c.in_ok-next_failure.ensures.few in
    record {
      read = subst (λ (xs : List FailureLine). SoFar failure_at (IsFailure c.args.dstates.now c.args.failed.now) c.args.text.now xs c.in-Some.after.now) (sym c.in_ok-push-in-Some.ensures.items)
          (one_more failure_at (IsFailure c.args.dstates.now c.args.failed.now) c.args.text.now failures c.loop-state.rest.now c.in-Some.failure c.in-Some.after.now
          (next_read c.args.dstates.now c.args.failed.now (length failures) c.loop-state.state-index 0 c.loop-state.invariant.count c.loop-state-test.true c.loop-state.rest.now c.in-Some.failure c.in-Some.after.now item) c.loop-state.invariant.read);
      few = few_more failures c.in-Some.failure _ _ _ _ c.in_ok-push-in-Some.ensures.items few c.loop-state.invariant.few;
      count = count_more failures c.in-Some.failure _ c.loop-state.state-index c.in_ok-push-in-Some.ensures.items c.loop-state.invariant.count;
    }

pub returns-in-None-clause-read : goal.returns-in-None-clause-read
returns-in-None-clause-read c =
    all_read failure_at (IsFailure c.args.dstates.now c.args.failed.now) c.args.text.now c.loop-state.failures.items c.loop-state.rest.now c.loop-state.invariant.read
    (next_none c.args.dstates.now c.args.failed.now (length c.loop-state.failures.items) c.loop-state.state-index 0 c.loop-state.invariant.count c.loop-state-test.true c.loop-state.rest.now
    (rw c.in-None.is at c.in_ok-next_failure.ensures.item))

pub returns-clause-read : goal.returns-clause-read
returns-clause-read c =
    all_read failure_at (IsFailure c.args.dstates.now c.args.failed.now) c.args.text.now c.loop-state.failures.items c.loop-state.rest.now c.loop-state.invariant.read
    (past_failed c.args.dstates.now c.args.failed.now (length c.loop-state.failures.items) c.loop-state.rest.now (let count = c.loop-state.invariant.count in let past = c.loop-state-test.false in omega (arith, count, past)))
