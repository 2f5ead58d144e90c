-- How many there are so far.
use Rattle.std.proofs.Common.{◌≡◌, ◌≤◌, take}
use Rattle.std.specs.Prelude.{count_by}
use Rattle.kn_report.specs.Texts.{is_undecided}
use Rattle.kn_report.proofs.writing.undecided_failures.Given as goal

abbrev pub invariant-loop-failure : goal.invariant-loop-failure
invariant-loop-failure l = record {
  counted : l.count ≡ count_by (λ f. is_undecided f.reach) (take l.failure-index l.failures);
  most : l.count ≤ l.failure-index;
}
