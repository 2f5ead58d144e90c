-- The failures written so far.
use Rattle.std.proofs.Common.{◌≡◌, ◌++◌, take, string_bytes}
use Rattle.std.specs.Prelude.{flat_map}
use Rattle.std.specs.List.{AllByRecursion}
use Rattle.kn_report.specs.Forms.{FailureFits}
use Rattle.kn_report.specs.Texts.{failure_text}
use Rattle.kn_report.proofs.writing.put_failures.Given as goal

abbrev pub invariant-loop-failure : goal.invariant-loop-failure
invariant-loop-failure l = record {
  text : string_bytes l.text ≡ string_bytes l.initial.text ++ flat_map failure_text (take l.failure-index l.failures);
  fits : AllByRecursion FailureFits (take l.failure-index l.failures);
}
