-- All are valid where those that are left are.
use Rattle.std.proofs.Common.{drop}
use Rattle.std.specs.List.{AllByRecursion}
use Rattle.kn_code.specs.Code.{IsValid}
use Rattle.kn_replay.proofs.sound.comes_later.Given as goal

abbrev pub invariant-loop-program : goal.invariant-loop-program
invariant-loop-program l = AllByRecursion IsValid (drop l.program-index l.program-items) → AllByRecursion IsValid l.program-items
