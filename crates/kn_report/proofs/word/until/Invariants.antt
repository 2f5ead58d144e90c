-- No byte so far is the one.
use Rattle.std.proofs.Common.{take}
use Rattle.kn_report.specs.Words.{Without}
use Rattle.kn_report.proofs.word.until.Given as goal

abbrev pub invariant-loop-place : goal.invariant-loop-place
invariant-loop-place l = Without l.byte (take l.place l.text)
