-- How many there are so far.
use Rattle.std.proofs.Common.{◌≡◌, ◌≤◌, take}
use Rattle.std.specs.Prelude.{count_by}
use Rattle.kn_report.specs.Texts.{is_open}
use Rattle.kn_report.proofs.writing.undecided_states.Given as goal

abbrev pub invariant-loop-line : goal.invariant-loop-line
invariant-loop-line l = record {
  counted : l.count ≡ count_by (λ line. is_open line.standing) (take l.line-index l.states);
  most : l.count ≤ l.line-index;
}
