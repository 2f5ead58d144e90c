-- What is written, and what is left to write.
use Rattle.std.proofs.Common.{◌≡◌, ◌++◌, take, drop, string_bytes}
use Rattle.std.specs.List.{AllByRecursion}
use Rattle.kn_report.specs.Forms.{ColumnsFit}
use Rattle.kn_report.specs.Texts.{numbered_from, dstate_text}
use Rattle.kn_report.proofs.writing.put_dstates.Given as goal

abbrev pub invariant-loop-number : goal.invariant-loop-number
invariant-loop-number l = record {
  text : string_bytes l.text ++ numbered_from dstate_text l.number (drop l.number l.dstates) ≡ string_bytes l.initial.text ++ numbered_from dstate_text 0 l.dstates;
  fits : AllByRecursion ColumnsFit (take l.number l.dstates);
}
