-- What is written, and what is left to write.
use Rattle.std.proofs.Common.{◌≡◌, ◌++◌, take, drop, string_bytes}
use Rattle.std.specs.List.{AllByRecursion}
use Rattle.kn_report.specs.Forms.{StateFits}
use Rattle.kn_report.specs.Texts.{numbered_from, state_text}
use Rattle.kn_report.proofs.writing.put_states.Given as goal

abbrev pub invariant-loop-number : goal.invariant-loop-number
invariant-loop-number l = record {
  text : string_bytes l.text ++ numbered_from state_text l.number (drop l.number l.states) ≡ string_bytes l.initial.text ++ numbered_from state_text 0 l.states;
  fits : AllByRecursion StateFits (take l.number l.states);
}
