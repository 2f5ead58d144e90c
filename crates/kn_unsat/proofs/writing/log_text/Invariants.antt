-- The lines written so far.
use Rattle.std.proofs.Common.{◌≡◌, take}
use Rattle.std.specs.Prelude.{string_bytes}
use Rattle.std.specs.List.{AllByRecursion}
use Rattle.kn_unsat.specs.Text.{text_of, IsNumbered}
use Rattle.kn_unsat.proofs.writing.log_text.Given as goal

abbrev pub invariant-loop-line : goal.invariant-loop-line
invariant-loop-line l = record {
  text : string_bytes l.text ≡ text_of (take l.line-index l.line-items);
  numbered : AllByRecursion IsNumbered (take l.line-index l.line-items);
}
