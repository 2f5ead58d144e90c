-- The numbers written so far.
use Rattle.std.proofs.Common.{◌≡◌, ◌<◌, ◌^◌, ◌++◌, ℕ, string_bytes, flat_map, take}
use Rattle.std.specs.List.{AllByRecursion}
use Rattle.kn_report.specs.Texts.{behind_blank}
use Rattle.kn_report.proofs.writing.put_numbers.Given as goal

abbrev pub invariant-loop-number : goal.invariant-loop-number
invariant-loop-number l = record {
  text : string_bytes l.text ≡ string_bytes l.initial.text ++ flat_map behind_blank (take l.number-index l.numbers);
  fits : AllByRecursion (λ (i : ℕ). i < 2 ^ 64) (take l.number-index l.numbers);
}
