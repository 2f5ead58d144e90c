-- The hints written so far.
use Rattle.std.proofs.Common.{◌≡◌, ◌<◌, ◌^◌, ◌++◌, ℕ, take}
use Rattle.std.specs.Prelude.{string_bytes, flat_map}
use Rattle.std.specs.List.{AllByRecursion}
use Rattle.kn_unsat.specs.Text.{hint_word}
use Rattle.kn_unsat.proofs.writing.put_hints.Given as goal

abbrev pub invariant-loop-hint : goal.invariant-loop-hint
invariant-loop-hint l = record {
  text : string_bytes l.text ≡ string_bytes l.fn.text ++ flat_map hint_word (take l.hint-index l.hints);
  numbered : AllByRecursion (λ (h : ℕ). h < 2 ^ 64) (take l.hint-index l.hints);
}
