-- The numbers so far, in front of those of the elements that are left.
use Rattle.std.proofs.Common.{◌≡◌, ◌++◌, ℤ, List, drop, option_map}
use Rattle.toml.specs.View.{items_view}
use Rattle.kn_netfile.specs.Keys.{all_numbers}
use Rattle.kn_netfile.proofs.nodes.all_numbers.Given as goal

abbrev pub invariant-loop-value : goal.invariant-loop-value
invariant-loop-value l = option_map (λ (rest : List ℤ). l.numbers.items ++ rest) (all_numbers (items_view (drop l.value-index l.value-items))) ≡ all_numbers (items_view l.value-items)
