-- All are ticks where those that are left are.
use Rattle.std.proofs.Common.{◌≡◌, drop}
use Rattle.std.specs.List.{list_all}
use Rattle.kn_netfile.specs.Keys.{is_tick}
use Rattle.kn_netfile.proofs.nodes.are_ticks.Given as goal

abbrev pub invariant-loop-number : goal.invariant-loop-number
invariant-loop-number l = list_all is_tick (drop l.number-index l.numbers) ≡ list_all is_tick l.numbers
