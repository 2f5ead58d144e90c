-- What is written, and what is left to write, of nodes that are in range.
use Rattle.std.proofs.Common.{◌≡◌, ◌++◌, drop, length, string_bytes, flat_map}
use Rattle.std.specs.List.{AllByRecursion}
use Rattle.kn_plan.specs.Valid.{IsPlan}
use Rattle.kn_netfile.specs.Printing.{node_text}
use Rattle.kn_netfile.proofs.printing.put_nodes.Given as goal

abbrev pub invariant-loop-plan : goal.invariant-loop-plan
invariant-loop-plan l =
    (string_bytes l.text ++ flat_map (node_text l.names) (drop l.plan-index l.plans) ≡ string_bytes l.fn.text ++ flat_map (node_text l.names) l.plans)
    × AllByRecursion (IsPlan (length l.names)) (drop l.plan-index l.plans)
