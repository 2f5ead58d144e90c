use Rattle.std.proofs.Common.{◌≡◌, ◌++◌, map, drop}
use Rattle.std.specs.Arc.{arc_value}
use Rattle.kn_cob.specs.Copies.{mailed}
use Rattle.kn_cob.proofs.copies.NetworkCopy.with_mail.Given as goal

abbrev pub invariant-loop-node : goal.invariant-loop-node
invariant-loop-node l = map arc_value l.nodes.items ++ mailed l.node l.sends (drop l.node l.self) ≡ mailed 0 l.sends l.self
