-- Those so far are given theirs, and what comes of the others.
use Rattle.std.proofs.Common.{◌≡◌, ◌++◌, take, drop}
use Rattle.kn_replay.specs.Nodes.{mailed}
use Rattle.kn_replay.proofs.turn.post.Given as goal

abbrev pub invariant-loop-number : goal.invariant-loop-number
invariant-loop-number l = take l.number l.nodes ++ mailed l.number l.sends (drop l.number l.nodes) ≡ mailed 0 l.sends l.initial.nodes
