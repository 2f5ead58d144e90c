-- What is written, and what is left to write.
use Rattle.std.proofs.Common.{◌≡◌, ◌++◌, drop, string_bytes}
use Rattle.kn_report.specs.Texts.{numbered_from}
use Rattle.kn_replay.specs.Views.{states_in}
use Rattle.kn_replay.specs.Texts.{node_text}
use Rattle.kn_replay.proofs.writing.put_nodes.Given as goal

abbrev pub invariant-loop-number : goal.invariant-loop-number
invariant-loop-number l = string_bytes l.text ++ numbered_from node_text l.number (states_in (drop l.number l.nodes)) ≡ string_bytes l.initial.text ++ numbered_from node_text 0 (states_in l.nodes)
