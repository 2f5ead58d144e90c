-- What is written, and what is left to write.
use Rattle.std.proofs.Common.{◌≡◌, ◌++◌, drop, string_bytes}
use Rattle.std.specs.Prelude.{flat_map}
use Rattle.kn_replay.specs.Texts.{line_text}
use Rattle.kn_replay.proofs.writing.put_events.Given as goal

abbrev pub invariant-loop-line : goal.invariant-loop-line
invariant-loop-line l = string_bytes l.text ++ flat_map line_text (drop l.line-index l.events) ≡ string_bytes l.initial.text ++ flat_map line_text l.events
