-- The lowest bits.
use Rattle.std.proofs.Common.{◌%◌, ◌^◌}
use Rattle.kn_blast.specs.Spelling.{Spells}
use Rattle.kn_blast.proofs.nodes.word_edges.Given as goal

abbrev pub invariant-loop-place : goal.invariant-loop-place
invariant-loop-place l = Spells l.aig l.edges.items l.place (λ bits. l.word % 2 ^ l.place)
