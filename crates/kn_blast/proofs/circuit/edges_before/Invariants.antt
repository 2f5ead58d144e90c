-- The bits so far.
use Rattle.std.proofs.Common.{min}
use Rattle.kn_blast.specs.Spelling.{Spells}
use Rattle.kn_blast.specs.Inputs.{word_before}
use Rattle.kn_blast.proofs.circuit.edges_before.Given as goal

abbrev pub invariant-loop-place : goal.invariant-loop-place
invariant-loop-place l = Spells l.aig l.edges.items l.place (λ bits. word_before bits l.lowest (min l.place l.width))
