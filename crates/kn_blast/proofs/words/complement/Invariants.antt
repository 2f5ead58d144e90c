-- The bits so far.
use Rattle.std.proofs.Common.{◌≡◌, ◌+◌, ◌^◌, List, Bool, take, length}
use Rattle.kn_aig.specs.declared.gates.AigNode.{AigNode}
use Rattle.kn_blast.specs.Spelling.{number, AllStand}
use Rattle.kn_blast.proofs.words.complement.Given as goal

abbrev pub invariant-loop-i : goal.invariant-loop-i
invariant-loop-i l = record {
  stand : (ns : List AigNode) → AllStand ns l.xs → AllStand ns l.word.items;
  many : length l.word.items ≡ l.i;
  value : (bits : List Bool) (ns : List AigNode) → number bits ns l.word.items + number bits ns (take l.i l.xs) + 1 ≡ 2 ^ l.i;
}
