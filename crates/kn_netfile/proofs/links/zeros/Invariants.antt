-- As many zeros as nodes were gone over.
use Rattle.std.proofs.Common.{◌≡◌, ℕ, length, get_or}
use Rattle.kn_netfile.proofs.links.zeros.Given as goal

abbrev pub invariant-loop-node : goal.invariant-loop-node
invariant-loop-node l = record {
  len : length l.counts.items ≡ l._node;
  none : (n : ℕ) → get_or l.counts.items n 0 ≡ 0;
}
