-- The words from a place on.
use Rattle.std.proofs.Common.{◌≡◌, ◌≤◌, ◌/◌, ◌^◌, ℕ, length, drop, map}
use Rattle.kn_term.specs.Terms.{listed}
use Rattle.kn_blast.specs.Inputs.{bits_of}
use Rattle.kn_solve.specs.Asking.{read_of}
use Rattle.kn_solve.specs.Orders.{word_at, words_for}
use Rattle.kn_solve.proofs.trying.spelled.Given as goal

abbrev pub invariant-loop-place : goal.invariant-loop-place
invariant-loop-place l = record {
  within : l.place ≤ length l.inputs;
  left : l.left ≡ l.fn.number / 2 ^ bits_of (drop l.place l.inputs);
  words : (n k : ℕ) → listed l.words n k ≡ word_at (map read_of (drop l.place l.inputs)) (words_for (map read_of (drop l.place l.inputs)) l.fn.number) n k;
}

abbrev pub decreases-loop-place : goal.decreases-loop-place
decreases-loop-place l = l.place
