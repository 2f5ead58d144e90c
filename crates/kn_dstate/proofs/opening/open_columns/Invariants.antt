use Rattle.std.proofs.Common.{◌≡◌, ℕ, ◌<◌, length, Some, [], ◌∷◌, map}
use Rattle.std.specs.Prelude.{slice_get}
use Rattle.kn_dstate.proofs.opening.open_columns.Given as goal

abbrev pub invariant-loop-node : goal.invariant-loop-node
invariant-loop-node l = record {
  many : length l.columns.items ≡ l.node;
  each : (n : ℕ) → n < l.node → slice_get (map (λ c. map (λ s. s.0) c.items) l.columns.items) n ≡ Some (n ∷ []);
}
