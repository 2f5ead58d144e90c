use Rattle.std.proofs.Common.{◌≡◌, ℕ, ◌<◌, length, Some, [], map}
use Rattle.std.specs.Prelude.{slice_get}
use Rattle.kn_dstate.proofs.opening.open_inboxes.Given as goal

abbrev pub invariant-nodes : goal.invariant-nodes
invariant-nodes l = record {
  many : length l.inboxes.items ≡ l._node;
  each : (n : ℕ) → n < l._node → slice_get (map (λ c. map (λ k. k.0) c.items) l.inboxes.items) n ≡ Some [];
}
