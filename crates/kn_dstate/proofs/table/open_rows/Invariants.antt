use Rattle.std.proofs.Common.{◌≡◌, ℕ, ◌<◌, length, Some}
use Rattle.std.specs.Prelude.{slice_get}
use Rattle.kn_packet.specs.Histories.{Done}
use Rattle.kn_dstate.specs.Histories.{IsTable, told}
use Rattle.kn_dstate.proofs.table.open_rows.Given as goal

abbrev pub invariant-loop-node : goal.invariant-loop-node
invariant-loop-node l = record {
  table : IsTable l.rows.items;
  many : length l.rows.items ≡ l.node;
  each : (n : ℕ) → n < l.node → slice_get (told l.rows.items) n ≡ Some (record { node = n; history = Done });
}
