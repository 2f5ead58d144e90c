use Rattle.std.proofs.Common.{◌≡◌, ℕ, ◌+◌, List, Some, true, length, sum_by}
use Rattle.std.specs.List.{AllByRecursion}
use Rattle.slab.specs.Slab.{HasRoomFor}
use Rattle.kn_dstate.specs.declared.row.Row.{Row}
use Rattle.kn_dstate.specs.Places.{PlaceView}
use Rattle.kn_dstate.specs.Graphs.{at, shown, IsPlace, IsGraph}
use Rattle.kn_dstate.specs.Members.{is_of_some, HasRoom}
use Rattle.kn_dstate.specs.Changes.{slots_weigh}
use Rattle.kn_dstate.proofs.exchange.put_all.Given as goal

abbrev pub invariant-loop-place : goal.invariant-loop-place
invariant-loop-place l = record {
  room : HasRoomFor l.dstates (length l.places.items);
  ready : (k : ℕ) → is_of_some k l.places.items ≡ true → HasRoom (length l.places.items) (at l.states.slots k);
  weight : (f : PlaceView → ℕ) → slots_weigh f l.dstates.slots + sum_by f l.places.items ≡ slots_weigh f l.fn.dstates.slots + sum_by f l.fn.places.items;
  kept : (d : ℕ) (p : PlaceView) → at l.fn.dstates.slots d ≡ Some p → at l.dstates.slots d ≡ Some p;
  seen : shown l.states.slots ≡ shown l.fn.states.slots;
  graph : (nodes : ℕ) (rows : List Row) (packets : List ℕ) → AllByRecursion (IsPlace nodes (shown l.fn.states.slots) packets) l.fn.places.items → IsGraph nodes l.fn.dstates.slots l.fn.states.slots rows packets
      → AllByRecursion (IsPlace nodes (shown l.states.slots) packets) l.places.items × IsGraph nodes l.dstates.slots l.states.slots rows packets;
}

abbrev pub decreases-loop-place : goal.decreases-loop-place
decreases-loop-place l = length l.places.items
