use Rattle.std.proofs.Common.{ℕ, List, map, take}
use Rattle.kn_dstate.specs.declared.row.Row.{Row}
use Rattle.kn_dstate.specs.Places.{is_in}
use Rattle.kn_dstate.specs.Graphs.{at, IsGraph}
use Rattle.kn_dstate.specs.Members.{Became, emptied, HasLeft}
use Rattle.kn_dstate.proofs.exchange.take_all.Given as goal

abbrev pub invariant-loop-d : goal.invariant-loop-d
invariant-loop-d l = record {
  dstates : Became emptied (λ k. is_in k (map (λ x. x.0) (take l.d-index l.went))) l.fn.dstates.slots l.dstates.slots;
  states : (k : ℕ) → HasLeft (at l.fn.states.slots k) (at l.states.slots k);
  graph : (nodes : ℕ) (rows : List Row) (packets : List ℕ) → IsGraph nodes l.fn.dstates.slots l.fn.states.slots rows packets → IsGraph nodes l.dstates.slots l.states.slots rows packets;
}
