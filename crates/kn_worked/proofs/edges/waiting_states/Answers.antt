use Rattle.std.proofs.Common.{List, [], ◌∷◌, inl, inr, get_or, refl, arith}
use Rattle.kn_model.specs.Terms.{Term, terms}
use Rattle.kn_model.specs.Packets.{Packet}
use Rattle.kn_model.specs.Scenarios.{Scenario, opening, settled_from, node_at}
use Rattle.kn_model.specs.Alikes.{IsMet, IsQueueOf, IsStateOf}
use Rattle.kn_model.proofs.AlikeTerms.{alike_self}
use Rattle.kn_worked.specs.Packets.{packet}
use Rattle.kn_worked.specs.Edges.{barely, waiting}
use Rattle.kn_worked.proofs.edges.waiting_states.Goals as goal

-- the network after the event of node 0
abbrev start : Scenario Term
start = opening terms barely

abbrev sent : Scenario Term
sent = get_or (settled_from terms barely 0 0 1 start) 0 start

met : IsMet terms barely 1 (node_at terms sent 1)
met = record {
  tick = 0;
  in_time = omega arith;
  turn = 1;
  scenario = sent;
  there = refl;
  met = record { inside = omega arith; start = start; member = (0, omega arith, refl); before = sent; reached = (0, omega arith, refl); count = 0; turned = (0, omega arith, refl) };
}

-- its state with a queue that is one of its queues
with_queue : (q : List (Packet Term)) → IsQueueOf (node_at terms sent 1) q → IsStateOf barely 1 (waiting q)
with_queue q h = record {
  node = node_at terms sent 1;
  met = met;
  queue = q;
  queued = h;
  alike = alike_self (waiting q);
}

pub returns : goal.returns
returns c = (with_queue (packet 0 1 1 [] ∷ []) (inl refl), with_queue [] (inr refl))
