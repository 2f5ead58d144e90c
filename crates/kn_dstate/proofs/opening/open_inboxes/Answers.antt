use Rattle.std.proofs.Common.{◌≡◌, ◌∷◌, [], ap, arith, length, length-append, map, Vec, Global}
use Rattle.kn_dstate.specs.declared.number.PacketNo.{PacketNo}
use Rattle.kn_dstate.proofs.Holding.{grown_each}
use Rattle.kn_dstate.proofs.opening.open_inboxes.Goals as goal

pub nodes-preserved : goal.nodes-preserved
nodes-preserved c =
    let v = c.new.result in
    let one : map (λ (k : PacketNo). k.0) v.items ≡ [] = ap (map (λ (k : PacketNo). k.0)) c.new.ensures.items in
    record {
      many = omega (arith, ap length c.in_ok-push.ensures.items, length-append c.nodes.inboxes.items (v ∷ []), c.nodes.invariant.many);
      each = grown_each (λ (v : Vec PacketNo Global). map (λ k. k.0) v.items) c.nodes.inboxes.items c.push.new.self.items v c.nodes._node (λ n. []) c.in_ok-push.ensures.items c.nodes.invariant.many one c.nodes.invariant.each;
    }
