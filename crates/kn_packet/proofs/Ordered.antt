-- The order of packets by key is total and transitive, so that a queue stays in order.
use Rattle.std.proofs.Common.{◌≡◌, ℕ, true, false, List, refl, sym, subst}
use Rattle.std.specs.Prelude.{Result, Ok, Err, OnOk, OnErr}
use Rattle.kn_built.proofs.Below.{below-trans, below-total}
use Rattle.kn_built.proofs.Sorted.{AreSorted-put_in, AreSorted-without_first}
use Rattle.kn_packet.specs.Packets.{PacketView, packet_le, arrives_at, posted, without_first_at, IsQueue}

pub packet_le-trans : (p q r : PacketView) → packet_le p q ≡ true → packet_le q r ≡ true → packet_le p r ≡ true
packet_le-trans p q r =
    below-trans p.arrival q.arrival r.arrival _ _ _ (below-trans p.from q.from r.from _ _ _ (below-trans p.seq q.seq r.seq _ _ _ (below-trans p.copy q.copy r.copy true true true (λ h i. refl))))

pub packet_le-total : (p q : PacketView) → packet_le p q ≡ false → packet_le q p ≡ true
packet_le-total p q =
    below-total p.arrival q.arrival _ _ (below-total p.from q.from _ _ (below-total p.seq q.seq _ _ (below-total p.copy q.copy true true (λ h. refl))))

pub IsQueue-posted : (p : PacketView) (q : List PacketView) → IsQueue q → IsQueue (posted p q)
IsQueue-posted p q h = AreSorted-put_in packet_le packet_le-total packet_le-trans p q h

pub IsQueue-without_first_at : (tick : ℕ) (q : List PacketView) → IsQueue q → IsQueue (without_first_at tick q)
IsQueue-without_first_at tick q h = AreSorted-without_first packet_le (arrives_at tick) q h

-- the queue after a call that put a packet in, or was refused memory
pub IsQueue-put : {A E : Type 0} (r : Result A E) (p : PacketView) (old new : List PacketView) → OnOk r (new ≡ posted p old) → OnErr r (new ≡ old) → IsQueue old → IsQueue new
IsQueue-put (Ok x) p old new ok err h = subst IsQueue (sym ok) (IsQueue-posted p old h)
IsQueue-put (Err e) p old new ok err h = subst IsQueue (sym err) h
