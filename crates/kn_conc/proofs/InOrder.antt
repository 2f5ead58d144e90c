-- The order of packets by key is total and transitive, so that a queue stays in order.
use Rattle.std.proofs.Common.{◌≡◌, ℕ, true, false, List, [], ◌∷◌, refl}
use Rattle.kn_built.specs.Putting.{AreSorted}
use Rattle.kn_built.proofs.Below.{below-trans, below-total}
use Rattle.kn_built.proofs.Sorted.{AreSorted-put_in, AreSorted-without_first}
use Rattle.kn_model.specs.Packets.{Packet, packet_le, put_in, put_all, without_first}
use Rattle.kn_model.specs.Due.{comes_at}

le-trans : (p q r : Packet ℕ) → packet_le p q ≡ true → packet_le q r ≡ true → packet_le p r ≡ true
le-trans p q r =
    below-trans p.arrival q.arrival r.arrival _ _ _ (below-trans p.from q.from r.from _ _ _ (below-trans p.seq q.seq r.seq _ _ _ (below-trans p.copy q.copy r.copy true true true (λ h i. refl))))

le-total : (p q : Packet ℕ) → packet_le p q ≡ false → packet_le q p ≡ true
le-total p q =
    below-total p.arrival q.arrival _ _ (below-total p.from q.from _ _ (below-total p.seq q.seq _ _ (below-total p.copy q.copy true true (λ h. refl))))

-- with one packet more, with some more, and without the first of a tick
pub sorted_put : (p : Packet ℕ) (q : List (Packet ℕ)) → AreSorted packet_le q → AreSorted packet_le (put_in packet_le p q)
sorted_put p q h = AreSorted-put_in packet_le le-total le-trans p q h

pub sorted_all : (ps q : List (Packet ℕ)) → AreSorted packet_le q → AreSorted packet_le (put_all packet_le ps q)
sorted_all [] q h = h
sorted_all (p ∷ ps) q h = sorted_all ps (put_in packet_le p q) (sorted_put p q h)

pub sorted_without : (tick : ℕ) (q : List (Packet ℕ)) → AreSorted packet_le q → AreSorted packet_le (without_first tick q)
sorted_without tick q h = AreSorted-without_first packet_le (comes_at tick) q h
