-- A history is what a node has run and was sent, in order; histories are themselves in an order.
use Rattle.std.specs.Prelude.{ℕ, Bool, List, [], ◌∷◌}
use Rattle.std.specs.declared.cmp.Ordering.{Ordering}
use Rattle.std.specs.declared.cmp.Ordering.TheVariants.{Less, Equal, Greater}
use Rattle.std.specs.Ordering.{nat_cmp, bool_cmp, ordering_then}
use Rattle.std.specs.Cmp.Lexicographic.{slice_cmp}
use Rattle.kn_packet.specs.declared.packet.Event.{Event}
use Rattle.kn_packet.specs.declared.packet.Event.TheVariants as events

-- A history, first entry first: events that ran, with their bits, and packets that were got, each with its stamp: the
-- sender, the sender's history at the start of the event that sent it, the bits of that event so far, and the sequence number.
pub data History : Type 0 where
  Done : History
  AndRan : (event : Event) → (bits : List Bool) → (rest : History) → History
  AndGot : (node : ℕ) → (sent : History) → (bits : List Bool) → (seq copy : ℕ) → (rest : History) → History

-- the entries of one history, and then those of another
abbrev pub followed : History → History → History
followed Done h = h
followed (AndRan e b r) h = AndRan e b (followed r h)
followed (AndGot n s b q c r) h = AndGot n s b q c (followed r h)

-- what tells a packet from all others: the sender, its history at the event's start, the event's bits so far and the sequence number
pub record Stamp : Type 0 where
  pub node : ℕ
  pub history : History
  pub bits : List Bool
  pub seq : ℕ

-- the stamps of what was got
abbrev pub gots : History → List Stamp
gots Done = []
gots (AndRan e b r) = gots r
gots (AndGot n s b q c r) = record { node = n; history = s; bits = b; seq = q } ∷ gots r

-- boot, reboot, packets, timers
abbrev pub event_rank : Event → ℕ
event_rank events.Boot = 0
event_rank events.Reboot = 1
event_rank (events.Packet from seq copy) = 2
event_rank (events.Timer number) = 3

-- packets by sender, sequence and copy; timers by number
abbrev pub within_rank : Event → Event → Ordering
within_rank (events.Packet f s c) (events.Packet f' s' c') = ordering_then (nat_cmp f f') (ordering_then (nat_cmp s s') (nat_cmp c c'))
within_rank (events.Timer n) (events.Timer n') = nat_cmp n n'
within_rank a b = Equal

-- the order of events
abbrev pub event_cmp : Event → Event → Ordering
event_cmp a b = ordering_then (nat_cmp (event_rank a) (event_rank b)) (within_rank a b)

-- entry by entry, a prefix first, what ran before what was got
abbrev pub history_cmp : History → History → Ordering
history_cmp Done Done = Equal
history_cmp Done (AndRan e b r) = Less
history_cmp Done (AndGot n s b q c r) = Less
history_cmp (AndRan e b r) Done = Greater
history_cmp (AndRan e b r) (AndRan e' b' r') = ordering_then (event_cmp e e') (ordering_then (slice_cmp bool_cmp b b') (history_cmp r r'))
history_cmp (AndRan e b r) (AndGot n' s' b' q' c' r') = Less
history_cmp (AndGot n s b q c r) Done = Greater
history_cmp (AndGot n s b q c r) (AndRan e' b' r') = Greater
history_cmp (AndGot n s b q c r) (AndGot n' s' b' q' c' r') =
    ordering_then (nat_cmp n n') (ordering_then (nat_cmp q q') (ordering_then (nat_cmp c c')
    (ordering_then (history_cmp s s') (ordering_then (slice_cmp bool_cmp b b') (history_cmp r r')))))
