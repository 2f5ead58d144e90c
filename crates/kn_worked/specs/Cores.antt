-- What a core stands for, on small cores: one that stands, and others that differ from it in one thing and do not.
use Rattle.std.specs.Prelude.{ℕ, Bool, List, [], ◌∷◌, Option, Some, None}
use Rattle.kn_model.specs.Terms.{Term, Word, Input, Valuation, terms}
use Rattle.kn_model.specs.Histories.{History, Done, AndRan}
use Rattle.kn_packet.specs.declared.packet.Event.{Event}
use Rattle.kn_packet.specs.declared.packet.Event.TheVariants.{Boot, Reboot}
use Rattle.kn_model.specs.Packets.{Parcel}
use Rattle.kn_model.specs.Nets.{Network}
use Rattle.kn_model.specs.Scenarios.{Scenario, opening, node_at, cob}
use Rattle.kn_cond.specs.declared.standing.Standing.{Standing}
use Rattle.kn_cond.specs.declared.standing.Standing.TheVariants.{Inputs, Open}
use Rattle.kn_model.specs.Limits.{LimitAt, Dstates}
use Rattle.kn_model.specs.Replays.{node_of}
use Rattle.kn_model.specs.Cores.{Held, StateView, DstateView, CoreView, Stands}
use Rattle.kn_worked.specs.Networks.{is, i, o}
use Rattle.kn_worked.specs.OneTick.{first_of}
use Rattle.kn_worked.specs.Limits.{one_half, two_halves, one_sends}

-- two nodes that branch once
abbrev pub net : Network
net = two_halves 1

-- node n at its start
abbrev pub start_of : Standing → Option Held → ℕ → Option StateView
start_of standing held n = Some (record { node = n; history = Done; config = (node_at terms (opening terms net) n).state; standing = standing; held = held })

-- at its start, with no inputs listed, and not held
abbrev pub start : ℕ → Option StateView
start = start_of (Inputs []) None

-- a core of this network at tick 0 with one dstate
abbrev pub core_of : List (Option StateView) → List (List ℕ) → List (List (Parcel Term)) → Option LimitAt → CoreView
core_of states columns inboxes stopped = record { net = net; tick = 0; states = states; dstates = record { columns = columns; inboxes = inboxes } ∷ []; next = 0; stopped = stopped }

-- the opening core
abbrev pub opening_core : CoreView
opening_core = core_of (start 0 ∷ start 1 ∷ []) ((0 ∷ []) ∷ (1 ∷ []) ∷ []) ([] ∷ [] ∷ []) None

-- a packet to node 1 that node 0 has not sent
abbrev pub unsent : Parcel Term
unsent = record { packet = record { from = 0; seq = 0; copy = 0; to = 1; arrival = 1; payload = []; guard = []; bits = [] }; history = Done }

-- it stands
abbrev pub OpeningStands : Type 0
OpeningStands = Stands opening_core

-- each column holds the state of the other node
abbrev pub Crossed : Type 0
Crossed = Stands (core_of (start 0 ∷ start 1 ∷ []) ((1 ∷ []) ∷ (0 ∷ []) ∷ []) ([] ∷ [] ∷ []) None) → ⊥

-- an inbox holds a packet that was not sent
abbrev pub Unsent : Type 0
Unsent = Stands (core_of (start 0 ∷ start 1 ∷ []) ((0 ∷ []) ∷ (1 ∷ []) ∷ []) ([] ∷ (unsent ∷ []) ∷ []) None) → ⊥

-- two states have one node and one history
abbrev pub Doubled : Type 0
Doubled = Stands (core_of (start 0 ∷ start 1 ∷ start 0 ∷ []) ((0 ∷ 2 ∷ []) ∷ (1 ∷ []) ∷ []) ([] ∷ [] ∷ []) None) → ⊥

-- a state that is not held is in no dstate
abbrev pub Unplaced : Type 0
Unplaced = Stands (core_of (start 0 ∷ start 1 ∷ start 0 ∷ []) ((0 ∷ []) ∷ (1 ∷ []) ∷ []) ([] ∷ [] ∷ []) None) → ⊥

-- a state has inputs that are not the least
abbrev pub NotLeast : Type 0
NotLeast = Stands (core_of (start_of (Inputs (first_of 0 ∷ [])) None 0 ∷ start 1 ∷ []) ((0 ∷ []) ∷ (1 ∷ []) ∷ []) ([] ∷ [] ∷ []) None) → ⊥

-- a state is marked whose condition is not far
abbrev pub Marked : Type 0
Marked = Stands (core_of (start_of (Open 65536) None 0 ∷ start 1 ∷ []) ((0 ∷ []) ∷ (1 ∷ []) ∷ []) ([] ∷ [] ∷ []) None) → ⊥

-- a state is held under a serial that was not drawn
abbrev pub NotDrawn : Type 0
NotDrawn = Stands (core_of (start_of (Inputs []) (Some (record { serial = 0; event = Boot })) 0 ∷ start 1 ∷ []) ((0 ∷ []) ∷ (1 ∷ []) ∷ []) ([] ∷ [] ∷ []) None) → ⊥

-- it stopped at a limit that was kept
abbrev pub StoppedEarly : Type 0
StoppedEarly = Stands (core_of (start 0 ∷ start 1 ∷ []) ((0 ∷ []) ∷ (1 ∷ []) ∷ []) ([] ∷ [] ∷ []) (Some (record { limit = Dstates; tick = 0 }))) → ⊥

-- it stopped in another tick than its own
abbrev pub StoppedElsewhere : Type 0
StoppedElsewhere = Stands (core_of (start 0 ∷ start 1 ∷ []) ((0 ∷ []) ∷ (1 ∷ []) ∷ []) ([] ∷ [] ∷ []) (Some (record { limit = Dstates; tick = 1 }))) → ⊥

-- one node that has branched once; the side of bit 1, which inputs meet, is left out
abbrev pub one_side : CoreView
one_side = of (cob terms (one_half 2) 1)
  where
    state : Scenario Term → Option StateView
    state s = Some (record { node = 0; history = (node_at terms s 0).history; config = (node_at terms s 0).state; standing = Inputs (first_of 0 ∷ []); held = None })

    of : List (Scenario Term) → CoreView
    of [] = opening_core
    of (s ∷ ss) = record { net = one_half 2; tick = 1; states = state s ∷ []; dstates = record { columns = (0 ∷ []) ∷ []; inboxes = [] ∷ [] } ∷ []; next = 0; stopped = None }

-- a scenario is missing
abbrev pub LeftOut : Type 0
LeftOut = Stands one_side → ⊥

-- a node that sends on one side of its branch, and the receiver
abbrev pub sending : Network
sending = one_sends 2

-- node n after a history, and its inputs
abbrev pub after : ℕ → History → Valuation → Option Held → Option StateView
after n h inputs held = Some (record { node = n; history = h; config = (node_of terms sending n h).state; standing = Inputs inputs; held = held })

-- the history of the sender after its boot
abbrev pub booted : Bool → History
booted b = AndRan Boot (b ∷ []) Done

-- The packet that it sent. Its guard is written with a literal more than need be.
abbrev pub packet : Parcel Term
packet = record {
  packet = record { from = 0; seq = 0; copy = 0; to = 1; arrival = 1; payload = Input 0 0 1 ∷ []; guard = is (Input 0 0 1) ∷ is (Word 1) ∷ []; bits = o ∷ [] };
  history = Done;
}

-- A core of this network at tick 0. The sender has run: state 0 sent nothing, and state 1 the packet; state 2, the receiver, is held for an event.
abbrev pub sent_core : Event → List DstateView → CoreView
sent_core event dstates = record {
  net = sending;
  tick = 0;
  states = after 0 (booted i) [] None ∷ after 0 (booted o) (first_of 0 ∷ []) None ∷ after 1 Done [] (Some (record { serial = 0; event = event })) ∷ [];
  dstates = dstates;
  next = 1;
  stopped = None;
}

-- a dstate with these states of the sender, the receiver, and an inbox of the receiver
abbrev pub with_sender : List ℕ → List (Parcel Term) → DstateView
with_sender column inbox = record { columns = column ∷ (2 ∷ []) ∷ []; inboxes = [] ∷ inbox ∷ [] }

-- the state that sent and the one that did not have a dstate each; the receiver is in both, and is held for its boot
abbrev pub SentStands : Type 0
SentStands = Stands (sent_core Boot (with_sender (0 ∷ []) [] ∷ with_sender (1 ∷ []) (packet ∷ []) ∷ []))

-- a dstate for both
abbrev pub OneForBoth : Type 0
OneForBoth = Stands (sent_core Boot (with_sender (0 ∷ 1 ∷ []) (packet ∷ []) ∷ [])) → ⊥

-- the packet is in no inbox
abbrev pub NotInInbox : Type 0
NotInInbox = Stands (sent_core Boot (with_sender (0 ∷ []) [] ∷ with_sender (1 ∷ []) [] ∷ [])) → ⊥

-- the receiver is held for an event that it does not run
abbrev pub OtherEvent : Type 0
OtherEvent = Stands (sent_core Reboot (with_sender (0 ∷ []) [] ∷ with_sender (1 ∷ []) (packet ∷ []) ∷ [])) → ⊥
