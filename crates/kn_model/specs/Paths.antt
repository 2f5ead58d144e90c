-- All ways through an event: a decision splits a way in two, bit 0 and bit 1, and the bits of a path tell it from the others.
use Rattle.std.specs.Prelude.{ℕ, zero, suc, ◌+◌, ◌-◌, ◌&&◌, not, nat_eq, Bool, true, false, List, [], ◌∷◌, ◌++◌, map, filter, Option, Some, None, slice_get, slice_index_or, slice_set}
use Rattle.kn_code.specs.declared.program.Instr.{Instr}
use Rattle.kn_model.specs.Values.{Literal, Values, negated}
use Rattle.kn_model.specs.Histories.{Done, AndRan, followed}
use Rattle.kn_packet.specs.declared.packet.Event.{Event}
use Rattle.kn_packet.specs.declared.packet.Event.TheVariants.{Boot, Reboot, Packet as Mail, Timer}
use Rattle.kn_model.specs.Packets.{Packet, Parcel, stamp_of, put_in, packet_le, first_at, without_first}
use Rattle.kn_model.specs.Nodes.{State, Node, Fuel, is_running, zeros, unset}
use Rattle.kn_model.specs.Nets.{Network, code_of, links_of}
use Rattle.kn_model.specs.Due.{due}
use Rattle.kn_model.specs.Rows.{Here, Way, Effect, Goes, Stops, Decides, effect, failed, counted, fresh_input}

-- A path through an event: its bits, the literals of its decisions, the state after it, and what it sent.
pub record Path (V : Type 0) : Type 0 where
  pub bits : List Bool
  pub literals : List (Literal V)
  pub state : State V
  pub sends : List (Packet V)

-- goes on where the test says so
abbrev pub goes_if : {A B : Type 0} → Bool → (A → List B) → A → List B
goes_if true go w = go w
goes_if false go w = []

-- one of two ways on
abbrev pub goes_by : {A B : Type 0} → Bool → (A → B) → (A → B) → A → B
goes_by true f g w = f w
goes_by false f g w = g w

module _ {V : Type 0} (k : Values V) where
  -- a way after a decision
  abbrev pub decided : Bool → Literal V → Way V → Way V
  decided bit l w = record w { bits = w.bits ++ bit ∷ []; literals = w.literals ++ l ∷ [] }

  -- bit 0 under the literal, then bit 1 under its negation
  abbrev pub splits : Literal V → (Way V → List (Way V)) → Way V → (Way V → List (Way V)) → Way V → List (Way V)
  splits l go w on v = goes_if (k.can_hold l) go (decided false l w) ++ goes_if (k.can_hold (negated l)) on (decided true (negated l) v)

  -- the ways on after a row
  abbrev pub after : Effect V → (Way V → List (Way V)) → List (Way V)
  after (Goes w) go = go w
  after (Stops w) go = w ∷ []
  after (Decides l w v) go = splits l go w go v

  -- no way on
  abbrev pub one_way : Way V → List (Way V)
  one_way w = w ∷ []

  -- the row of the next instruction; a way that has left the program stops
  abbrev pub effect_of : Here V → Way V → Option Instr → Effect V
  effect_of here w None = Stops w
  effect_of here w (Some i) = effect k here i w

  -- the row of the next instruction of a way
  abbrev pub effect_at : Here V → Way V → Effect V
  effect_at here w = effect_of here w (slice_get here.code.instrs w.pc)

  -- the ways on, with so many instructions left; one that would execute another one fails
  abbrev pub ways : Here V → ℕ → Way V → List (Way V)
  ways here zero w = goes_by (is_running w.state.outcome) (λ v. failed k here Fuel v ∷ []) one_way w
  ways here (suc fuel) w = goes_by (is_running w.state.outcome) (λ v. after (effect_at here v) (ways here fuel)) one_way w

  -- a handler runs; one that is absent runs no instruction
  abbrev pub runs_from : Here V → Option ℕ → Way V → List (Way V)
  runs_from here None w = w ∷ []
  runs_from here (Some pc) w = ways here here.fuel (record w { pc = pc })

  -- the handler of a number runs
  abbrev pub runs : Here V → ℕ → Way V → List (Way V)
  runs here handler w = runs_from here (slice_index_or here.code.handlers handler None) w

  -- that the node's next input of one bit is 0
  abbrev pub is_no : Here V → Way V → Literal V
  is_no here w = record { value = fresh_input k here w 1; truth = false }

  -- a failure choice; where the node has made 65,535 inputs it is answered no, without a bit
  abbrev pub chooses : Here V → (stays takes : Way V → List (Way V)) → Way V → List (Way V)
  chooses here stays takes w = goes_by (nat_eq w.state.inputs 65535) stays (λ v. splits (is_no here v) stays (counted k v) takes (counted k v)) w

  -- registers, memory and timers as at the start
  abbrev pub cleared : Way V → Way V
  cleared w = record w { state = record w.state { registers = zeros k 16; memory = zeros k 64; timers = unset k } }

  -- one loss is used
  abbrev pub with_loss : Way V → Way V
  with_loss w = record w { state = record w.state { losses = w.state.losses - 1 } }

  -- copy 1 comes one tick later
  abbrev pub doubled : Here V → Packet V → Way V → Way V
  doubled here p w = record w {
    state = record w.state {
      duplications = w.state.duplications - 1;
      queue = put_in packet_le (record p { copy = 1; arrival = here.tick + 1 }) w.state.queue;
    };
  }

  -- a packet that is not lost
  abbrev pub arrives : Here V → Packet V → Way V → List (Way V)
  arrives here p w =
      goes_by (nat_eq p.copy 0 && not (nat_eq w.state.duplications 0))
      (chooses here (runs here 1) (λ v. runs here 1 (doubled here p v))) (runs here 1) w

  -- a packet comes; if losses are left, it is first decided whether it is lost
  abbrev pub comes : Here V → Option (Packet V) → Way V → List (Way V)
  comes here None w = w ∷ []
  comes here (Some p) w = goes_by (nat_eq w.state.losses 0) (arrives here p) (chooses here (arrives here p) (λ v. with_loss v ∷ [])) w

  -- what an event does before its choices: boot has run, the reboot is decided, the packet is taken, the timer is unset
  abbrev pub begun : ℕ → Event → State V → State V
  begun t Boot s = record s { booted = true }
  begun t Reboot s = record s { reboots = filter (λ x. not (nat_eq x t)) s.reboots }
  begun t (Mail from seq copy) s = record s { queue = without_first t s.queue }
  begun t (Timer number) s = record s { timers = slice_set s.timers number None }

  -- the ways of each event
  abbrev pub event_ways : Here V → Event → Way V → List (Way V)
  event_ways here Boot w = runs here 0 w
  event_ways here Reboot w = chooses here one_way (λ v. runs here 0 (cleared v)) w
  event_ways here (Mail from seq copy) w = comes here here.mail w
  event_ways here (Timer number) w = runs here (2 + number) w

  -- the packet of an event
  abbrev pub mail_in : Event → ℕ → State V → Option (Packet V)
  mail_in (Mail from seq copy) t s = first_at t s.queue
  mail_in e t s = None

  -- where an event of node n at tick t runs
  abbrev pub here_at : Network → (n t : ℕ) → Event → State V → Here V
  here_at net n t e s = record { node = n; tick = t; code = code_of net n; links = links_of net n; fuel = net.limits.fuel; mail = mail_in e t s }

  -- a way at its start
  abbrev pub first_way : State V → Way V
  first_way s = record { state = s; pc = 0; bits = []; literals = []; sends = [] }

  -- the state after a way, with the way's bits and literals
  abbrev pub path_of : Way V → Path V
  path_of w = record {
    bits = w.bits;
    literals = w.literals;
    state = record w.state { trace = w.state.trace ++ w.bits; own = w.state.own ++ w.literals };
    sends = w.sends;
  }

  -- the paths of an event of node n at tick t
  abbrev pub event_paths : Network → (n t : ℕ) → Event → State V → List (Path V)
  event_paths net n t e s = map path_of (event_ways (here_at net n t e s) e (first_way (begun t e s)))

  -- the paths of an event, if there is one
  abbrev pub paths_of : Network → (n t : ℕ) → State V → Option Event → List (Path V)
  paths_of net n t s None = []
  paths_of net n t s (Some e) = event_paths net n t e s

  -- the paths of the due event, if there is one
  abbrev pub paths : Network → (n t : ℕ) → State V → List (Path V)
  paths net n t s = paths_of net n t s (due net.limits.ticks t s)

  -- what a path of the node sent, each with the node's history at the event's start
  abbrev pub parcels : Node V → Path V → List (Parcel V)
  parcels y p = map (λ (q : Packet V). record { packet = q; history = y.history }) p.sends

  -- the node after a path
  abbrev pub node_after : Event → Node V → Path V → Node V
  node_after e y p = record y { state = p.state; history = followed y.history (AndRan e p.bits Done); sends = y.sends ++ map stamp_of (parcels y p) }
