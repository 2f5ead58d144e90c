-- Steps of a run: an event, all events of a node in a tick, a tick, and all ticks so far.
use Rattle.std.specs.Prelude.{◌≡◌, ℕ, Bool, List, [], ◌∷◌, ◌++◌, length, slice_set}
use Rattle.kn_model.specs.Terms.{Valuation, words}
use Rattle.kn_model.specs.Concrete.{Happened, concrete, events_from, node_events, tick_events}
use Rattle.kn_model.specs.Packets.{Packet}
use Rattle.kn_model.specs.Nets.{Network}
use Rattle.kn_model.specs.Due.{left}
use Rattle.kn_model.specs.Scenarios.{Scenario, node_at, rest_of_tick, settled}
use Rattle.kn_conc.specs.Views.{NodeView}
use Rattle.kn_conc.specs.Runs.{IsRun}
use Rattle.kn_replay.specs.Nodes.{IsNetwork, mailed, node_in}

-- a node ran its due event, with these bits, and sent these packets
pub record IsEvent (net : Network) (a : Valuation) (tick : ℕ) (v w : NodeView) (bits : List Bool) (sends : List (Packet ℕ)) : Type 0 where
  pub run : IsRun net a tick v w sends
  pub same : bits ≡ run.bits

-- node n of a network ran its due event, with these bits, and what it sent was posted
pub record IsTurn (net : Network) (a : Valuation) (tick n : ℕ) (xs ys : List NodeView) (bits : List Bool) : Type 0 where
  pub next : NodeView
  pub sends : List (Packet ℕ)
  pub event : IsEvent net a tick (node_in xs n) next bits sends
  pub posted : ys ≡ mailed 0 sends (slice_set xs n next)

-- what became of a scenario, whose nodes are these now, and the events that were run on the way
module _ (net : Network) (a : Valuation) where
  -- all events of node n in tick t
  pub record IsSettled (t n : ℕ) (s : Scenario ℕ) (ys : List NodeView) (before after : List Happened) : Type 0 where
    pub scenario : Scenario ℕ
    pub settles : settled (words a) net t n s ≡ scenario ∷ []
    pub nodes : IsNetwork net ys scenario
    pub events : after ≡ before ++ node_events (words a) net n t (left net.limits.ticks t (node_at (words a) s n).state) s

  -- all events of tick t
  pub record IsTicked (t : ℕ) (s : Scenario ℕ) (ys : List NodeView) (before after : List Happened) : Type 0 where
    pub scenario : Scenario ℕ
    pub rests : rest_of_tick (words a) net t s ≡ scenario ∷ []
    pub nodes : IsNetwork net ys scenario
    pub events : after ≡ before ++ tick_events (words a) net t 0 (length net.nodes) s

  -- all events of the ticks before t
  pub record IsDone (t : ℕ) (ys : List NodeView) (after : List Happened) : Type 0 where
    pub scenario : Scenario ℕ
    pub is : concrete net a t ≡ scenario ∷ []
    pub nodes : IsNetwork net ys scenario
    pub events : after ≡ events_from (words a) net 0 t
