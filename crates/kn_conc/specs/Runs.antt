-- The one path of an event over words, and what choices come to.
use Rattle.std.specs.Prelude.{◌≡◌, ◌<◌, ◌&&◌, ℕ, suc, Bool, false, not, nat_eq, if◌then◌else◌, List, [], ◌∷◌, ◌++◌, map, Some}
use Rattle.kn_packet.specs.declared.packet.Event.{Event}
use Rattle.kn_packet.specs.declared.packet.Event.TheVariants.{Boot, Reboot, Packet as Mail, Timer}
use Rattle.kn_model.specs.Packets.{Packet}
use Rattle.kn_model.specs.Nets.{Network}
use Rattle.kn_model.specs.Due.{due}
use Rattle.kn_model.specs.Terms.{Valuation, words}
use Rattle.kn_model.specs.Rows.{Here, Way, counted, fresh_input}
use Rattle.kn_model.specs.Paths.{Path, after, doubled, event_paths, path_of, ways}
use Rattle.kn_conc.specs.Views.{NodeView}
use Rattle.kn_conc.specs.Ways.{bare_path, seen, with_bit}
use Rattle.kn_conc.specs.declared.rows.Step.{Step}

module _ (a : Valuation) where
  -- the paths of ways, without what they were decided by
  abbrev pub paths_of : List (Way ℕ) → List (Path ℕ)
  paths_of ws = map bare_path (map (path_of (words a)) ws)

  -- these ways on have the one path of this way
  abbrev pub IsOnly : List (Way ℕ) → Way ℕ → Type 0
  IsOnly ws w = paths_of ws ≡ paths_of (w ∷ [])

  -- one instruction, or the end, made this way of that one
  abbrev pub IsTurn : Here ℕ → Way ℕ → Way ℕ → Step → Type 0
  IsTurn here v w s = (fuel : ℕ) → paths_of (ways (words a) here (suc fuel) v) ≡ paths_of (after (words a) (seen s w) (ways (words a) here fuel))

  -- whether a failure choice is taken, and the way after it
  abbrev pub is_taken : Here ℕ → Way ℕ → Bool
  is_taken here w = if nat_eq w.state.inputs 65535 then false else not (nat_eq (fresh_input (words a) here w 1) 0)

  abbrev pub chosen : Here ℕ → Way ℕ → Way ℕ
  chosen here w = if nat_eq w.state.inputs 65535 then w else with_bit (is_taken here w) (counted (words a) w)

  -- a packet that arrives may be doubled
  abbrev pub arrived : Here ℕ → Packet ℕ → Way ℕ → Way ℕ
  arrived here p w =
      if nat_eq p.copy 0 && not (nat_eq w.state.duplications 0)
      then (if is_taken here w then doubled (words a) here p (chosen here w) else chosen here w)
      else w

-- a timer is one of eight
abbrev pub IsSmall : Event → Type 0
IsSmall Boot = Unit {0}
IsSmall Reboot = Unit {0}
IsSmall (Mail from seq copy) = Unit {0}
IsSmall (Timer number) = number < 8

-- The event is the first due one, and it has one path: with these bits it leads to this node and these packets. What a run
-- over words does not keep is left out: the own condition, and the condition and the bits that a packet is sent under.
pub record IsRun (net : Network) (a : Valuation) (tick : ℕ) (v w : NodeView) (sends : List (Packet ℕ)) : Type 0 where
  pub event : Event
  pub bits : List Bool
  pub due : due net.limits.ticks tick v.state ≡ Some event
  pub path : map bare_path (event_paths (words a) net v.node tick event v.state) ≡ bare_path (record { bits = bits; literals = []; state = w.state; sends = sends }) ∷ []
  pub trace : w.state.trace ≡ v.state.trace ++ bits
  pub node : w.node ≡ v.node
