-- What a node does next in a tick: boot, a reboot, the first packet, the lowest timer.
use Rattle.std.specs.Prelude.{ℕ, ◌+◌, Bool, true, false, not, ◌&&◌, ◌||◌, if◌then◌else◌, nat_eq, List, [], ◌∷◌, Option, Some, None}
use Rattle.kn_packet.specs.declared.packet.Event.{Event}
use Rattle.kn_packet.specs.declared.packet.Event.TheVariants.{Boot, Reboot, Packet as Mail, Timer}
use Rattle.kn_packet.specs.Packets.{PacketView, first_at}
use Rattle.kn_node.specs.declared.machine.Outcome.{Outcome}
use Rattle.kn_node.specs.declared.machine.Outcome.TheVariants.{Running, Halted, Failed}
use Rattle.kn_node.specs.Views.{MachineView}

-- it runs on
abbrev pub is_running : Outcome → Bool
is_running Running = true
is_running Halted = false
is_running (Failed kind pc tick) = false

-- the list has this number
abbrev pub has : ℕ → List ℕ → Bool
has t [] = false
has t (x ∷ xs) = nat_eq x t || has t xs

-- a timer is set to this tick
abbrev pub is_set_to : ℕ → Option ℕ → Bool
is_set_to t None = false
is_set_to t (Some d) = nat_eq d t

-- the lowest timer, from this number on, that is set to a tick
abbrev pub timer_from : ℕ → ℕ → List (Option ℕ) → Option Event
timer_from t k [] = None
timer_from t k (o ∷ os) = if is_set_to t o then Some (Timer k) else timer_from t (k + 1) os

-- the event of a packet, or else another one
abbrev pub mail_or : Option PacketView → Option Event → Option Event
mail_or None e = e
mail_or (Some p) e = Some (Mail p.from p.seq p.copy)

-- the first packet that arrives at a tick, or else the lowest timer that is set to it
abbrev pub mail_or_timer : ℕ → List PacketView → List (Option ℕ) → Option Event
mail_or_timer t queue timers = mail_or (first_at t queue) (timer_from t 0 timers)

-- nothing where the node ended; at tick 0 a node that has not booted boots; then a reboot, a packet, a timer
abbrev pub due : ℕ → MachineView → Option Event
due t m =
    if is_running m.outcome
    then (if nat_eq t 0 && not m.booted then Some Boot else if has t m.reboots then Some Reboot else mail_or_timer t m.queue m.timers)
    else None
