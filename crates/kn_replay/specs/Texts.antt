-- The bytes of a run.
use Rattle.std.specs.Prelude.{ℕ, Bool, true, false, List, ◌++◌, length, codes, decimal, flat_map, count_by}
use Rattle.kn_trace.specs.Text.{text_of}
use Rattle.kn_packet.specs.declared.packet.Event.{Event}
use Rattle.kn_packet.specs.declared.packet.Event.TheVariants.{Boot, Reboot, Packet as Mail, Timer}
use Rattle.kn_model.specs.Nodes.{State, Outcome, Running, Halted, Failed}
use Rattle.kn_model.specs.Nets.{Network}
use Rattle.kn_model.specs.Concrete.{Happened}
use Rattle.kn_report.specs.Texts.{numbered_from, outcome_text}

-- a packet by sender, sequence number and copy; a timer by its number
abbrev pub event_text : Event → List ℕ
event_text Boot = codes "boot"
event_text Reboot = codes "reboot"
event_text (Mail from seq copy) = codes "packet " ++ (decimal from ++ (codes "." ++ (decimal seq ++ (codes "." ++ decimal copy))))
event_text (Timer number) = codes "timer " ++ decimal number

abbrev pub line_text : Happened → List ℕ
line_text l =
    codes "tick " ++ (decimal l.tick ++ (codes " node " ++ (decimal l.node ++ (codes " event " ++ (event_text l.event
    ++ (codes " bits " ++ (text_of l.bits ++ codes "\n")))))))

-- the line of node n
abbrev pub node_text : ℕ → State ℕ → List ℕ
node_text n s = codes "node " ++ (decimal n ++ (codes " trace " ++ (text_of s.trace ++ (codes " outcome " ++ (outcome_text s.outcome ++ codes "\n")))))

abbrev pub has_failed : Outcome → Bool
has_failed Running = false
has_failed Halted = false
has_failed (Failed kind pc tick) = true

abbrev pub is_failed : State ℕ → Bool
is_failed s = has_failed s.outcome

-- how many of the nodes failed
abbrev pub failed_in : List (State ℕ) → ℕ
failed_in ss = count_by is_failed ss

abbrev pub head_text : Network → List ℕ
head_text net = codes "replay 1 ticks " ++ (decimal net.limits.ticks ++ (codes " nodes " ++ (decimal (length net.nodes) ++ codes "\n")))

abbrev pub end_text : List (State ℕ) → List ℕ
end_text ss = codes "end failed " ++ (decimal (failed_in ss) ++ codes "\n")

-- a head, a line for each event, a line for each node, and an end
abbrev pub replay_text : Network → List Happened → List (State ℕ) → List ℕ
replay_text net events ss = head_text net ++ (flat_map line_text events ++ (numbered_from node_text 0 ss ++ end_text ss))
