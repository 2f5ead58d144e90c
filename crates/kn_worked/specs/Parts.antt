-- The other definitions on the worked networks: runs, replays, picks, reads.
use Rattle.std.specs.Prelude.{◌≡◌, ℕ, Bool, List, [], ◌∷◌, map, filter, Option, Some, None, slice_index_or}
use Rattle.kn_model.specs.Terms.{Term, Valuation, terms}
use Rattle.kn_packet.specs.declared.packet.Event.{Event}
use Rattle.kn_packet.specs.declared.packet.Event.TheVariants.{Boot, Reboot, Packet as Mail}
use Rattle.kn_model.specs.Nodes.{Node}
use Rattle.kn_model.specs.Nets.{Network}
use Rattle.kn_model.specs.Scenarios.{Scenario, name_of, node_at}
use Rattle.kn_model.specs.Conditions.{holds, that, bits_of}
use Rattle.kn_cond.specs.declared.standing.Standing.TheVariants.{Inputs}
use Rattle.kn_model.specs.Concrete.{concrete, scenario_under, Happened, events}
use Rattle.kn_model.specs.Cores.{CoreView, StateView, nodes_from, all_picked}
use Rattle.kn_worked.specs.Networks.{last, lossy, rebooting, net_of, ifsend, idle, plain, link, i, bit}

abbrev pub one : ℕ → ℕ → Valuation
one n k = record { node = n; index = k; word = 1 } ∷ []

abbrev pub ran_at : ℕ → ℕ → Event → List Bool → Happened
ran_at t n e bits = record { tick = t; node = n; event = e; bits = bits }

-- the run of the rebooted node, and its events
abbrev pub RebootRun : Type 0
RebootRun = (map name_of (concrete rebooting (one 1 0) 3) ≡ (([] ∷ (i ∷ i ∷ []) ∷ []) ∷ []))
    × (events rebooting (one 1 0) ≡ (ran_at 0 0 Boot [] ∷ ran_at 0 1 Boot [] ∷ ran_at 1 1 Reboot (bit i) ∷ ran_at 2 1 (Mail 0 0 0) (bit i) ∷ []))

-- exactly the member that holds under the inputs is the run on them
abbrev pub covered : Network → Valuation → List (Scenario ℕ)
covered net a = map (scenario_under a) (filter (λ (s : Scenario Term). holds a s.condition) (last net))

abbrev pub LossyCovered : Type 0
LossyCovered = covered lossy (one 1 1) ≡ concrete lossy (one 1 1) 3

abbrev pub RebootCovered : Type 0
RebootCovered = covered rebooting [] ≡ concrete rebooting [] 3

-- each node of each member is what its history makes
abbrev pub replays : Network → List (List (Node Term))
replays net = map (λ (s : Scenario Term). nodes_from net 0 (map (λ (y : Node Term). y.history) s.nodes) []) (last net)

abbrev pub all_nodes : Network → List (List (Node Term))
all_nodes net = map (λ (s : Scenario Term). s.nodes) (last net)

abbrev pub LossyReplays : Type 0
LossyReplays = replays lossy ≡ all_nodes lossy

abbrev pub maybe : Network
maybe = net_of 2 (ifsend ∷ idle ∷ []) (plain 0 ∷ plain 1 ∷ plain 1 ∷ []) (link 0 1 1 ∷ [])

abbrev pub MaybeReplays : Type 0
MaybeReplays = replays maybe ≡ all_nodes maybe

-- five states and two dstates stand for the two members
abbrev pub state_in : ℕ → ℕ → Option StateView
state_in member n = of (slice_index_or (last maybe) member (record { nodes = []; condition = [] }))
  where
    of : Scenario Term → Option StateView
    of s = Some (record { node = n; history = (node_at terms s n).history; config = (node_at terms s n).state; standing = Inputs []; held = None })

abbrev pub maybe_core : CoreView
maybe_core = record {
  net = maybe;
  tick = 2;
  states = state_in 0 0 ∷ state_in 1 0 ∷ state_in 1 1 ∷ state_in 0 1 ∷ state_in 0 2 ∷ [];
  dstates = record { columns = (0 ∷ []) ∷ (3 ∷ []) ∷ (4 ∷ []) ∷ []; inboxes = [] ∷ [] ∷ [] ∷ [] } ∷ record { columns = (1 ∷ []) ∷ (2 ∷ []) ∷ (4 ∷ []) ∷ []; inboxes = [] ∷ [] ∷ [] ∷ [] } ∷ [];
  next = 0;
  stopped = None;
}

abbrev pub MaybePicked : Type 0
MaybePicked = map (λ (s : Scenario Term). s.nodes) (all_picked maybe_core) ≡ all_nodes maybe

abbrev pub MaybeBits : Type 0
MaybeBits = map (λ (s : Scenario Term). bits_of (that s.condition)) (last lossy) ≡ (2 ∷ 3 ∷ 3 ∷ 1 ∷ [])
