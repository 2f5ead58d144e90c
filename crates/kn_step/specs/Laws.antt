-- The laws of event runs, as statements. A law is proved where a function of this crate has it as its contract.
use Rattle.std.specs.Prelude.{ℕ, ◌<◌, Bool, List, length, map}
use Rattle.std.specs.List.{AllByRecursion}
use Rattle.kn_packet.specs.declared.packet.Event.{Event}
use Rattle.kn_node.specs.Views.{ConfigView}
use Rattle.kn_model.specs.Terms.{terms}
use Rattle.kn_model.specs.Nets.{Network}
use Rattle.kn_model.specs.Paths.{paths}
use Rattle.kn_model.specs.Limits.{IsPrefix, NoneBegins}
use Rattle.kn_model.specs.Laws.{IsNet}
use Rattle.kn_machine.specs.Views.{state_of}
use Rattle.kn_machine.specs.Paths.{PathView}
use Rattle.kn_step.specs.Answers.{AreTooMany}

-- the bits of paths
abbrev pub bits_of : List PathView → List (List Bool)
bits_of ps = map (λ (p : PathView). p.bits) ps

-- Of an event with too many paths the bits of those that were found are more than `states` prefixes of the due event's paths: none begins another, and each is live.
abbrev pub OverMeans : Type 0
OverMeans = (net : Network) (tick : ℕ) (c : ConfigView) (e : Event) (ps : List PathView) → IsNet net → AreTooMany net tick c e ps
    → (net.limits.states < length (bits_of ps)) × NoneBegins (bits_of ps) × AllByRecursion (IsPrefix net.limits.conflicts (state_of c) (paths terms net c.node tick (state_of c))) (bits_of ps)
