-- Worked networks: what copying the whole network gives, by computation.
use Rattle.std.specs.Prelude.{◌≡◌, ℕ, Bool, true, false, List, [], ◌∷◌, map, replicate, Option, Some, None}
use Rattle.kn_code.specs.declared.program.Instr.{Instr}
use Rattle.kn_code.specs.declared.program.Instr.TheVariants as instrs
use Rattle.kn_code.specs.Code.{Code}
use Rattle.kn_model.specs.Values.{Literal}
use Rattle.kn_model.specs.Terms.{Term, Input, terms}
use Rattle.kn_model.specs.Nodes.{Node, Outcome, Running, Halted, Failed, Assert, Fuel}
use Rattle.kn_model.specs.Nets.{Network, Plan, Link, Limits}
use Rattle.kn_model.specs.Scenarios.{Scenario, name_of, cob}

-- a program by its handlers boot, recv and timer 0
abbrev pub program : (boot recv timer : Option ℕ) → List Instr → Code
program boot recv timer is = record { instrs = is; handlers = boot ∷ recv ∷ timer ∷ replicate 7 None }

abbrev pub plain : ℕ → Plan
plain p = record { program = p; loss = 0; duplicate = 0; reboot = [] }

abbrev pub limited : ℕ → ℕ → Limits
limited ticks fuel = record { ticks = ticks; fuel = fuel; conflicts = 65536; states = 4096; dstates = 4096 }

abbrev pub link : ℕ → ℕ → ℕ → Link
link from to delay = record { from = from; to = to; delay = delay }

abbrev pub net_of : ℕ → List Code → List Plan → List Link → Network
net_of ticks programs nodes links = record { programs = programs; nodes = nodes; links = links; limits = limited ticks 512 }

-- the scenarios at the last tick: their names, and their outcomes
abbrev pub last : Network → List (Scenario Term)
last net = cob terms net net.limits.ticks

abbrev pub outcomes_of : Scenario Term → List Outcome
outcomes_of s = map (λ (y : Node Term). y.state.outcome) s.nodes

abbrev pub owns_of : Scenario Term → List (List (Literal Term))
owns_of s = map (λ (y : Node Term). y.state.own) s.nodes

abbrev pub Name : Type 0
Name = List (List Bool)

abbrev pub names : Network → List Name
names net = map name_of (last net)

abbrev pub outcomes : Network → List (List Outcome)
outcomes net = map outcomes_of (last net)

abbrev pub owns : Network → List (List (List (Literal Term)))
owns net = map owns_of (last net)

-- bits, and traces of a network
abbrev pub o : Bool
o = false

abbrev pub i : Bool
i = true

abbrev pub bit : Bool → List Bool
bit b = b ∷ []

abbrev pub is : Term → Literal Term
is t = record { value = t; truth = true }

abbrev pub is_not : Term → Literal Term
is_not t = record { value = t; truth = false }

abbrev pub two : Code
two = program (Some 0) None None (instrs.Input 0 1 ∷ instrs.Input 1 1 ∷ instrs.Brz 0 3 ∷ instrs.Brz 1 4 ∷ instrs.Ret ∷ [])

abbrev pub ifsend : Code
ifsend = program (Some 0) None None (instrs.Input 0 1 ∷ instrs.Brz 0 3 ∷ instrs.Send 0 0 1 ∷ instrs.Ret ∷ [])

abbrev pub idle : Code
idle = program None (Some 0) None (instrs.Ret ∷ [])

abbrev pub early : Code
early = program (Some 0) None None (instrs.Input 0 1 ∷ instrs.Send 0 0 1 ∷ instrs.Brz 0 3 ∷ instrs.Ret ∷ [])

abbrev pub five : Code
five = program (Some 0) None None (instrs.Const 0 5 ∷ instrs.Send 0 0 1 ∷ instrs.Ret ∷ [])

abbrev pub ping : Code
ping = program (Some 0) None None (instrs.Send 0 0 0 ∷ instrs.Ret ∷ [])

abbrev pub fragile : Code
fragile = program (Some 0) (Some 2) (Some 5) (instrs.Timer 0 1 ∷ instrs.Ret ∷ instrs.Const 0 0 ∷ instrs.Assert 0 ∷ instrs.Ret ∷ instrs.Halt ∷ [])

abbrev pub TwoInputs : Type 0
TwoInputs = names (net_of 1 (two ∷ []) (plain 0 ∷ []) []) ≡ (((o ∷ o ∷ []) ∷ []) ∷ ((o ∷ i ∷ []) ∷ []) ∷ ((i ∷ o ∷ []) ∷ []) ∷ ((i ∷ i ∷ []) ∷ []) ∷ [])

abbrev pub MaybeSend : Type 0
MaybeSend = names (net_of 2 (ifsend ∷ idle ∷ []) (plain 0 ∷ plain 1 ∷ plain 1 ∷ []) (link 0 1 1 ∷ [])) ≡ ((bit o ∷ [] ∷ [] ∷ []) ∷ (bit i ∷ [] ∷ [] ∷ []) ∷ [])

-- where the packet was sent, node 1 has its guard in its own condition
abbrev pub MaybeSendOwn : Type 0
MaybeSendOwn = owns (net_of 2 (ifsend ∷ idle ∷ []) (plain 0 ∷ plain 1 ∷ plain 1 ∷ []) (link 0 1 1 ∷ []))
    ≡ (((is (Input 0 0 1) ∷ []) ∷ (is (Input 0 0 1) ∷ []) ∷ [] ∷ []) ∷ ((is_not (Input 0 0 1) ∷ []) ∷ [] ∷ [] ∷ []) ∷ [])

abbrev pub SendFirst : Type 0
SendFirst = names (net_of 2 (early ∷ idle ∷ []) (plain 0 ∷ plain 1 ∷ []) (link 0 1 1 ∷ [])) ≡ ((bit o ∷ [] ∷ []) ∷ (bit i ∷ [] ∷ []) ∷ [])

abbrev pub lossy : Network
lossy = net_of 3 (five ∷ idle ∷ []) (plain 0 ∷ record { program = 1; loss = 1; duplicate = 1; reboot = [] } ∷ []) (link 0 1 1 ∷ [])

abbrev pub LostOrTwice : Type 0
LostOrTwice = names lossy ≡ (([] ∷ (o ∷ o ∷ []) ∷ []) ∷ ([] ∷ (o ∷ i ∷ o ∷ []) ∷ []) ∷ ([] ∷ (o ∷ i ∷ i ∷ []) ∷ []) ∷ ([] ∷ bit i ∷ []) ∷ [])

abbrev pub rebooting : Network
rebooting = net_of 3 (ping ∷ fragile ∷ []) (plain 0 ∷ record { program = 1; loss = 0; duplicate = 0; reboot = 1 ∷ [] } ∷ []) (link 0 1 2 ∷ [])

abbrev pub Reboots : Type 0
Reboots = (names rebooting ≡ (([] ∷ bit o ∷ []) ∷ ([] ∷ (i ∷ o ∷ []) ∷ []) ∷ ([] ∷ (i ∷ i ∷ []) ∷ []) ∷ []))
    × (outcomes rebooting ≡ ((Running ∷ Halted ∷ []) ∷ (Running ∷ Halted ∷ []) ∷ (Running ∷ Failed Assert 3 2 ∷ []) ∷ []))

abbrev pub late_timer : Code
late_timer = program (Some 0) (Some 2) (Some 4) (instrs.Timer 0 1 ∷ instrs.Ret ∷ instrs.Const 0 1 ∷ instrs.Ret ∷ instrs.Assert 0 ∷ instrs.Ret ∷ [])

abbrev pub PacketBeforeTimer : Type 0
PacketBeforeTimer = names (net_of 2 (ping ∷ late_timer ∷ []) (plain 0 ∷ plain 1 ∷ []) (link 0 1 1 ∷ [])) ≡ (([] ∷ bit o ∷ []) ∷ ([] ∷ bit i ∷ []) ∷ [])

abbrev pub one_node : ℕ → List Instr → Network
one_node fuel is = record { programs = program (Some 0) None None is ∷ []; nodes = plain 0 ∷ []; links = []; limits = limited 1 fuel }

abbrev pub Endless : Type 0
Endless = outcomes (one_node 512 (instrs.Jmp 0 ∷ [])) ≡ ((Failed Fuel 0 0 ∷ []) ∷ [])

abbrev pub OneTooFew : Type 0
OneTooFew = outcomes (one_node 1 (instrs.Const 0 1 ∷ instrs.Halt ∷ [])) ≡ ((Failed Fuel 1 0 ∷ []) ∷ [])

abbrev pub Enough : Type 0
Enough = outcomes (one_node 2 (instrs.Const 0 1 ∷ instrs.Halt ∷ [])) ≡ ((Halted ∷ []) ∷ [])
