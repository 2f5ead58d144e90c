-- Worked networks of one tick: what boot handlers that branch and assert make, by computation.
use Rattle.std.specs.Prelude.{◌≡◌, ℕ, Bool, true, false, List, [], ◌∷◌, map, None, Some}
use Rattle.kn_code.specs.declared.program.Instr.{Instr}
use Rattle.kn_code.specs.declared.program.Instr.TheVariants as instrs
use Rattle.kn_code.specs.Code.{Code}
use Rattle.kn_model.specs.Terms.{Term, Given, Valuation}
use Rattle.kn_model.specs.Nodes.{Node, Running, Halted, Failed, Assert}
use Rattle.kn_model.specs.Nets.{Network}
use Rattle.kn_model.specs.Scenarios.{Scenario}
use Rattle.kn_model.specs.Deciding.{clashes, forced}
use Rattle.kn_model.specs.Reports.{pick_condition}
use Rattle.kn_worked.specs.Networks.{last, names, outcomes, net_of, one_node, plain, program, bit, o, i}

-- an input, and two ways on
abbrev pub half : Code
half = program (Some 0) None None (instrs.Input 0 1 ∷ instrs.Brz 0 2 ∷ instrs.Ret ∷ [])

-- two such nodes, over so many ticks
abbrev pub halves : ℕ → Network
halves ticks = net_of ticks (half ∷ []) (plain 0 ∷ plain 0 ∷ []) []

-- for each scenario at the last tick: whether each node's own condition clashes, and which inputs it forces to be 1
abbrev pub clashing : Network → List (List Bool)
clashing net = map (λ (s : Scenario Term). map (λ (y : Node Term). clashes y.state.own) s.nodes) (last net)

abbrev pub forcing : Network → List (List Valuation)
forcing net = map (λ (s : Scenario Term). map (λ (y : Node Term). forced y.state.own) s.nodes) (last net)

-- and which ones all its nodes together force
abbrev pub forcing_all : Network → List Valuation
forcing_all net = map (λ (s : Scenario Term). forced (pick_condition s.nodes)) (last net)

-- that the first input of a node is 1
abbrev pub first_of : ℕ → Given
first_of n = record { node = n; index = 0; word = 1 }

abbrev pub HalvesNames : Type 0
HalvesNames = names (halves 1) ≡ ((bit o ∷ bit o ∷ []) ∷ (bit o ∷ bit i ∷ []) ∷ (bit i ∷ bit o ∷ []) ∷ (bit i ∷ bit i ∷ []) ∷ [])

abbrev pub HalvesOutcomes : Type 0
HalvesOutcomes = outcomes (halves 1) ≡ ((Running ∷ Running ∷ []) ∷ (Running ∷ Running ∷ []) ∷ (Running ∷ Running ∷ []) ∷ (Running ∷ Running ∷ []) ∷ [])

-- bit 0 is under the input not 0
abbrev pub HalvesInputs : Type 0
HalvesInputs = forcing (halves 1)
    ≡ (((first_of 0 ∷ []) ∷ (first_of 1 ∷ []) ∷ []) ∷ ((first_of 0 ∷ []) ∷ [] ∷ []) ∷ ([] ∷ (first_of 1 ∷ []) ∷ []) ∷ ([] ∷ [] ∷ []) ∷ [])

abbrev pub HalvesJoined : Type 0
HalvesJoined = forcing_all (halves 1) ≡ ((first_of 0 ∷ first_of 1 ∷ []) ∷ (first_of 0 ∷ []) ∷ (first_of 1 ∷ []) ∷ [] ∷ [])

-- without a tick nothing runs
abbrev pub NoTick : Type 0
NoTick = names (halves 0) ≡ (([] ∷ [] ∷ []) ∷ [])

abbrev pub NoTickOutcomes : Type 0
NoTickOutcomes = outcomes (halves 0) ≡ ((Running ∷ Running ∷ []) ∷ [])

-- an assertion on an input
abbrev pub asserting : List Instr
asserting = instrs.Input 0 1 ∷ instrs.Assert 0 ∷ instrs.Halt ∷ []

abbrev pub AssertedNames : Type 0
AssertedNames = names (one_node 512 asserting) ≡ ((bit o ∷ []) ∷ (bit i ∷ []) ∷ [])

abbrev pub AssertedOutcomes : Type 0
AssertedOutcomes = outcomes (one_node 512 asserting) ≡ ((Halted ∷ []) ∷ (Failed Assert 1 0 ∷ []) ∷ [])

abbrev pub AssertedInputs : Type 0
AssertedInputs = forcing (one_node 512 asserting) ≡ (((first_of 0 ∷ []) ∷ []) ∷ ([] ∷ []) ∷ [])

-- an assertion on a constant 0: the side on which it holds is kept by copying, and no inputs meet it
abbrev pub constant : List Instr
constant = instrs.Const 0 0 ∷ instrs.Assert 0 ∷ instrs.Halt ∷ []

abbrev pub ConstantOutcomes : Type 0
ConstantOutcomes = outcomes (one_node 512 constant) ≡ ((Halted ∷ []) ∷ (Failed Assert 1 0 ∷ []) ∷ [])

abbrev pub ConstantClashes : Type 0
ConstantClashes = clashing (one_node 512 constant) ≡ ((true ∷ []) ∷ (false ∷ []) ∷ [])

-- one input that is decided twice: the two answers must agree
abbrev pub twice : List Instr
twice = instrs.Input 0 1 ∷ instrs.Brz 0 2 ∷ instrs.Brz 0 3 ∷ instrs.Ret ∷ []

abbrev pub TwiceNames : Type 0
TwiceNames = names (one_node 512 twice) ≡ (((o ∷ o ∷ []) ∷ []) ∷ ((o ∷ i ∷ []) ∷ []) ∷ ((i ∷ o ∷ []) ∷ []) ∷ ((i ∷ i ∷ []) ∷ []) ∷ [])

abbrev pub TwiceClashes : Type 0
TwiceClashes = clashing (one_node 512 twice) ≡ ((false ∷ []) ∷ (true ∷ []) ∷ (true ∷ []) ∷ (false ∷ []) ∷ [])

-- one node fails, and the other goes on
abbrev pub one_fails : Network
one_fails = net_of 1 (program (Some 0) None None (instrs.Input 0 1 ∷ instrs.Assert 0 ∷ instrs.Ret ∷ []) ∷ half ∷ []) (plain 0 ∷ plain 1 ∷ []) []

abbrev pub OneFailsNames : Type 0
OneFailsNames = names one_fails ≡ ((bit o ∷ bit o ∷ []) ∷ (bit o ∷ bit i ∷ []) ∷ (bit i ∷ bit o ∷ []) ∷ (bit i ∷ bit i ∷ []) ∷ [])

abbrev pub OneFailsOutcomes : Type 0
OneFailsOutcomes = outcomes one_fails ≡ ((Running ∷ Running ∷ []) ∷ (Running ∷ Running ∷ []) ∷ (Failed Assert 1 0 ∷ Running ∷ []) ∷ (Failed Assert 1 0 ∷ Running ∷ []) ∷ [])
