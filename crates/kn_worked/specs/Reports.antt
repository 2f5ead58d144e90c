-- What a report says, on a node that fails where its input is not 0 and on two nodes that branch: reports that are given or sharp, and others that are not.
use Rattle.std.specs.Prelude.{ℕ, Bool, List, [], ◌∷◌, Some, None}
use Rattle.kn_code.specs.declared.program.Instr.TheVariants as instrs
use Rattle.kn_model.specs.Terms.{Valuation}
use Rattle.kn_model.specs.Nodes.{Running, Failed, Assert}
use Rattle.kn_model.specs.Nets.{Network}
use Rattle.kn_cond.specs.declared.standing.Standing.{Standing}
use Rattle.kn_cond.specs.declared.standing.Standing.TheVariants.{Inputs, Open}
use Rattle.kn_model.specs.Reports.{Report, StateLine, FailureLine, Reach, At, Undecided, Nowhere, Sds, Cob, Gives, IsReached, IsSharp}
use Rattle.kn_worked.specs.Networks.{program, net_of, plain, link, early, i, o}
use Rattle.kn_worked.specs.OneTick.{first_of, halves}

-- one node with an input of 2 bits; where it is not 0 the assertion on register 1, which is 0, fails
abbrev pub choosy : (conflicts : ℕ) → Network
choosy conflicts = record {
  programs = program (Some 0) None None (instrs.Input 0 2 ∷ instrs.Brz 0 3 ∷ instrs.Assert 1 ∷ instrs.Ret ∷ []) ∷ [];
  nodes = plain 0 ∷ [];
  links = [];
  limits = record { ticks = 1; fuel = 512; conflicts = conflicts; states = 4; dstates = 4 };
}

-- that its input is this word
abbrev pub input : ℕ → Valuation
input w = record { node = 0; index = 0; word = w } ∷ []

-- the report with this standing and these failure lines of the failed state
abbrev pub told : Standing → List FailureLine → Report
told standing failures = record {
  mapping = Sds;
  ticks = 1;
  nodes = 1;
  states = record { node = 0; trace = o ∷ i ∷ []; outcome = Failed Assert 2 0; standing = standing } ∷ record { node = 0; trace = i ∷ []; outcome = Running; standing = Inputs [] } ∷ [];
  dstates = ((0 ∷ 1 ∷ []) ∷ []) ∷ [];
  failures = failures;
}

-- its one failure line
abbrev pub line : Reach → List FailureLine
line reach = record { state = 0; reach = reach } ∷ []

-- reached on the inputs 1, which are the least
abbrev pub ReachedGiven : Type 0
ReachedGiven = Gives (told (Inputs (input 1)) (line (At 0 (0 ∷ []) (input 1)))) (choosy 65536)

-- where one valuation may be tried, 0 comes before all that meet it: the state and its failure may stay open
abbrev pub OpenGiven : Type 0
OpenGiven = Gives (told (Open 1) (line Undecided)) (choosy 1)

-- where two may be tried, it is decided
abbrev pub OpenNotGiven : Type 0
OpenNotGiven = Gives (told (Open 2) (line Undecided)) (choosy 2) → ⊥

-- and so is its failure
abbrev pub UndecidedNotGiven : Type 0
UndecidedNotGiven = Gives (told (Inputs (input 1)) (line Undecided)) (choosy 2) → ⊥

-- some inputs meet the failure
abbrev pub NowhereNotGiven : Type 0
NowhereNotGiven = Gives (told (Inputs (input 1)) (line Nowhere)) (choosy 65536) → ⊥

-- inputs of the state that are not the least
abbrev pub StateNotLeast : Type 0
StateNotLeast = Gives (told (Inputs (input 2)) (line (At 0 (0 ∷ []) (input 1)))) (choosy 65536) → ⊥

-- inputs of the failure that are not the least
abbrev pub FailureNotLeast : Type 0
FailureNotLeast = Gives (told (Inputs (input 1)) (line (At 0 (0 ∷ []) (input 2)))) (choosy 65536) → ⊥

-- the failed state without its line
abbrev pub NoFailureLine : Type 0
NoFailureLine = Gives (told (Inputs (input 1)) []) (choosy 65536) → ⊥

-- the state lines of two nodes that branch
abbrev pub half_lines : List StateLine
half_lines =
    record { node = 0; trace = o ∷ []; outcome = Running; standing = Inputs (first_of 0 ∷ []) } ∷ record { node = 0; trace = i ∷ []; outcome = Running; standing = Inputs [] }
    ∷ record { node = 1; trace = o ∷ []; outcome = Running; standing = Inputs (first_of 1 ∷ []) } ∷ record { node = 1; trace = i ∷ []; outcome = Running; standing = Inputs [] } ∷ []

-- the report of these states with some dstates
abbrev pub halves_told : List (List (List ℕ)) → Report
halves_told dstates = record { mapping = Sds; ticks = 1; nodes = 2; states = half_lines; dstates = dstates; failures = [] }

-- one dstate for all four scenarios, which sent nothing
abbrev pub SharpHalves : Type 0
SharpHalves = IsSharp (halves_told (((0 ∷ 1 ∷ []) ∷ (2 ∷ 3 ∷ []) ∷ []) ∷ [])) (halves 1)

-- four dstates for them
abbrev pub NotSharpHalves : Type 0
NotSharpHalves = IsSharp (halves_told (((0 ∷ []) ∷ (2 ∷ []) ∷ []) ∷ ((0 ∷ []) ∷ (3 ∷ []) ∷ []) ∷ ((1 ∷ []) ∷ (2 ∷ []) ∷ []) ∷ ((1 ∷ []) ∷ (3 ∷ []) ∷ []) ∷ [])) (halves 1) → ⊥

-- a node that sends its input and then branches on it, and a receiver that asserts what it is sent
abbrev pub crossing : Network
crossing = net_of 2 (early ∷ program None (Some 0) None (instrs.Recvw 0 0 ∷ instrs.Assert 0 ∷ instrs.Ret ∷ []) ∷ []) (plain 0 ∷ plain 1 ∷ []) (link 0 1 1 ∷ [])

-- the sender after a bit, and the receiver where it goes on and where it fails
abbrev pub sender : Bool → Valuation → StateLine
sender b a = record { node = 0; trace = b ∷ []; outcome = Running; standing = Inputs a }

abbrev pub passing : StateLine
passing = record { node = 1; trace = o ∷ []; outcome = Running; standing = Inputs (input 1) }

abbrev pub failing : StateLine
failing = record { node = 1; trace = i ∷ []; outcome = Failed Assert 1 1; standing = Inputs [] }

-- All four scenarios, copied. In the second one the sender's input is 1 and the receiver's word is 0, and in the third the other way round.
abbrev pub copied_told : Reach → Report
copied_told second = record {
  mapping = Cob;
  ticks = 2;
  nodes = 2;
  states =
      sender o (input 1) ∷ passing ∷ sender o (input 1) ∷ failing
      ∷ sender i [] ∷ passing ∷ sender i [] ∷ failing ∷ [];
  dstates = ((0 ∷ []) ∷ (1 ∷ []) ∷ []) ∷ ((2 ∷ []) ∷ (3 ∷ []) ∷ []) ∷ ((4 ∷ []) ∷ (5 ∷ []) ∷ []) ∷ ((6 ∷ []) ∷ (7 ∷ []) ∷ []) ∷ [];
  failures = record { state = 3; reach = second } ∷ record { state = 7; reach = At 3 (6 ∷ 7 ∷ []) [] } ∷ [];
}

-- no inputs meet the failure of the second one, though each node's own condition can be met
abbrev pub NowhereGiven : Type 0
NowhereGiven = Gives (copied_told Nowhere) crossing

-- so it is not open
abbrev pub NowhereNotOpen : Type 0
NowhereNotOpen = Gives (copied_told Undecided) crossing → ⊥

-- node 0 has two inputs, and sends where the second one is 0; node 1 is sent that or nothing, and then fails by an assertion on 0
abbrev pub two_ways : Network
two_ways = net_of 3 (program (Some 0) None None (instrs.Input 0 1 ∷ instrs.Input 1 1 ∷ instrs.Brz 1 4 ∷ instrs.Jmp 5 ∷ instrs.Send 0 2 0 ∷ instrs.Brz 0 6 ∷ instrs.Ret ∷ [])
    ∷ program (Some 0) (Some 2) (Some 3) (instrs.Timer 0 2 ∷ instrs.Ret ∷ instrs.Ret ∷ instrs.Assert 0 ∷ instrs.Ret ∷ []) ∷ []) (plain 0 ∷ plain 1 ∷ []) (link 0 1 1 ∷ [])

-- that one of its inputs is 1
abbrev pub only_input : ℕ → Valuation
only_input k = record { node = 0; index = k; word = 1 } ∷ []

-- node 0 after its two bits
abbrev pub chose : Bool → Bool → Valuation → StateLine
chose b c a = record { node = 0; trace = b ∷ c ∷ []; outcome = Running; standing = Inputs a }

-- node 1 in one line, with the packet or without it
abbrev pub either_way : StateLine
either_way = record { node = 1; trace = i ∷ []; outcome = Failed Assert 3 2; standing = Inputs [] }

-- dstate 0 has the two states of node 0 that have one input 1 and the other one 0: state 1 did not send, and state 2 did
abbrev pub two_told : (pick : List ℕ) → Valuation → Report
two_told pick a = record {
  mapping = Sds;
  ticks = 3;
  nodes = 2;
  states = chose o o (record { node = 0; index = 0; word = 1 } ∷ only_input 1) ∷ chose o i (only_input 1) ∷ chose i o (only_input 0) ∷ chose i i [] ∷ either_way ∷ [];
  dstates = ((1 ∷ 2 ∷ []) ∷ (4 ∷ []) ∷ []) ∷ ((0 ∷ 3 ∷ []) ∷ (4 ∷ []) ∷ []) ∷ [];
  failures = record { state = 4; reach = At 0 pick a } ∷ [];
}

-- the second input 1 alone meets the pick without the packet, and comes first
abbrev pub FirstPickReached : Type 0
FirstPickReached = IsReached two_ways (two_told (1 ∷ 4 ∷ []) (only_input 1)) 4 0 (1 ∷ 4 ∷ []) (only_input 1)

-- the first input 1 alone meets the pick with the packet, and comes later: it is not given
abbrev pub LaterPickNotGiven : Type 0
LaterPickNotGiven = Gives (two_told (2 ∷ 4 ∷ []) (only_input 0)) two_ways → ⊥
