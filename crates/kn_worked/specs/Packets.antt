-- Worked networks with packets, timers and links: what is sent, when it comes, and where counts end, by computation.
use Rattle.std.specs.Prelude.{◌≡◌, ℕ, false, true, List, [], ◌∷◌, map, replicate, take, Option, Some, None}
use Rattle.kn_code.specs.declared.program.Instr.{Instr}
use Rattle.kn_code.specs.declared.program.Instr.TheVariants as instrs
use Rattle.kn_code.specs.Code.{Code}
use Rattle.kn_model.specs.Terms.{Term, Word, Input, terms}
use Rattle.kn_packet.specs.declared.packet.Event.TheVariants.{Boot, Packet as Mail, Timer}
use Rattle.kn_model.specs.Packets.{Packet}
use Rattle.kn_model.specs.Nodes.{State, Node, Outcome, Running, Halted, Failed, Assert, Fuel, state_of}
use Rattle.kn_model.specs.Nets.{Network}
use Rattle.kn_model.specs.Rows.{Here, Way, Effect, Goes, Stops, effect}
use Rattle.kn_model.specs.Scenarios.{Scenario, name_of}
use Rattle.kn_model.specs.Concrete.{concrete, events}
use Rattle.kn_worked.specs.Networks.{Name, last, names, outcomes, owns, net_of, plain, program, link, ping, late_timer, idle, is, is_not, bit, o, i}
use Rattle.kn_worked.specs.Parts.{maybe, ran_at}
use Rattle.kn_worked.specs.OneTick.{clashing, forcing, first_of}

-- of each scenario at the last tick: how many packets each node sent, and the packets that have not come yet
abbrev pub sents : Network → List (List ℕ)
sents net = map (λ (s : Scenario Term). map (λ (y : Node Term). y.state.sent) s.nodes) (last net)

abbrev pub queues : Network → List (List (List (Packet Term)))
queues net = map (λ (s : Scenario Term). map (λ (y : Node Term). y.state.queue) s.nodes) (last net)

-- the outcomes and names of the run on inputs that are all 0
abbrev pub run_outcomes : Network → List (List Outcome)
run_outcomes net = map (λ (s : Scenario ℕ). map (λ (y : Node ℕ). y.state.outcome) s.nodes) (concrete net [] net.limits.ticks)

abbrev pub run_names : Network → List Name
run_names net = map name_of (concrete net [] net.limits.ticks)

-- the packet that is sent on one side of a branch alone: outcomes, and the inputs that each own condition forces to be 1
abbrev pub MaybeSendOutcomes : Type 0
MaybeSendOutcomes = outcomes maybe ≡ ((Running ∷ Running ∷ Running ∷ []) ∷ (Running ∷ Running ∷ Running ∷ []) ∷ [])

abbrev pub MaybeSendInputs : Type 0
MaybeSendInputs = forcing maybe ≡ (((first_of 0 ∷ []) ∷ (first_of 0 ∷ []) ∷ [] ∷ []) ∷ ([] ∷ [] ∷ [] ∷ []) ∷ [])

-- one send on both sides of a branch
abbrev pub both : Code
both = program (Some 0) None None (instrs.Input 0 1 ∷ instrs.Brz 0 2 ∷ instrs.Const 1 7 ∷ instrs.Send 0 1 1 ∷ instrs.Ret ∷ [])

abbrev pub sends_both : Network
sends_both = net_of 2 (both ∷ idle ∷ []) (plain 0 ∷ plain 1 ∷ []) (link 0 1 1 ∷ [])

abbrev pub SendBothNames : Type 0
SendBothNames = names sends_both ≡ ((bit o ∷ [] ∷ []) ∷ (bit i ∷ [] ∷ []) ∷ [])

abbrev pub SendBothOutcomes : Type 0
SendBothOutcomes = outcomes sends_both ≡ ((Running ∷ Running ∷ []) ∷ (Running ∷ Running ∷ []) ∷ [])

-- the receiver has the guard of the side on which it was sent
abbrev pub SendBothOwn : Type 0
SendBothOwn = owns sends_both ≡ (((is (Input 0 0 1) ∷ []) ∷ (is (Input 0 0 1) ∷ []) ∷ []) ∷ ((is_not (Input 0 0 1) ∷ []) ∷ (is_not (Input 0 0 1) ∷ []) ∷ []) ∷ [])

abbrev pub SendBothInputs : Type 0
SendBothInputs = forcing sends_both ≡ (((first_of 0 ∷ []) ∷ (first_of 0 ∷ []) ∷ []) ∷ ([] ∷ [] ∷ []) ∷ [])

-- the packet has set the register before the timer asserts it: the side on which the assertion fails is met by no inputs
abbrev pub packet_first : Network
packet_first = net_of 2 (ping ∷ late_timer ∷ []) (plain 0 ∷ plain 1 ∷ []) (link 0 1 1 ∷ [])

abbrev pub PacketFirstOutcomes : Type 0
PacketFirstOutcomes = outcomes packet_first ≡ ((Running ∷ Running ∷ []) ∷ (Running ∷ Failed Assert 4 1 ∷ []) ∷ [])

abbrev pub PacketFirstClashes : Type 0
PacketFirstClashes = clashing packet_first ≡ ((false ∷ false ∷ []) ∷ (false ∷ true ∷ []) ∷ [])

abbrev pub PacketFirstRun : Type 0
PacketFirstRun = run_names packet_first ≡ (([] ∷ bit o ∷ []) ∷ [])

-- node 0 has link 0 alone, which is the second of the file; what it sends on link 1 is not sent, and it goes on
abbrev pub lone_link : List Instr → Network
lone_link instructions = net_of 1 (program (Some 0) None None instructions ∷ idle ∷ []) (plain 0 ∷ plain 1 ∷ []) (link 1 0 1 ∷ link 0 1 1 ∷ [])

abbrev pub no_link : Network
no_link = lone_link (instrs.Const 0 5 ∷ instrs.Send 1 0 1 ∷ instrs.Halt ∷ [])

abbrev pub NoLinkSent : Type 0
NoLinkSent = sents no_link ≡ ((0 ∷ 0 ∷ []) ∷ [])

abbrev pub NoLinkQueues : Type 0
NoLinkQueues = queues no_link ≡ (([] ∷ [] ∷ []) ∷ [])

abbrev pub NoLinkOutcomes : Type 0
NoLinkOutcomes = outcomes no_link ≡ ((Halted ∷ Running ∷ []) ∷ [])

-- a packet of node 0 that was sent under no condition
abbrev pub packet : (seq to arrival : ℕ) → List Term → Packet Term
packet seq to arrival payload = record { from = 0; seq = seq; copy = 0; to = to; arrival = arrival; payload = payload; guard = []; bits = [] }

-- what it sends then on link 0 has the number 0
abbrev pub missed_first : Network
missed_first = lone_link (instrs.Const 0 5 ∷ instrs.Send 1 0 1 ∷ instrs.Send 0 0 1 ∷ instrs.Ret ∷ [])

abbrev pub MissedFirstSent : Type 0
MissedFirstSent = sents missed_first ≡ ((1 ∷ 0 ∷ []) ∷ [])

abbrev pub MissedFirstQueues : Type 0
MissedFirstQueues = queues missed_first ≡ (([] ∷ (packet 0 1 1 (Word 5 ∷ []) ∷ []) ∷ []) ∷ [])

-- a node that fails after a send: on both sides of its assertion the packet is sent
abbrev pub fails_after : Network
fails_after = lone_link (instrs.Const 0 0 ∷ instrs.Send 0 0 1 ∷ instrs.Assert 0 ∷ instrs.Ret ∷ [])

abbrev pub FailsAfterOutcomes : Type 0
FailsAfterOutcomes = outcomes fails_after ≡ ((Running ∷ Running ∷ []) ∷ (Failed Assert 2 0 ∷ Running ∷ []) ∷ [])

abbrev pub FailsAfterQueues : Type 0
FailsAfterQueues = queues fails_after ≡ (([] ∷ (packet 0 1 1 (Word 0 ∷ []) ∷ []) ∷ []) ∷ ([] ∷ (packet 0 1 1 (Word 0 ∷ []) ∷ []) ∷ []) ∷ [])

-- two registers sent over three links
abbrev pub caller : Code
caller = program (Some 0) None None (instrs.Const 0 7 ∷ instrs.Const 1 9 ∷ instrs.Bcast 0 2 ∷ instrs.Ret ∷ [])

abbrev pub calls : ℕ → Network
calls ticks = net_of ticks (caller ∷ idle ∷ []) (plain 0 ∷ plain 1 ∷ plain 1 ∷ plain 1 ∷ []) (link 0 2 3 ∷ link 0 1 1 ∷ link 0 3 2 ∷ [])

abbrev pub BcastSent : Type 0
BcastSent = sents (calls 1) ≡ ((3 ∷ 0 ∷ 0 ∷ 0 ∷ []) ∷ [])

abbrev pub seven_nine : List Term
seven_nine = Word 7 ∷ Word 9 ∷ []

abbrev pub BcastQueues : Type 0
BcastQueues = queues (calls 1) ≡ (([] ∷ (packet 1 1 1 seven_nine ∷ []) ∷ (packet 0 2 3 seven_nine ∷ []) ∷ (packet 2 3 2 seven_nine ∷ []) ∷ []) ∷ [])

abbrev pub BcastEvents : Type 0
BcastEvents = events (calls 4) []
    ≡ (ran_at 0 0 Boot [] ∷ ran_at 0 1 Boot [] ∷ ran_at 0 2 Boot [] ∷ ran_at 0 3 Boot [] ∷ ran_at 1 1 (Mail 0 1 0) [] ∷ ran_at 2 3 (Mail 0 2 0) [] ∷ ran_at 3 2 (Mail 0 0 0) [] ∷ [])

-- what a handler reads of its packet: node 1 sends two words, and node 0 gets them in tick 2
abbrev pub reader : Code
reader = program None (Some 0) None
    (instrs.Recvw 0 1 ∷ instrs.Recvw 1 2 ∷ instrs.Rlen 2 ∷ instrs.Rfrom 3 ∷ instrs.Node 4 ∷ instrs.Now 5 ∷ instrs.Jmp 7 ∷ instrs.Mov 6 0 ∷ instrs.Ret ∷ [])

abbrev pub registers_at : ℕ → Network → List (List (List Term))
registers_at count net = map (λ (s : Scenario Term). map (λ (y : Node Term). take count y.state.registers) s.nodes) (last net)

abbrev pub PacketRead : Type 0
PacketRead = registers_at 7 (net_of 3 (reader ∷ caller ∷ []) (plain 0 ∷ plain 1 ∷ []) (link 1 0 2 ∷ []))
    ≡ (((Word 9 ∷ Word 0 ∷ Word 2 ∷ Word 1 ∷ Word 0 ∷ Word 2 ∷ Word 9 ∷ []) ∷ (Word 7 ∷ Word 9 ∷ Word 0 ∷ Word 0 ∷ Word 0 ∷ Word 0 ∷ Word 0 ∷ []) ∷ []) ∷ [])

-- outside a packet event there is no word, and the sender is 65,535
abbrev pub NoPacketRead : Type 0
NoPacketRead = registers_at 3 (net_of 1 (program (Some 0) None None (instrs.Recvw 0 0 ∷ instrs.Rlen 1 ∷ instrs.Rfrom 2 ∷ instrs.Ret ∷ []) ∷ []) (plain 0 ∷ []) [])
    ≡ (((Word 0 ∷ Word 0 ∷ Word 65535 ∷ []) ∷ []) ∷ [])

-- one node over four ticks, with these instructions at boot, and a handler of timer 0 that runs none but `ret`
abbrev pub timed : List Instr → Network
timed instructions = net_of 4 (record { instrs = instrs.Ret ∷ instructions; handlers = Some 1 ∷ None ∷ Some 0 ∷ replicate 7 None } ∷ []) (plain 0 ∷ []) []

abbrev pub timers_of : Network → List (List (List (Option ℕ)))
timers_of net = map (λ (s : Scenario Term). map (λ (y : Node Term). take 2 y.state.timers) s.nodes) (last net)

-- a timer comes once, and is then unset; one that is set beyond the last tick stays set
abbrev pub TimerSet : Type 0
TimerSet = events (timed (instrs.Timer 0 2 ∷ instrs.Timer 1 9 ∷ instrs.Ret ∷ [])) [] ≡ (ran_at 0 0 Boot [] ∷ ran_at 2 0 (Timer 0) [] ∷ [])

abbrev pub TimerLeft : Type 0
TimerLeft = timers_of (timed (instrs.Timer 0 2 ∷ instrs.Timer 1 9 ∷ instrs.Ret ∷ [])) ≡ (((None ∷ Some 9 ∷ []) ∷ []) ∷ [])

-- another setting replaces it, be it earlier or later
abbrev pub TimerEarlier : Type 0
TimerEarlier = events (timed (instrs.Timer 0 3 ∷ instrs.Timer 0 1 ∷ instrs.Ret ∷ [])) [] ≡ (ran_at 0 0 Boot [] ∷ ran_at 1 0 (Timer 0) [] ∷ [])

abbrev pub TimerLater : Type 0
TimerLater = events (timed (instrs.Timer 0 1 ∷ instrs.Timer 0 3 ∷ instrs.Ret ∷ [])) [] ≡ (ran_at 0 0 Boot [] ∷ ran_at 3 0 (Timer 0) [] ∷ [])

-- one that is cancelled does not come, and the other one stays
abbrev pub TimerCancelled : Type 0
TimerCancelled = events (timed (instrs.Timer 0 1 ∷ instrs.Timer 1 2 ∷ instrs.Cancel 0 ∷ instrs.Ret ∷ [])) [] ≡ (ran_at 0 0 Boot [] ∷ ran_at 2 0 (Timer 1) [] ∷ [])

-- of two in one tick the lower one comes first
abbrev pub LowerTimerFirst : Type 0
LowerTimerFirst = events (timed (instrs.Timer 1 1 ∷ instrs.Timer 0 1 ∷ instrs.Ret ∷ [])) [] ≡ (ran_at 0 0 Boot [] ∷ ran_at 1 0 (Timer 0) [] ∷ ran_at 1 0 (Timer 1) [] ∷ [])

-- timer 1 sets timer 0 again one tick before it would come: it comes two ticks after that, and asserts that the tick is 3
abbrev pub again : Network
again = net_of 4 (record {
  instrs = instrs.Timer 0 2 ∷ instrs.Timer 1 1 ∷ instrs.Ret ∷ instrs.Timer 0 2 ∷ instrs.Ret ∷ instrs.Now 0 ∷ instrs.Const 1 3 ∷ instrs.Eq 2 0 1 ∷ instrs.Assert 2 ∷ instrs.Halt ∷ [];
  handlers = Some 0 ∷ None ∷ Some 5 ∷ Some 3 ∷ replicate 6 None;
} ∷ []) (plain 0 ∷ []) []

abbrev pub AgainRun : Type 0
AgainRun = run_names again ≡ ((bit o ∷ []) ∷ [])

abbrev pub AgainRunOutcomes : Type 0
AgainRunOutcomes = run_outcomes again ≡ ((Halted ∷ []) ∷ [])

abbrev pub AgainOutcomes : Type 0
AgainOutcomes = outcomes again ≡ ((Halted ∷ []) ∷ (Failed Assert 8 3 ∷ []) ∷ [])

-- node 0 in tick 7, with so many links to node 1
abbrev pub here_with : ℕ → Here Term
here_with count = record { node = 0; tick = 7; code = idle; links = replicate count (link 0 1 2); fuel = 512; mail = None }

-- a state that has made so many inputs and sent so many packets, and else is as at the start
abbrev pub counts_at : (inputs sent : ℕ) → State Term
counts_at inputs sent = record (state_of terms 0 0 []) { inputs = inputs; sent = sent }

-- a way without a decision that has come to this instruction
abbrev pub way_at : ℕ → State Term → List (Packet Term) → Way Term
way_at pc s sends = record { state = s; pc = pc; bits = []; literals = []; sends = sends }

-- it fails at place 4, and nothing else changes
abbrev pub fails_with : (inputs sent : ℕ) → Effect Term
fails_with inputs sent = Stops (way_at 4 (record (counts_at inputs sent) { outcome = Failed Fuel 4 7 }) [])

-- what an instruction does at place 4 with so many links, inputs made and packets sent
abbrev pub effect_with : (links inputs sent : ℕ) → Instr → Effect Term
effect_with links inputs sent it = effect terms (here_with links) it (way_at 4 (counts_at inputs sent) [])

-- the last input that may be made, and one more
abbrev pub LastInput : Type 0
LastInput = effect_with 0 65534 0 (instrs.Input 0 1) ≡ Goes (way_at 5 (record (counts_at 65535 0) { registers = Input 0 65534 1 ∷ replicate 15 (Word 0) }) [])

abbrev pub InputTooMany : Type 0
InputTooMany = effect_with 0 65535 0 (instrs.Input 0 1) ≡ fails_with 65535 0

-- the last packet that may be sent, and one more
abbrev pub last_packet : Effect Term
last_packet = Goes (way_at 5 (counts_at 0 65535) (packet 65534 1 9 (Word 0 ∷ []) ∷ []))

abbrev pub LastSend : Type 0
LastSend = effect_with 1 0 65534 (instrs.Send 0 0 1) ≡ last_packet

abbrev pub SendTooMany : Type 0
SendTooMany = effect_with 1 0 65535 (instrs.Send 0 0 1) ≡ fails_with 0 65535

-- on a link that is not there none is sent, so that none is too many
abbrev pub NoSendTooMany : Type 0
NoSendTooMany = effect_with 1 0 65535 (instrs.Send 1 0 1) ≡ Goes (way_at 5 (counts_at 0 65535) [])

-- over one link the last one, over two links one more: then none is sent
abbrev pub LastBcast : Type 0
LastBcast = effect_with 1 0 65534 (instrs.Bcast 0 1) ≡ last_packet

abbrev pub BcastTooMany : Type 0
BcastTooMany = effect_with 2 0 65534 (instrs.Bcast 0 1) ≡ fails_with 0 65534
