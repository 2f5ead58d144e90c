-- Which states, sends and paths are alike, and which paths are given of an event's.
use Rattle.std.specs.List.{AllByRecursion}
use Rattle.std.specs.Prelude.{ℕ, true, List, [], ◌∷◌, replicate, Some, None, slice_index_or}
use Rattle.kn_word.specs.declared.Op.TheVariants as ops
use Rattle.kn_model.specs.Terms.{Term, Word, Input, Apply, Choice, terms}
use Rattle.kn_packet.specs.declared.packet.Event.TheVariants.{Boot}
use Rattle.kn_model.specs.Packets.{Packet}
use Rattle.kn_model.specs.Nodes.{State, Halted, state_of}
use Rattle.kn_model.specs.Paths.{Path, event_paths}
use Rattle.kn_model.specs.Alikes.{Alike, AlikeSend, AreGiven}
use Rattle.kn_worked.specs.Networks.{one_node, is, is_not, bit, o, i}
use Rattle.kn_worked.specs.OneTick.{twice}
use Rattle.kn_worked.specs.Packets.{packet}

-- a state whose queue has one packet
abbrev pub base : State Term
base = record (state_of terms 0 0 []) { queue = packet 0 1 2 (Word 5 ∷ []) ∷ [] }

-- terms that are built otherwise and have equal words, and a condition that says the same with more literals
abbrev pub built_otherwise : State Term
built_otherwise = record base { registers = Choice (Word 1) (Input 0 0 1) (Word 5) ∷ replicate 15 (Word 0); own = is (Word 1) ∷ is (Input 0 0 1) ∷ is (Word 2) ∷ [] }

abbrev pub built_short : State Term
built_short = record base { registers = Input 0 0 1 ∷ replicate 15 (Word 0); own = is (Input 0 0 1) ∷ [] }

abbrev pub AlikeOtherwise : Type 0
AlikeOtherwise = Alike built_otherwise built_short

-- an input that makes no difference is read all the same
abbrev pub reading : State Term
reading = record base { registers = Choice (Word 1) (Word 0) (Input 0 0 1) ∷ replicate 15 (Word 0) }

abbrev pub AlikeReadingLess : Type 0
AlikeReadingLess = Alike base reading

abbrev pub ReadsMore : Type 0
ReadsMore = Alike reading base → ⊥

-- nor does it help that another word reads it
abbrev pub reading_apart : State Term
reading_apart = record base { registers = Choice (Word 1) (Word 0) (Input 0 0 1) ∷ Input 0 0 1 ∷ replicate 14 (Word 0) }

abbrev pub reading_once : State Term
reading_once = record base { registers = Word 0 ∷ Input 0 0 1 ∷ replicate 14 (Word 0) }

abbrev pub WordByWord : Type 0
WordByWord = Alike reading_apart reading_once → ⊥

-- a state is not alike to the one with a packet in its queue
abbrev pub IsOther : State Term → Type 0
IsOther s = Alike s base → ⊥

-- one part differs in each: trace, outcome, timers, counts, flags
abbrev pub OtherCounts : Type 0
OtherCounts = AllByRecursion IsOther (record base { trace = bit o } ∷ record base { outcome = Halted } ∷ record base { timers = Some 3 ∷ replicate 7 None }
    ∷ record base { inputs = 1 } ∷ record base { sent = 1 } ∷ record base { losses = 1 } ∷ record base { duplications = 1 } ∷ record base { booted = true } ∷ record base { reboots = 1 ∷ [] } ∷ [])

-- the key of a packet by arrival, sender, number and copy; the words of registers, memory and payload; what the condition says
abbrev pub OtherValues : Type 0
OtherValues = AllByRecursion IsOther (record base { queue = packet 0 1 3 (Word 5 ∷ []) ∷ [] } ∷ record base { queue = record (packet 0 1 2 (Word 5 ∷ [])) { from = 2 } ∷ [] }
    ∷ record base { queue = packet 1 1 2 (Word 5 ∷ []) ∷ [] } ∷ record base { queue = record (packet 0 1 2 (Word 5 ∷ [])) { copy = 1 } ∷ [] }
    ∷ record base { registers = Word 1 ∷ replicate 15 (Word 0) } ∷ record base { memory = Word 1 ∷ replicate 63 (Word 0) }
    ∷ record base { queue = packet 0 1 2 (Word 6 ∷ []) ∷ [] } ∷ record base { own = is (Word 0) ∷ [] } ∷ [])

-- What is kept reads 17 bits in its own condition, where the other one reads none; that memory has all of them in both does not help.
abbrev pub with_17_bits : State Term
with_17_bits = record base { memory = Input 0 0 16 ∷ Input 0 1 1 ∷ replicate 62 (Word 0) }

abbrev pub OwnReadsMore : Type 0
OwnReadsMore = Alike (record with_17_bits { own = is_not (Apply ops.And (Apply ops.Or (Input 0 0 16) (Input 0 1 1)) (Word 0)) ∷ [] }) (record with_17_bits { own = is_not (Word 0) ∷ [] }) → ⊥

-- a packet that is sent on the side where an input is not 0
abbrev pub sent : Packet Term
sent = record (packet 0 1 2 (Word 5 ∷ [])) { guard = is (Input 0 0 1) ∷ []; bits = bit o }

-- the payload built otherwise, and the guard with more literals that say the same
abbrev pub SendOtherwise : Type 0
SendOtherwise = AlikeSend (record sent { payload = Choice (Word 1) (Word 5) (Word 6) ∷ []; guard = is (Word 1) ∷ is (Input 0 0 1) ∷ is (Word 2) ∷ [] }) sent

-- a guard that says the same and reads an input more
abbrev pub GuardReadsMore : Type 0
GuardReadsMore = AlikeSend (record sent { guard = is (Choice (Word 1) (Input 0 0 1) (Input 0 1 1)) ∷ [] }) sent → ⊥

-- a send is not alike to the one with this guard
abbrev pub IsOtherSend : Packet Term → Type 0
IsOtherSend p = AlikeSend p sent → ⊥

-- one part differs in each: arrival, sender, number, copy, receiver, bits, payload, what the guard says
abbrev pub OtherSends : Type 0
OtherSends = AllByRecursion IsOtherSend (record sent { arrival = 3 } ∷ record sent { from = 1 } ∷ record sent { seq = 1 } ∷ record sent { copy = 1 } ∷ record sent { to = 2 }
    ∷ record sent { bits = bit i } ∷ record sent { payload = Word 6 ∷ [] } ∷ record sent { guard = [] } ∷ [])

-- the four paths of an event that decides twice on one input; the two in the midst contradict themselves
abbrev pub twice_paths : List (Path Term)
twice_paths = event_paths terms (one_node 512 twice) 0 0 Boot (state_of terms 0 0 [])

abbrev pub twice_path : ℕ → Path Term
twice_path k = slice_index_or twice_paths k (record { bits = []; literals = []; state = base; sends = [] })

-- all of them are given, and so are those that can be
abbrev pub AllGiven : Type 0
AllGiven = AreGiven twice_paths twice_paths

abbrev pub PossibleGiven : Type 0
PossibleGiven = AreGiven (twice_path 0 ∷ twice_path 3 ∷ []) twice_paths

-- not where one that can be is left out, nor in another order, nor one of them twice
abbrev pub PossibleLeftOut : Type 0
PossibleLeftOut = AreGiven (twice_path 0 ∷ []) twice_paths → ⊥

abbrev pub OtherOrder : Type 0
OtherOrder = AreGiven (twice_path 3 ∷ twice_path 0 ∷ []) twice_paths → ⊥

abbrev pub GivenTwice : Type 0
GivenTwice = AreGiven (twice_path 0 ∷ twice_path 3 ∷ twice_path 3 ∷ []) twice_paths → ⊥
