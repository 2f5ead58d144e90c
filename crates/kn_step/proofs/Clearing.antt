-- Registers and memory that are set to 0, and the copy of a packet.
use Rattle.std.proofs.Common.{◌≡◌, ℕ, zero, suc, ◌+◌, ◌-◌, ◌<◌, List, [], ◌∷◌, length, None, refl, sym, ap, subst, ◌∙◌}
use Rattle.std.specs.Prelude.{⊤, Result, OnOk, OnErr, replicate}
use Rattle.kn_term.specs.declared.node.Node.{Node}
use Rattle.kn_term.specs.declared.node.Ref.{Ref}
use Rattle.kn_term.specs.Terms.{Term, Word}
use Rattle.kn_term.specs.Nodes.{term_at}
use Rattle.kn_term.specs.Reached.{RootsStand}
use Rattle.kn_packet.specs.Packets.{PacketView, posted}
use Rattle.kn_packet.specs.Packets as kept
use Rattle.kn_node.specs.Views.{MachineView, terms_in}
use Rattle.kn_model.specs.Terms.{terms}
use Rattle.kn_model.specs.Packets.{Packet, packet_le}
use Rattle.kn_model.specs.Nets.{Network}
use Rattle.kn_model.specs.Rows.{Way}
use Rattle.kn_model.specs.Paths.{cleared, doubled}
use Rattle.kn_model.specs.Alikes.{OneByOne, TermAlike, AlikeSend}
use Rattle.kn_model.proofs.OneByOne.{pairs-self}
use Rattle.kn_model.proofs.AlikeTerms.{alike_self, condition_self, send_self}
use Rattle.kn_model.proofs.Coverage.{put_all_map}
use Rattle.kn_machine.specs.Views.{packet_of}
use Rattle.kn_machine.specs.Ways.{WayView, IsWay, way_of, AlikeWay, IsGrown}
use Rattle.kn_machine.specs.Effects.{here_of}
use Rattle.kn_machine.specs.declared.spot.Spot.{Spot}

pub all_stand : (many place : ℕ) (r : Ref) → r.index < many → RootsStand many (replicate place r)
all_stand many zero r h i s e = absurd cc
all_stand many (suc place) r h zero s e = let same : r ≡ s = cc in subst (λ (x : Ref). x.index < many) same h
all_stand many (suc place) r h (suc i) s e = all_stand many place r h i s e

-- words that are 0
zeros_alike : (ns : List Node) (r : Ref) → TermAlike (term_at ns r.index) (Word 0) → (k : ℕ) → OneByOne TermAlike (terms_in ns (replicate k r)) (replicate k (Word 0))
zeros_alike ns r h zero = tt
zeros_alike ns r h (suc k) = (h, zeros_alike ns r h k)

-- a machine as at the start, with this term for 0
abbrev pub machine_cleared : Ref → MachineView → MachineView
machine_cleared r m = record m { registers = replicate 16 r; memory = replicate 64 r; timers = replicate 8 None }

cleared_alike : (w : WayView) (r : Ref) → TermAlike (term_at w.terms r.index) (Word 0) → AlikeWay (way_of (record w { machine = machine_cleared r w.machine })) (cleared terms (way_of w))
cleared_alike w r h =
    let s = alike_self (way_of w).state in
    record {
      state = record {
        trace = refl;
        outcome = refl;
        timers = refl;
        inputs = refl;
        sent = refl;
        losses = refl;
        duplications = refl;
        booted = refl;
        reboots = refl;
        registers = zeros_alike w.terms r h 16;
        memory = zeros_alike w.terms r h 64;
        queue = s.queue;
        own = s.own;
      };
      pc = refl;
      bits = refl;
      literals = condition_self (way_of w).literals;
      sends = pairs-self AlikeSend send_self (way_of w).sends;
    }

-- a way whose terms grew, with its machine cleared
pub cleared_way : (v u w : WayView) (r : Ref) (m : MachineView) → IsGrown v u → TermAlike (term_at u.terms r.index) (Word 0) → m ≡ machine_cleared r u.machine → w ≡ record u { machine = m } → AlikeWay (way_of w) (cleared terms (way_of v))
cleared_way v u w r m grown zero_is is way =
    subst (λ (x : WayView). AlikeWay (way_of x) (cleared terms (way_of v))) (sym (way ∙ ap (λ (k : MachineView). record u { machine = k }) is))
    (subst (λ (x : Way Term). AlikeWay (way_of (record u { machine = machine_cleared r u.machine })) (cleared terms x)) grown.way (cleared_alike u r zero_is))

-- the copy of a packet waits, and a duplication is used
abbrev pub machine_doubled : PacketView → MachineView → MachineView
machine_doubled p m = record m { duplications = m.duplications - 1; queue = posted p m.queue }

pub doubled_way : (net : Network) (spot : Spot) (mail : PacketView) (v w : WayView) (m : MachineView) → m ≡ machine_doubled (record mail { copy = 1; arrival = spot.tick + 1 }) v.machine → w ≡ record v { machine = m }
    → way_of w ≡ doubled terms (here_of net spot) (packet_of mail) (way_of v)
doubled_way net spot mail v w m is way =
    let copy : PacketView = record mail { copy = 1; arrival = spot.tick + 1 } in
    ap way_of (way ∙ ap (λ (k : MachineView). record v { machine = k }) is)
    ∙ ap (λ (q : List (Packet Term)). record (way_of v) { state = record (way_of v).state { duplications = v.machine.duplications - 1; queue = q } }) (sym (put_all_map kept.packet_le packet_le packet_of (λ x y. refl) (copy ∷ []) v.machine.queue))

pub ok_then : {P Q : Type 0} {T E : Type 0} (r : Result T E) → (P → Q) → OnOk r P → OnOk r Q
ok_then (Result.Ok x) f p = f p
ok_then (Result.Err e) f p = p

-- a way stays one, whether memory sufficed or not
pub still_way : {E : Type 0} (r : Result ⊤ E) (w : WayView) (x : Ref) (m : MachineView) → x.index < length w.terms → OnOk r (m ≡ machine_cleared x w.machine) → OnErr r (m ≡ w.machine) → IsWay w.terms w.machine.registers w.machine.memory w.cond w.own w.literals
    → IsWay w.terms m.registers m.memory w.cond w.own w.literals
still_way (Result.Ok z) w x m stands ok err h =
    subst (λ (k : MachineView). IsWay w.terms k.registers k.memory w.cond w.own w.literals) (sym ok) (record {
      registers_stand = all_stand (length w.terms) 16 x stands;
      memory_stands = all_stand (length w.terms) 64 x stands;
      known_stands = h.known_stands;
      literals_stand = h.literals_stand;
      few = h.few;
      known = h.known;
    })
still_way (Result.Err e) w x m stands ok err h = subst (λ (k : MachineView). IsWay w.terms k.registers k.memory w.cond w.own w.literals) (sym err) h
