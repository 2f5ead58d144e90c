-- Where an event runs, and what the program keeps of an instruction's effect.
use Rattle.std.specs.Prelude.{◌≡◌, ℕ, ◌+◌, ◌^◌, ◌<◌, ◌≤◌, List, take, drop, Bool, true, false, length, Option, Some, None}
use Rattle.std.specs.List.{AllByRecursion}
use Rattle.kn_word.specs.declared.Op.{Op}
use Rattle.kn_built.specs.Built.{Extends}
use Rattle.kn_code.specs.declared.program.Instr.{Instr}
use Rattle.kn_code.specs.declared.program.Instr.TheVariants as instrs
use Rattle.kn_term.specs.Terms.{Term}
use Rattle.kn_cond.specs.Meanings.{literal_of}
use Rattle.kn_packet.specs.Packets.{PacketView}
use Rattle.kn_model.specs.Packets.{Packet}
use Rattle.kn_model.specs.Terms.{terms}
use Rattle.kn_model.specs.Nets.{Network, Link, code_of, links_of}
use Rattle.kn_term.specs.Nodes.{term_at}
use Rattle.kn_model.specs.Rows.{Here, Way, Effect, effect, operate, in_range, sends_over, sender_of}
use Rattle.kn_model.specs.Rows as model
use Rattle.kn_model.specs.Laws.{IsNet}
use Rattle.kn_model.specs.Alikes.{TermAlike, ConditionAlike}
use Rattle.kn_model.proofs.AlikeRows.{EffectAlike}
use Rattle.kn_machine.specs.Views.{packet_of}
use Rattle.kn_machine.specs.Ways.{WayView, way_of, IsRow}
use Rattle.kn_machine.specs.declared.spot.Spot.{Spot}
use Rattle.kn_machine.specs.declared.rows.Step.{Step}
use Rattle.kn_machine.specs.declared.rows.Step.TheVariants as steps

-- the packet of an event, over terms
abbrev pub mail_of : Option PacketView → Option (Packet Term)
mail_of None = None
mail_of (Some p) = Some (packet_of p)

-- where an event runs, in the definitions
abbrev pub here_of : Network → Spot → Here Term
here_of net spot = record {
  node = spot.node;
  tick = spot.tick;
  code = code_of net spot.node;
  links = spot.links.items;
  fuel = net.limits.fuel;
  mail = mail_of spot.mail;
}

-- few nodes, links and ticks, and delays and senders that are words
pub record IsPlace (spot : Spot) : Type 0 where
  pub few : spot.node < 64
  pub early : spot.tick ≤ 4096
  pub delays : AllByRecursion (λ (l : Link). l.delay ≤ 65535) spot.links.items
  pub fan : length spot.links.items ≤ 16
  pub sender : sender_of (mail_of spot.mail) < 2 ^ 16

-- it is a node of the network at a tick of it, with that node's links
pub record IsIn (net : Network) (spot : Spot) : Type 0 where
  pub node : spot.node < length net.nodes
  pub links : spot.links.items ≡ links_of net spot.node
  pub sound : IsNet net
  pub place : IsPlace spot

-- an instruction that decides
abbrev pub IsDecision : Instr → Type 0
IsDecision (instrs.Ldx a b m n) = Unit {0}
IsDecision (instrs.Stx a b m n) = Unit {0}
IsDecision (instrs.Brz a to) = Unit {0}
IsDecision (instrs.Assert a) = Unit {0}
IsDecision other = ⊥

-- the way on under bit 0 or bit 1 of a decision; all else has one
abbrev pub side_of : Bool → Effect Term → Way Term → Way Term
side_of bit (model.Goes w) v = v
side_of bit (model.Stops w) v = v
side_of false (model.Decides l w u) v = w
side_of true (model.Decides l w u) v = u

-- the way on of an instruction under a bit
abbrev pub side_at : Here Term → Instr → Bool → Way Term → Way Term
side_at here i bit w = side_of bit (effect terms here i w) w

-- what the program keeps of an effect, where the way is this one now
abbrev pub effect_seen : Here Term → Instr → Step → WayView → Effect Term
effect_seen here i steps.Goes w = model.Goes (way_of w)
effect_seen here i steps.Stops w = model.Stops (way_of w)
effect_seen here i (steps.Decides l) w = model.Decides (literal_of w.terms l) (side_at here i false (way_of w)) (side_at here i true (way_of w))

-- what an instruction does is alike to what it does in the definitions
abbrev pub AlikeEffect : Effect Term → Effect Term → Type 0
AlikeEffect = EffectAlike TermAlike ConditionAlike ConditionAlike

-- where it decides, the literal stands among the terms, and the instruction is one that decides
abbrev pub DecidesWell : Instr → Step → WayView → Type 0
DecidesWell i steps.Goes w = Unit {0}
DecidesWell i steps.Stops w = Unit {0}
DecidesWell i (steps.Decides l) w = (l.term.index < length w.terms) × IsDecision i

-- an instruction made this way of that one
pub record IsStep (net : Network) (spot : Spot) (i : Instr) (v w : WayView) (s : Step) : Type 0 where
  pub effect : AlikeEffect (effect_seen (here_of net spot) i s w) (effect terms (here_of net spot) i (way_of v))
  pub row : IsRow spot.node spot.history v w
  pub grows : Extends v.terms w.terms
  pub decides : DecidesWell i s w

-- an operator on two registers did
pub record IsOperateStep (net : Network) (spot : Spot) (op : Op) (a b c : ℕ) (v w : WayView) (s : Step) : Type 0 where
  pub goes : s ≡ steps.Goes
  pub effect : AlikeEffect (model.Goes (way_of w)) (operate terms op (way_of v) a b c)
  pub row : IsRow spot.node spot.history v w
  pub grows : Extends v.terms w.terms

-- whether the index in a register is in range is to be decided, by a literal that is alike
abbrev pub IsRangeStep : WayView → (b n : ℕ) → WayView → Step → Type 0
IsRangeStep v b n w steps.Goes = ⊥
IsRangeStep v b n w steps.Stops = ⊥
IsRangeStep v b n w (steps.Decides l) = (l.term.index < length w.terms) × TermAlike (term_at w.terms l.term.index) (in_range terms (way_of v) b n).value × (l.truth ≡ true)

-- sends of so many registers from one on over these links did
pub record IsSendStep (net : Network) (spot : Spot) (b n : ℕ) (links : List Link) (v w : WayView) (s : Step) : Type 0 where
  pub effect : AlikeEffect (effect_seen (here_of net spot) instrs.Ret s w) (sends_over terms (here_of net spot) (way_of v) b n links)
  pub row : IsRow spot.node spot.history v w
  pub grows : Extends v.terms w.terms

-- the packet that a way sends over a link: its registers, under all that is known, with its stamp
abbrev pub IsPacketOf : Spot → WayView → (b n : ℕ) → Link → PacketView → Type 0
IsPacketOf spot w b n link p = p ≡ record {
  from = spot.node;
  seq = w.machine.sent;
  copy = 0;
  to = link.to;
  arrival = spot.tick + link.delay;
  payload = take n (drop b w.machine.registers);
  guard = w.cond;
  terms = w.terms;
  stamp = record { node = spot.node; history = spot.history; bits = w.bits; seq = w.machine.sent };
}
