-- In a network that a file gives, packets and timers come in later ticks, and where an event runs is in range.
use Rattle.std.proofs.Common.{◌≡◌, ◌≤◌, ◌<◌, ◌^◌, ℕ, Bool, true, false, cond, List, [], ◌∷◌, length, map, Some, sym, subst, arith}
use Rattle.std.specs.Prelude.{nat_eq, filter}
use Rattle.std.specs.List.{AllByRecursion}
use Rattle.kn_code.specs.declared.program.Instr.{Instr}
use Rattle.kn_code.specs.declared.program.Instr.TheVariants.{Timer}
use Rattle.kn_code.specs.Code.{Code, IsInstr, IsValid, Stands, AllWithLeft}
use Rattle.kn_term.specs.declared.node.Node.{Node}
use Rattle.kn_cond.specs.Conditions.{Condition}
use Rattle.kn_packet.specs.declared.packet.Event.{Event}
use Rattle.kn_packet.specs.declared.packet.Event.TheVariants.{Boot, Reboot, Packet as Mail, Timer as Timers}
use Rattle.kn_packet.specs.Packets.{PacketView}
use Rattle.kn_node.specs.Views.{MachineView}
use Rattle.kn_plan.specs.Nets.{Link, links_of}
use Rattle.kn_plan.specs.Valid.{IsLink}
use Rattle.kn_plan.specs.Files.{File, IsFile}
use Rattle.kn_model.specs.Laws.{IsNet, SetsLater}
use Rattle.kn_model.specs.Terms.{terms}
use Rattle.kn_model.specs.Packets.{first_at}
use Rattle.kn_model.specs.Rows.{sender_of}
use Rattle.kn_model.specs.Paths.{mail_in}
use Rattle.kn_machine.specs.Views.{packet_of, state_with}
use Rattle.kn_machine.specs.Effects.{mail_of, IsIn}
use Rattle.kn_machine.specs.declared.spot.Spot.{Spot}

sets_later : (count : ℕ) (i : Instr) → IsInstr count i → SetsLater i
sets_later count (Timer k d) h = grind (arith, h)
sets_later count other h = tt

all_set_later : (count : ℕ) (is : List Instr) → AllWithLeft (Stands count) is → AllByRecursion SetsLater is
all_set_later count [] h = tt
all_set_later count (i ∷ is) h = (sets_later count i h.0.0, all_set_later count is h.1)

-- timers of valid programs
programs_set_later : (programs : List Code) → AllByRecursion IsValid programs → AllByRecursion (λ (c : Code). AllByRecursion SetsLater c.instrs) programs
programs_set_later [] h = tt
programs_set_later (c ∷ cs) h = (all_set_later (length c.instrs) c.instrs h.0.instrs, programs_set_later cs h.1)

-- packets on links
links_later : (nodes : ℕ) (links : List Link) → AllByRecursion (IsLink nodes) links → AllByRecursion (λ (l : Link). 1 ≤ l.delay) links
links_later nodes [] h = tt
links_later nodes (l ∷ links) h = (h.0.least, links_later nodes links h.1)

-- it has what the laws of the model need
pub later_net : (file : File) → IsFile file → AllByRecursion IsValid file.network.programs → IsNet file.network
later_net file h valid = record {
  delays = links_later (length file.network.nodes) file.network.links h.network.joins;
  timers = programs_set_later file.network.programs valid;
}

-- the links of a node of a network are in range
delays_of : (nodes n : ℕ) (ls : List Link) → AllByRecursion (IsLink nodes) ls → AllByRecursion (λ (l : Link). l.delay ≤ 65535) (filter (λ (l : Link). nat_eq l.from n) ls)
delays_of nodes n [] h = tt
delays_of nodes n (l ∷ ls) h = go (nat_eq l.from n) (delays_of nodes n ls h.1)
  where
    go : (b : Bool) → AllByRecursion (λ (x : Link). x.delay ≤ 65535) (filter (λ (x : Link). nat_eq x.from n) ls) → AllByRecursion (λ (x : Link). x.delay ≤ 65535) (cond b (l ∷ filter (λ (x : Link). nat_eq x.from n) ls) (filter (λ (x : Link). nat_eq x.from n) ls))
    go true rest = (h.0.most, rest)
    go false rest = rest

-- the sender of the first packet that arrives is a word, as is that of no packet
sender_first : (nodes t : ℕ) (q : List PacketView) → nodes ≤ 64 → AllByRecursion (λ (p : PacketView). p.from < nodes) q → sender_of (first_at t (map packet_of q)) < 2 ^ 16
sender_first nodes t [] few h = omega arith
sender_first nodes t (p ∷ q) few h = go (nat_eq p.arrival t) (sender_first nodes t q few h.1)
  where
    go : (b : Bool) → sender_of (first_at t (map packet_of q)) < 2 ^ 16 → sender_of (cond b (Some (packet_of p)) (first_at t (map packet_of q))) < 2 ^ 16
    go true rest = let low = h.0 in omega (arith, low, few)
    go false rest = rest

pub sender_fits : (nodes t : ℕ) (e : Event) (ns : List Node) (m : MachineView) (trace : List Bool) (own : Condition) → nodes ≤ 64 → AllByRecursion (λ (p : PacketView). p.from < nodes) m.queue
    → sender_of (mail_in terms e t (state_with ns m trace own)) < 2 ^ 16
sender_fits nodes t Boot ns m trace own few h = omega arith
sender_fits nodes t Reboot ns m trace own few h = omega arith
sender_fits nodes t (Mail from seq copy) ns m trace own few h = sender_first nodes t m.queue few h
sender_fits nodes t (Timers number) ns m trace own few h = omega arith

pub spot_in : (file : File) (spot : Spot) → IsFile file → IsNet file.network → spot.node < length file.network.nodes → spot.tick < file.network.limits.ticks → spot.links.items ≡ links_of file.network spot.node → sender_of (mail_of spot.mail) < 2 ^ 16 → IsIn file.network spot
spot_in file spot valid sound node early links sender =
    let few = valid.network.nodes in
    let last = valid.network.limits.ticks in
    record {
      node = node;
      links = links;
      sound = sound;
      place = record {
        few = omega (arith, node, few);
        early = omega (arith, early, last);
        delays = subst (AllByRecursion (λ (l : Link). l.delay ≤ 65535)) (sym links) (delays_of (length file.network.nodes) spot.node file.network.links valid.network.joins);
        fan = subst (λ (ls : List Link). length ls ≤ 16) (sym links) (valid.network.fan spot.node);
        sender = sender;
      };
    }
