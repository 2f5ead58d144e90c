-- Where an event runs is in range, and what its run gives of the event.
use Rattle.std.proofs.Common.{◌≡◌, ◌≤◌, ◌<◌, ℕ, Bool, true, false, cond, List, [], ◌∷◌, ◌++◌, length, map, Option, Some, refl, sym, ap, subst, ◌∙◌, arith}
use Rattle.std.specs.Prelude.{nat_eq, filter}
use Rattle.std.specs.List.{AllByRecursion}
use Rattle.kn_packet.specs.declared.packet.Event.{Event}
use Rattle.kn_packet.specs.declared.packet.Event.TheVariants.{Boot, Reboot, Packet as Mail, Timer}
use Rattle.kn_plan.specs.Files.{File, IsFile}
use Rattle.kn_plan.specs.Nets.{Link, links_of}
use Rattle.kn_plan.specs.Valid.{IsLink}
use Rattle.kn_model.specs.Packets.{Packet}
use Rattle.kn_model.specs.Nets.{Network, code_of}
use Rattle.kn_model.specs.Nodes.{State}
use Rattle.kn_model.specs.Due.{due}
use Rattle.kn_model.specs.Terms.{Valuation, words}
use Rattle.kn_model.specs.Rows.{Here, Way}
use Rattle.kn_model.specs.Paths.{begun, event_paths, event_ways, first_way, mail_in}
use Rattle.kn_conc.specs.Views.{NodeView}
use Rattle.kn_conc.specs.Ways.{IsPlace, bare_path, here_of}
use Rattle.kn_conc.specs.Runs.{IsOnly, IsRun, paths_of}
use Rattle.kn_conc.specs.declared.spot.Spot.{Spot}

-- the links of a node of a network are in range
delays_of : (nodes n : ℕ) (ls : List Link) → AllByRecursion (IsLink nodes) ls → AllByRecursion (λ (l : Link). l.delay ≤ 65535) (filter (λ (l : Link). nat_eq l.from n) ls)
delays_of nodes n [] h = tt
delays_of nodes n (l ∷ ls) h = go (nat_eq l.from n) (delays_of nodes n ls h.1)
  where
    go : (b : Bool) → AllByRecursion (λ (x : Link). x.delay ≤ 65535) (filter (λ (x : Link). nat_eq x.from n) ls) → AllByRecursion (λ (x : Link). x.delay ≤ 65535) (cond b (l ∷ filter (λ (x : Link). nat_eq x.from n) ls) (filter (λ (x : Link). nat_eq x.from n) ls))
    go true rest = (h.0.most, rest)
    go false rest = rest

pub place_in : (file : File) (spot : Spot) → IsFile file → spot.node < length file.network.nodes → spot.tick < file.network.limits.ticks → spot.links.items ≡ links_of file.network spot.node → IsPlace spot
place_in file spot valid inside early links = record {
  few = omega (arith, inside, valid.network.nodes);
  early = omega (arith, early, valid.network.limits.ticks);
  delays = subst (λ (ls : List Link). AllByRecursion (λ (l : Link). l.delay ≤ 65535) ls) (sym links) (delays_of (length file.network.nodes) spot.node file.network.links valid.network.joins);
  fan = subst (λ (ls : List Link). length ls ≤ 16) (sym links) (valid.network.fan spot.node);
}

-- no event begins with a decision
begun_trace : (tick : ℕ) (e : Event) (s : State ℕ) → (begun (words []) tick e s).trace ≡ s.trace
begun_trace tick Boot s = refl
begun_trace tick Reboot s = refl
begun_trace tick (Mail from seq copy) s = refl
begun_trace tick (Timer number) s = refl

-- the run of a due event
pub run_is : (net : Network) (a : Valuation) (spot : Spot) (v : NodeView) (e : Event) (first last : Way ℕ) (next : NodeView) (sends : List (Packet ℕ)) → due net.limits.ticks spot.tick v.state ≡ Some e
    → spot.node ≡ v.node → spot.links.items ≡ links_of net spot.node → spot.mail ≡ mail_in (words []) e spot.tick v.state → first ≡ first_way (words []) (begun (words []) spot.tick e v.state)
    → IsOnly a (event_ways (words a) (here_of net spot) e first) last → next.state ≡ record last.state { trace = last.state.trace ++ last.bits } → sends ≡ last.sends → last.state.trace ≡ first.state.trace → next.node ≡ v.node
    → IsRun net a spot.tick v next sends
run_is net a spot v e first last next sends is of links mail start run state sent trace node =
    let tick = spot.tick in
    let here : Here ℕ = record { node = spot.node; tick = tick; code = code_of net spot.node; links = links_of net spot.node; fuel = net.limits.fuel; mail = mail_in (words a) e tick v.state } in
    let same : here_of net spot ≡ here =
    ap (λ (ls : List Link). record here { links = ls; mail = spot.mail }) links ∙ ap (λ (o : Option (Packet ℕ)). record here { mail = o }) mail in
    let whole : map bare_path (event_paths (words a) net spot.node tick e v.state) ≡ paths_of a (last ∷ []) =
    ap (λ (h : Here ℕ). paths_of a (event_ways (words a) h e (first_way (words a) (begun (words a) tick e v.state)))) (sym same)
    ∙ (ap (λ (w : Way ℕ). paths_of a (event_ways (words a) (here_of net spot) e w)) (sym start) ∙ run) in
    let given : paths_of a (last ∷ []) ≡ bare_path (record { bits = last.bits; literals = []; state = next.state; sends = sends }) ∷ [] =
    ap (λ (s : State ℕ). bare_path (record { bits = last.bits; literals = []; state = s; sends = last.sends }) ∷ []) (sym state)
    ∙ ap (λ (ps : List (Packet ℕ)). bare_path (record { bits = last.bits; literals = []; state = next.state; sends = ps }) ∷ []) (sym sent) in
    record {
      event = e;
      bits = last.bits;
      due = is;
      path = ap (λ (n : ℕ). map bare_path (event_paths (words a) net n tick e v.state)) (sym of) ∙ (whole ∙ given);
      trace = ap (λ (s : State ℕ). s.trace) state ∙ ap (λ (l : List Bool). l ++ last.bits) (trace ∙ (ap (λ (w : Way ℕ). w.state.trace) start ∙ begun_trace tick e v.state));
      node = node;
    }
