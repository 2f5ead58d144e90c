-- What waits for a node stays from nodes of the network.
use Rattle.std.proofs.Common.{ℕ, zero, suc, ◌+◌, ◌<◌, Bool, true, false, cond, List, [], ◌∷◌, length, map, Option, Some, None}
use Rattle.std.specs.Prelude.{slice_get, slice_index_or, nat_eq, nat_lt, not, ◌&&◌}
use Rattle.std.specs.List.{AllByRecursion}
use Rattle.kn_code.specs.declared.program.Instr.{Instr}
use Rattle.kn_code.specs.declared.program.Instr.TheVariants as instrs
use Rattle.kn_term.specs.Terms.{Term}
use Rattle.kn_packet.specs.declared.packet.Event.{Event}
use Rattle.kn_packet.specs.declared.packet.Event.TheVariants.{Boot, Reboot, Packet as Mail, Timer}
use Rattle.kn_model.specs.Values.{negated}
use Rattle.kn_model.specs.Terms.{terms}
use Rattle.kn_model.specs.Packets.{Packet, Parcel, first_at, packet_le, without_first}
use Rattle.kn_model.specs.Nodes.{State, Node, Fuel, is_running}
use Rattle.kn_model.specs.Nets.{Network, Link}
use Rattle.kn_model.specs.Rows.{Here, Way, Effect, Goes, Stops, Decides, effect, with_register, failed, next, counted, fresh_input, sent_on, sent_over, sends_over, link_at, span}
use Rattle.kn_model.specs.Paths.{Path, goes_by, decided, splits, after, one_way, effect_of, effect_at, ways, runs_from, runs, chooses, is_no, cleared, with_loss, doubled, arrives, comes, begun, event_ways, here_at, first_way, mail_in, path_of, event_paths}
use Rattle.kn_model.specs.Scenarios.{given, packet_in}
use Rattle.kn_model.proofs.Lists.{all-append, all-map, all-put_all}
use Rattle.kn_cob.specs.Nodes.{AreFrom}

-- what is said of each packet that waits, by its sender
module _ (here : Here Term) (Q : ℕ → Type 0) where
  abbrev IsFrom : Packet Term → Type 0
  IsFrom p = Q p.from

  abbrev P : Way Term → Type 0
  P w = AllByRecursion IsFrom w.state.queue

  abbrev All : List (Way Term) → Type 0
  All ws = AllByRecursion P ws

  abbrev Still : Effect Term → Type 0
  Still (Goes w) = P w
  Still (Stops w) = P w
  Still (Decides l w v) = P w × P v

  still_if : (b : Bool) (x y : Effect Term) → Still x → Still y → Still (cond b x y)
  still_if true x y h i = h
  still_if false x y h i = i

  sent_still : (words : List Term) (ls : List Link) (w : Way Term) → P w → P (sent_over terms here words ls w)
  sent_still words [] w h = h
  sent_still words (l ∷ ls) w h = sent_still words ls (sent_on terms here words l w) h

  sends_still : (w : Way Term) (b n : ℕ) (ls : List Link) → P w → Still (sends_over terms here w b n ls)
  sends_still w b n ls h =
      still_if (nat_lt 65535 (w.state.sent + length ls)) (Stops (failed terms here Fuel w)) (Goes (next terms (sent_over terms here (span terms w.state.registers b n) ls w)))
      h (sent_still (span terms w.state.registers b n) ls w h)

  -- no row changes what waits
  row_still : (i : Instr) (w : Way Term) → P w → Still (effect terms here i w)
  row_still (instrs.Ldx a b m n) w h = (h, h)
  row_still (instrs.Stx a b m n) w h = (h, h)
  row_still (instrs.Brz a to) w h = (h, h)
  row_still (instrs.Assert a) w h = (h, h)
  row_still (instrs.Input a width) w h = still_if (nat_eq w.state.inputs 65535) (Stops (failed terms here Fuel w)) (Goes (next terms (counted terms (with_register terms w a (fresh_input terms here w width))))) h h
  row_still (instrs.Send l b n) w h = sends_still w b n (link_at terms here.links l) h
  row_still (instrs.Bcast b n) w h = sends_still w b n here.links h
  row_still i w h = h

  at_still : (w : Way Term) → P w → Still (effect_at terms here w)
  at_still w h = go (slice_get here.code.instrs w.pc)
    where
      go : (o : Option Instr) → Still (effect_of terms here w o)
      go None = h
      go (Some i) = row_still i w h

  by_still : (b : Bool) (f g : Way Term → List (Way Term)) (w : Way Term) → All (f w) → All (g w) → All (goes_by b f g w)
  by_still true f g w h i = h
  by_still false f g w h i = i

  after_still : (x : Effect Term) (go : Way Term → List (Way Term)) → Still x → ((u : Way Term) → P u → All (go u)) → All (after terms x go)
  after_still (Goes w) go h on = on w h
  after_still (Stops w) go h on = (h, tt)
  after_still (Decides l w v) go h on = all-append P (go (decided terms false l w)) (go (decided terms true (negated l) v)) (on (decided terms false l w) h.0) (on (decided terms true (negated l) v) h.1)

  ways_still : (fuel : ℕ) (w : Way Term) → P w → All (ways terms here fuel w)
  ways_still zero w h = by_still (is_running w.state.outcome) (λ v. failed terms here Fuel v ∷ []) (one_way terms) w (h, tt) (h, tt)
  ways_still (suc fuel) w h =
      by_still (is_running w.state.outcome) (λ v. after terms (effect_at terms here v) (ways terms here fuel)) (one_way terms) w
      (after_still (effect_at terms here w) (ways terms here fuel) (at_still w h) (ways_still fuel)) (h, tt)

  from_still : (o : Option ℕ) (w : Way Term) → P w → All (runs_from terms here o w)
  from_still None w h = (h, tt)
  from_still (Some pc) w h = ways_still here.fuel (record w { pc = pc }) h

  runs_still : (handler : ℕ) (w : Way Term) → P w → All (runs terms here handler w)
  runs_still handler w h = from_still (slice_index_or here.code.handlers handler None) w h

  chooses_still : (stays takes : Way Term → List (Way Term)) (w : Way Term) → P w → ((u : Way Term) → P u → All (stays u)) → ((u : Way Term) → P u → All (takes u)) → All (chooses terms here stays takes w)
  chooses_still stays takes w h on over =
      let no = decided terms false (is_no terms here w) (counted terms w) in
      let yes = decided terms true (negated (is_no terms here w)) (counted terms w) in
      by_still (nat_eq w.state.inputs 65535) stays (λ v. splits terms (is_no terms here v) stays (counted terms v) takes (counted terms v)) w (on w h)
      (all-append P (stays no) (takes yes) (on no h) (over yes h))

  -- a copy has the packet's sender
  arrives_still : (p : Packet Term) (w : Way Term) → IsFrom p → P w → All (arrives terms here p w)
  arrives_still p w from h =
      by_still (nat_eq p.copy 0 && not (nat_eq w.state.duplications 0)) (chooses terms here (runs terms here 1) (λ v. runs terms here 1 (doubled terms here p v))) (runs terms here 1) w
      (chooses_still (runs terms here 1) (λ v. runs terms here 1 (doubled terms here p v)) w h (runs_still 1)
      (λ v i. runs_still 1 (doubled terms here p v) (all-put_all IsFrom packet_le (record p { copy = 1; arrival = here.tick + 1 } ∷ []) v.state.queue (from, tt) i)))
      (runs_still 1 w h)

  abbrev MailFrom : Option (Packet Term) → Type 0
  MailFrom None = Unit {0}
  MailFrom (Some p) = IsFrom p

  comes_still : (o : Option (Packet Term)) (w : Way Term) → MailFrom o → P w → All (comes terms here o w)
  comes_still None w from h = (h, tt)
  comes_still (Some p) w from h =
      by_still (nat_eq w.state.losses 0) (arrives terms here p) (chooses terms here (arrives terms here p) (λ v. with_loss terms v ∷ [])) w (arrives_still p w from h)
      (chooses_still (arrives terms here p) (λ v. with_loss terms v ∷ []) w h (λ v i. arrives_still p v from i) (λ v i. (i, tt)))

  event_still : (e : Event) (w : Way Term) → MailFrom here.mail → P w → All (event_ways terms here e w)
  event_still Boot w from h = runs_still 0 w h
  event_still Reboot w from h = chooses_still (one_way terms) (λ v. runs terms here 0 (cleared terms v)) w h (λ v i. (i, tt)) (λ v i. runs_still 0 (cleared terms v) i)
  event_still (Mail from seq copy) w mail h = comes_still here.mail w mail h
  event_still (Timer number) w from h = runs_still (2 + number) w h

all_others : (Q : Packet Term → Type 0) (t : ℕ) (q : List (Packet Term)) → AllByRecursion Q q → AllByRecursion Q (without_first t q)
all_others Q t [] h = tt
all_others Q t (p ∷ q) h = go (nat_eq p.arrival t) (all_others Q t q h.1)
  where
    go : (b : Bool) → AllByRecursion Q (without_first t q) → AllByRecursion Q (cond b q (p ∷ without_first t q))
    go true rest = h.1
    go false rest = (h.0, rest)

begun_still : (Q : Packet Term → Type 0) (t : ℕ) (e : Event) (s : State Term) → AllByRecursion Q s.queue → AllByRecursion Q (begun terms t e s).queue
begun_still Q t Boot s h = h
begun_still Q t Reboot s h = h
begun_still Q t (Mail from seq copy) s h = all_others Q t s.queue h
begun_still Q t (Timer number) s h = h

mail_first : (here : Here Term) (Q : ℕ → Type 0) (t : ℕ) (q : List (Packet Term)) → AllByRecursion (λ (p : Packet Term). Q p.from) q → MailFrom here Q (first_at t q)
mail_first here Q t [] h = tt
mail_first here Q t (p ∷ q) h = go (nat_eq p.arrival t) (mail_first here Q t q h.1)
  where
    go : (b : Bool) → MailFrom here Q (first_at t q) → MailFrom here Q (cond b (Some p) (first_at t q))
    go true rest = h.0
    go false rest = rest

mail_from : (here : Here Term) (Q : ℕ → Type 0) (t : ℕ) (e : Event) (s : State Term) → AllByRecursion (λ (p : Packet Term). Q p.from) s.queue → MailFrom here Q (mail_in terms e t s)
mail_from here Q t Boot s h = tt
mail_from here Q t Reboot s h = tt
mail_from here Q t (Mail from seq copy) s h = mail_first here Q t s.queue h
mail_from here Q t (Timer number) s h = tt

-- after each path of an event it is so
pub senders_paths : (net : Network) (n t : ℕ) (e : Event) (s : State Term) → AreFrom net s.queue → AllByRecursion (λ (p : Path Term). AreFrom net p.state.queue) (event_paths terms net n t e s)
senders_paths net n t e s h =
    let here = here_at terms net n t e s in
    let first = first_way terms (begun terms t e s) in
    let Q : ℕ → Type 0 = λ k. k < length net.nodes in
    all-map (λ (w : Way Term). AreFrom net w.state.queue) (λ (p : Path Term). AreFrom net p.state.queue) (path_of terms) (λ w i. i)
    (event_ways terms here e first) (event_still here Q e first (mail_from here Q t e s h) (begun_still (λ (p : Packet Term). p.from < length net.nodes) t e s h))

-- and where the node is given parcels from nodes of the network
pub senders_given : (net : Network) (ps : List (Parcel Term)) (y : Node Term) → AllByRecursion (λ (p : Parcel Term). p.packet.from < length net.nodes) ps → AreFrom net y.state.queue → AreFrom net (given ps y).state.queue
senders_given net ps y from h =
    all-put_all (λ (p : Packet Term). p.from < length net.nodes) packet_le (map packet_in ps) y.state.queue
    (all-map (λ (p : Parcel Term). p.packet.from < length net.nodes) (λ (p : Packet Term). p.from < length net.nodes) packet_in (λ p i. i) ps from) h
