-- Over words too each event leaves less for the tick, and what it sends arrives later: a state over words is what inputs make of the same state over terms.
use Rattle.std.proofs.Common.{◌≡◌, ℕ, ◌<◌, List, [], ◌∷◌, map, Some, refl, sym, ap, subst, ◌∙◌, arith}
use Rattle.std.specs.Prelude.{filter}
use Rattle.std.specs.List.{AllByRecursion}
use Rattle.kn_packet.specs.declared.packet.Event.{Event}
use Rattle.kn_model.specs.Values.{Literal}
use Rattle.kn_model.specs.Conditions.{holds, literal_in}
use Rattle.kn_model.specs.Terms.{Term, Word, Valuation, terms, words, ev}
use Rattle.kn_model.specs.Concrete.{packet_under, path_under, state_under}
use Rattle.kn_model.specs.Packets.{Packet}
use Rattle.kn_model.specs.Nodes.{State}
use Rattle.kn_model.specs.Nets.{Network}
use Rattle.kn_model.specs.Due.{due, left}
use Rattle.kn_model.specs.Paths.{Path, event_paths}
use Rattle.kn_model.specs.Alikes.{OneByOne, WaitsAlike, StateAlike, Any}
use Rattle.kn_model.specs.Laws.{IsNet, IsSentBy}
use Rattle.kn_model.proofs.Lists.{all-map, all-filter}
use Rattle.kn_model.proofs.Settling.{all-both}
use Rattle.kn_model.proofs.Falling.{falling_work}
use Rattle.kn_model.proofs.Sending.{sends_later}
use Rattle.kn_model.proofs.Covered.{events_covered}
use Rattle.kn_model.proofs.AlikeRows.{due_alike, left_alike}

-- each word as a term
abbrev literal_as : Literal ℕ → Literal Term
literal_as l = record { value = Word l.value; truth = l.truth }

abbrev packet_as : Packet ℕ → Packet Term
packet_as p = record { from = p.from; seq = p.seq; copy = p.copy; to = p.to; arrival = p.arrival; payload = map Word p.payload; guard = map literal_as p.guard; bits = p.bits }

abbrev state_as : State ℕ → State Term
state_as s = record {
  registers = map Word s.registers;
  memory = map Word s.memory;
  timers = s.timers;
  queue = map packet_as s.queue;
  inputs = s.inputs;
  sent = s.sent;
  losses = s.losses;
  duplications = s.duplications;
  booted = s.booted;
  reboots = s.reboots;
  outcome = s.outcome;
  trace = s.trace;
  own = map literal_as s.own;
}

module _ (a : Valuation) where
  words_back : (ws : List ℕ) → map (ev a) (map Word ws) ≡ ws
  words_back [] = refl
  words_back (w ∷ ws) = ap (λ (l : List ℕ). w ∷ l) (words_back ws)

  literals_back : (ls : List (Literal ℕ)) → map (literal_in a) (map literal_as ls) ≡ ls
  literals_back [] = refl
  literals_back (l ∷ ls) = ap (λ (k : List (Literal ℕ)). l ∷ k) (literals_back ls)

  packet_back : (p : Packet ℕ) → packet_under a (packet_as p) ≡ p
  packet_back p =
      ap (λ (ws : List ℕ). record p { payload = ws; guard = map (literal_in a) (map literal_as p.guard) }) (words_back p.payload)
      ∙ ap (λ (ls : List (Literal ℕ)). record p { guard = ls }) (literals_back p.guard)

  packets_back : (ps : List (Packet ℕ)) → map (packet_under a) (map packet_as ps) ≡ ps
  packets_back [] = refl
  packets_back (p ∷ ps) = ap (λ (q : Packet ℕ). q ∷ map (packet_under a) (map packet_as ps)) (packet_back p) ∙ ap (λ (l : List (Packet ℕ)). p ∷ l) (packets_back ps)

  state_back : (s : State ℕ) → state_under a (state_as s) ≡ s
  state_back s =
      let q = map (packet_under a) (map packet_as s.queue) in
      let ls = map (literal_in a) (map literal_as s.own) in
      ap (λ (ws : List ℕ). record s { registers = ws; memory = map (ev a) (map Word s.memory); queue = q; own = ls }) (words_back s.registers)
      ∙ (ap (λ (ws : List ℕ). record s { memory = ws; queue = q; own = ls }) (words_back s.memory)
      ∙ (ap (λ (ps : List (Packet ℕ)). record s { queue = ps; own = ls }) (packets_back s.queue)
      ∙ ap (λ (k : List (Literal ℕ)). record s { own = k }) (literals_back s.own)))

  -- what inputs make of a state has the same keys, and what is due is read from these
  any_pairs : {X Y : Type 0} (f : X → Y) (xs : List X) → OneByOne Any (map f xs) xs
  any_pairs f [] = tt
  any_pairs f (x ∷ xs) = (tt, any_pairs f xs)

  any_queue : (ps : List (Packet Term)) → OneByOne (WaitsAlike Any) (map (packet_under a) ps) ps
  any_queue [] = tt
  any_queue (p ∷ ps) = (record { key = refl; payload = any_pairs (ev a) p.payload }, any_queue ps)

  as_before : (u : State Term) → StateAlike Any Any (state_under a u) u
  as_before u = record {
    trace = refl;
    outcome = refl;
    timers = refl;
    inputs = refl;
    sent = refl;
    losses = refl;
    duplications = refl;
    booted = refl;
    reboots = refl;
    registers = any_pairs (ev a) u.registers;
    memory = any_pairs (ev a) u.memory;
    queue = any_queue u.queue;
    own = tt;
  }

  -- a path leaves less, and its packets come later
  abbrev pub Falls : Network → (t : ℕ) → State ℕ → Path ℕ → Type 0
  Falls net t s p = (left net.limits.ticks t p.state < left net.limits.ticks t s) × AllByRecursion (λ (q : Packet ℕ). t < q.arrival) p.sends

  pub falls : (net : Network) (n t : ℕ) (e : Event) (s : State ℕ) → IsNet net → due net.limits.ticks t s ≡ Some e → AllByRecursion (Falls net t s) (event_paths (words a) net n t e s)
  falls net n t e s good is =
      let u = state_as s in
      let ticks = net.limits.ticks in
      let now : due ticks t u ≡ Some e = sym (due_alike Any Any ticks t (state_under a u) u (as_before u)) ∙ (ap (due ticks t) (state_back s) ∙ is) in
      let each = all-both (λ (p : Path Term). left ticks t p.state < left ticks t u) (λ (p : Path Term). AllByRecursion (IsSentBy n t) p.sends)
      (λ (p : Path Term). (left ticks t p.state < left ticks t u) × AllByRecursion (IsSentBy n t) p.sends) (λ p x y. (x, y))
      (event_paths terms net n t e u) (falling_work net n t e u good now) (sends_later net n t e u good) in
      let meets = λ (p : Path Term). holds a p.literals in
      subst (λ (z : State ℕ). AllByRecursion (Falls net t z) (event_paths (words a) net n t e z)) (state_back s)
      (subst (AllByRecursion (Falls net t (state_under a u))) (events_covered a net n t e u good)
      (all-map (λ (p : Path Term). (left ticks t p.state < left ticks t u) × AllByRecursion (IsSentBy n t) p.sends) (Falls net t (state_under a u)) (path_under a) fall
      (filter meets (event_paths terms net n t e u))
      (all-filter (λ (p : Path Term). (left ticks t p.state < left ticks t u) × AllByRecursion (IsSentBy n t) p.sends) meets (event_paths terms net n t e u) each)))
    where
      fall : (p : Path Term) → (left net.limits.ticks t p.state < left net.limits.ticks t (state_as s)) × AllByRecursion (IsSentBy n t) p.sends → Falls net t (state_under a (state_as s)) (path_under a p)
      fall p h =
          let after = left_alike Any Any net.limits.ticks t (state_under a p.state) p.state (as_before p.state) in
          let before = left_alike Any Any net.limits.ticks t (state_under a (state_as s)) (state_as s) (as_before (state_as s)) in
          let less = h.0 in
          (omega (arith, after, before, less), all-map (IsSentBy n t) (λ (q : Packet ℕ). t < q.arrival) (packet_under a) (λ q i. i.2) p.sends h.1)
