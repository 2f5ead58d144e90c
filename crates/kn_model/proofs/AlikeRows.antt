-- Ways whose values and conditions are alike go the same ways on, whatever alike means, as long as the rows keep it.
use Rattle.std.proofs.Common.{◌≡◌, ℕ, zero, suc, ◌+◌, ◌-◌, Bool, true, false, cond, List, [], ◌∷◌, ◌++◌, length, take, drop, Option, Some, None, refl, ap, subst, ◌∙◌}
use Rattle.std.specs.Prelude.{slice_get, slice_index_or, slice_set, nat_eq, nat_lt, not, ◌&&◌, filter}
use Rattle.kn_word.specs.Words.{one_if}
use Rattle.kn_word.specs.declared.Op.{Op}
use Rattle.kn_word.specs.declared.Op.TheVariants as ops
use Rattle.kn_code.specs.declared.program.Instr.{Instr}
use Rattle.kn_code.specs.declared.program.Instr.TheVariants as instrs
use Rattle.kn_code.specs.Code.{Code}
use Rattle.kn_model.specs.Values.{Literal, Values}
use Rattle.kn_packet.specs.declared.packet.Event.{Event}
use Rattle.kn_packet.specs.declared.packet.Event.TheVariants.{Boot, Reboot, Packet as Mail, Timer}
use Rattle.kn_model.specs.Packets.{Packet, packet_le, below_or, first_at, without_first}
use Rattle.kn_model.specs.Nodes.{State, Outcome, Halted, Failed, FailKind, Assert, Bounds, Fuel, is_running, zeros}
use Rattle.kn_model.specs.Nets.{Network, Link}
use Rattle.kn_model.specs.Due.{due, left, how_many, is_set_to, has, comes_at, or_else, mail_of, timer_from}
use Rattle.kn_model.specs.Rows.{Here, Way, Effect, Goes, Stops, Decides, effect, register, with_register, with_memory, with_timer, with_outcome, failed, next, counted, fresh_input, sent_on, sent_over, sends_over, link_at, span, element, with_element, payload_of, sender_of, packet_on, sets, operate, in_range}
use Rattle.kn_model.specs.Paths.{goes_if, goes_by, decided, splits, after, one_way, effect_of, effect_at, ways, runs_from, runs, chooses, is_no, cleared, with_loss, doubled, arrives, comes, begun, event_ways, mail_in, here_at, first_way, path_of, event_paths}
use Rattle.kn_model.specs.Alikes.{OneByOne, WaitsAlike, SentAlike, StateAlike, PathAlike}
use Rattle.kn_model.specs.Packets.{Key, key_of}
use Rattle.kn_model.proofs.OneByOne.{pairs-append, pairs-take, pairs-drop, pairs-get, pairs-set, pairs-length, pairs-put, pairs-map}

-- what a comparison has to keep: each value that a row makes, each literal that it decides by, and conditions that are joined
pub record Keeps {V W : Type 0} (k : Values V) (m : Values W) (R : V → W → Type 0) (C : List (Literal V) → List (Literal W) → Type 0) (L : List (Literal V) → List (Literal W) → Type 0) : Type 0 where
  pub word : (w : ℕ) → R (k.word w) (m.word w)
  pub input : (node index width : ℕ) → R (k.input node index width) (m.input node index width)
  pub apply : (op : Op) (x : V) (x' : W) (y : V) (y' : W) → R x x' → R y y' → R (k.apply op x y) (m.apply op x' y')
  pub choice : (x : V) (x' : W) (y : V) (y' : W) (z : V) (z' : W) → R x x' → R y y' → R z z' → R (k.choice x y z) (m.choice x' y' z')
  -- the literals of a way, by L, which a condition in front makes a condition by C
  pub nothing : L [] []
  pub literal : (x : V) (x' : W) (b : Bool) → R x x' → L (record { value = x; truth = b } ∷ []) (record { value = x'; truth = b } ∷ [])
  pub join : (c : List (Literal V)) (c' : List (Literal W)) (d : List (Literal V)) (d' : List (Literal W)) → L c c' → L d d' → L (c ++ d) (c' ++ d')
  pub told : (c : List (Literal V)) (c' : List (Literal W)) → L c c' → C c c'
  pub joined : (c : List (Literal V)) (c' : List (Literal W)) (d : List (Literal V)) (d' : List (Literal W)) → C c c' → L d d' → C (c ++ d) (c' ++ d')
  -- the same sides are followed
  pub sides : (x : V) (x' : W) (b : Bool) → R x x' → k.can_hold (record { value = x; truth = b }) ≡ m.can_hold (record { value = x'; truth = b })

module _ {V W : Type 0} (R : V → W → Type 0) (C : List (Literal V) → List (Literal W) → Type 0) where
  abbrev pub LiteralAlike : Literal V → Literal W → Type 0
  LiteralAlike l l' = R l.value l'.value × (l.truth ≡ l'.truth)

  abbrev pub MailAlike : Option (Packet V) → Option (Packet W) → Type 0
  MailAlike None None = Unit {0}
  MailAlike (Some p) (Some q) = WaitsAlike R p q
  MailAlike o o' = ⊥

  -- what is due, and how much is left, is read of neither
  pub first_alike : (t : ℕ) (p : List (Packet V)) (q : List (Packet W)) → OneByOne (WaitsAlike R) p q → MailAlike (first_at t p) (first_at t q)
  first_alike t [] [] h = tt
  first_alike t [] (y ∷ q) h = absurd h
  first_alike t (x ∷ p) [] h = absurd h
  first_alike t (x ∷ p) (y ∷ q) h = go (nat_eq x.arrival t) (nat_eq y.arrival t) (ap (λ (z : Key). nat_eq z.arrival t) h.0.key) (first_alike t p q h.1)
    where
      go : (b c : Bool) → b ≡ c → MailAlike (first_at t p) (first_at t q) → MailAlike (cond b (Some x) (first_at t p)) (cond c (Some y) (first_at t q))
      go true true e rest = h.0
      go true false e rest = absurd cc
      go false true e rest = absurd cc
      go false false e rest = rest

  others_alike : (t : ℕ) (p : List (Packet V)) (q : List (Packet W)) → OneByOne (WaitsAlike R) p q → OneByOne (WaitsAlike R) (without_first t p) (without_first t q)
  others_alike t [] [] h = tt
  others_alike t [] (y ∷ q) h = absurd h
  others_alike t (x ∷ p) [] h = absurd h
  others_alike t (x ∷ p) (y ∷ q) h = go (nat_eq x.arrival t) (nat_eq y.arrival t) (ap (λ (z : Key). nat_eq z.arrival t) h.0.key) (others_alike t p q h.1)
    where
      go : (b c : Bool) → b ≡ c → OneByOne (WaitsAlike R) (without_first t p) (without_first t q) → OneByOne (WaitsAlike R) (cond b p (x ∷ without_first t p)) (cond c q (y ∷ without_first t q))
      go true true e rest = h.1
      go true false e rest = absurd cc
      go false true e rest = absurd cc
      go false false e rest = (h.0, rest)

  many_alike : (t : ℕ) (p : List (Packet V)) (q : List (Packet W)) → OneByOne (WaitsAlike R) p q → how_many (comes_at t) p ≡ how_many (comes_at t) q
  many_alike t [] [] h = refl
  many_alike t [] (y ∷ q) h = absurd h
  many_alike t (x ∷ p) [] h = absurd h
  many_alike t (x ∷ p) (y ∷ q) h =
      ap (λ (z : Key). one_if (nat_eq z.arrival t) + how_many (comes_at t) p) h.0.key ∙ ap (λ (n : ℕ). one_if (nat_eq y.arrival t) + n) (many_alike t p q h.1)

  mail_event : (o : Option (Packet V)) (o' : Option (Packet W)) → MailAlike o o' → mail_of o ≡ mail_of o'
  mail_event None None h = refl
  mail_event None (Some q) h = absurd h
  mail_event (Some p) None h = absurd h
  mail_event (Some p) (Some q) h = ap (λ (z : Key). Some (Mail z.from z.seq z.copy)) h.key

  pub due_alike : (ticks t : ℕ) (s : State V) (s' : State W) → StateAlike R C s s' → due ticks t s ≡ due ticks t s'
  due_alike ticks t s s' h =
      let at : Outcome → Bool → List ℕ → Option Event → List (Option ℕ) → Option Event = λ out booted reboots mail timers.
      cond (nat_lt t ticks && is_running out) (or_else (cond (nat_eq t 0 && not booted) (Some Boot) None) (or_else (cond (has t reboots) (Some Reboot) None) (or_else mail (timer_from t 0 timers)))) None in
      let mail = mail_of (first_at t s.queue) in
      ap (λ (z : Outcome). at z s.booted s.reboots mail s.timers) h.outcome
      ∙ (ap (λ (z : Bool). at s'.outcome z s.reboots mail s.timers) h.booted
      ∙ (ap (λ (z : List ℕ). at s'.outcome s'.booted z mail s.timers) h.reboots
      ∙ (ap (λ (z : Option Event). at s'.outcome s'.booted s'.reboots z s.timers) (mail_event (first_at t s.queue) (first_at t s'.queue) (first_alike t s.queue s'.queue h.queue))
      ∙ ap (λ (z : List (Option ℕ)). at s'.outcome s'.booted s'.reboots (mail_of (first_at t s'.queue)) z) h.timers)))

  pub left_alike : (ticks t : ℕ) (s : State V) (s' : State W) → StateAlike R C s s' → left ticks t s ≡ left ticks t s'
  left_alike ticks t s s' h =
      let at : Outcome → Bool → List ℕ → ℕ → List (Option ℕ) → ℕ = λ out booted reboots many timers.
      cond (nat_lt t ticks && is_running out) (one_if (nat_eq t 0 && not booted) + one_if (has t reboots) + many + how_many (is_set_to t) timers) 0 in
      let many = how_many (comes_at t) s.queue in
      ap (λ (z : Outcome). at z s.booted s.reboots many s.timers) h.outcome
      ∙ (ap (λ (z : Bool). at s'.outcome z s.reboots many s.timers) h.booted
      ∙ (ap (λ (z : List ℕ). at s'.outcome s'.booted z many s.timers) h.reboots
      ∙ (ap (λ (z : ℕ). at s'.outcome s'.booted s'.reboots z s.timers) (many_alike t s.queue s'.queue h.queue)
      ∙ ap (λ (z : List (Option ℕ)). at s'.outcome s'.booted s'.reboots (how_many (comes_at t) s'.queue) z) h.timers)))

  pub payload_alike : (o : Option (Packet V)) (o' : Option (Packet W)) → MailAlike o o' → OneByOne R (payload_of o) (payload_of o')
  payload_alike None None h = tt
  payload_alike None (Some q) h = absurd h
  payload_alike (Some p) None h = absurd h
  payload_alike (Some p) (Some q) h = h.payload

  sender_alike : (o : Option (Packet V)) (o' : Option (Packet W)) → MailAlike o o' → sender_of o ≡ sender_of o'
  sender_alike None None h = refl
  sender_alike None (Some q) h = absurd h
  sender_alike (Some p) None h = absurd h
  sender_alike (Some p) (Some q) h = ap (λ (z : Key). z.from) h.key

  pub order_alike : (p : Packet V) (p' : Packet W) (q : Packet V) (q' : Packet W) → WaitsAlike R p p' → WaitsAlike R q q' → packet_le p q ≡ packet_le p' q'
  order_alike p p' q q' h i =
      let le : Key → Key → Bool = λ x y. below_or x.arrival y.arrival (below_or x.from y.from (below_or x.seq y.seq (below_or x.copy y.copy true))) in
      ap (λ (z : Key). le z (key_of q)) h.key ∙ ap (le (key_of p')) i.key

-- ways, and what a row does to them
module _ {V W : Type 0} (R : V → W → Type 0) (C : List (Literal V) → List (Literal W) → Type 0) (L : List (Literal V) → List (Literal W) → Type 0) where
  pub record WayAlike (w : Way V) (w' : Way W) : Type 0 where
    pub state : StateAlike R C w.state w'.state
    pub pc : w.pc ≡ w'.pc
    pub bits : w.bits ≡ w'.bits
    pub literals : L w.literals w'.literals
    pub sends : OneByOne (SentAlike R C) w.sends w'.sends

  abbrev pub EffectAlike : Effect V → Effect W → Type 0
  EffectAlike (Goes w) (Goes w') = WayAlike w w'
  EffectAlike (Stops w) (Stops w') = WayAlike w w'
  EffectAlike (Decides l w v) (Decides l' w' v') = LiteralAlike R C l l' × WayAlike w w' × WayAlike v v'
  EffectAlike x x' = ⊥

-- one change of a state, and of a way
module _ {V W : Type 0} (k : Values V) (m : Values W) (R : V → W → Type 0) (C : List (Literal V) → List (Literal W) → Type 0) (L : List (Literal V) → List (Literal W) → Type 0) (keeps : Keeps k m R C L) where
  abbrev pub Ways : Way V → Way W → Type 0
  Ways w w' = WayAlike R C L w w'

  abbrev pub States : State V → State W → Type 0
  States s s' = StateAlike R C s s'

  abbrev pub Effects : Effect V → Effect W → Type 0
  Effects x x' = EffectAlike R C L x x'

  pub with_state : (w : Way V) (w' : Way W) → Ways w w' → (s : State V) (s' : State W) → States s s' → Ways (record w { state = s }) (record w' { state = s' })
  with_state w w' h s s' i = record { state = i; pc = h.pc; bits = h.bits; literals = h.literals; sends = h.sends }

  pub set_registers : (s : State V) (s' : State W) → States s s' → (x : List V) (x' : List W) → OneByOne R x x' → States (record s { registers = x }) (record s' { registers = x' })
  set_registers s s' h x x' i = record {
    trace = h.trace;
    outcome = h.outcome;
    timers = h.timers;
    inputs = h.inputs;
    sent = h.sent;
    losses = h.losses;
    duplications = h.duplications;
    booted = h.booted;
    reboots = h.reboots;
    registers = i;
    memory = h.memory;
    queue = h.queue;
    own = h.own;
  }

  pub set_memory : (s : State V) (s' : State W) → States s s' → (x : List V) (x' : List W) → OneByOne R x x' → States (record s { memory = x }) (record s' { memory = x' })
  set_memory s s' h x x' i = record {
    trace = h.trace;
    outcome = h.outcome;
    timers = h.timers;
    inputs = h.inputs;
    sent = h.sent;
    losses = h.losses;
    duplications = h.duplications;
    booted = h.booted;
    reboots = h.reboots;
    registers = h.registers;
    memory = i;
    queue = h.queue;
    own = h.own;
  }

  pub set_queue : (s : State V) (s' : State W) → States s s' → (x : List (Packet V)) (x' : List (Packet W)) → OneByOne (WaitsAlike R) x x' → States (record s { queue = x }) (record s' { queue = x' })
  set_queue s s' h x x' i = record {
    trace = h.trace;
    outcome = h.outcome;
    timers = h.timers;
    inputs = h.inputs;
    sent = h.sent;
    losses = h.losses;
    duplications = h.duplications;
    booted = h.booted;
    reboots = h.reboots;
    registers = h.registers;
    memory = h.memory;
    queue = i;
    own = h.own;
  }

  pub set_timers : (s : State V) (s' : State W) → States s s' → (x x' : List (Option ℕ)) → x ≡ x' → States (record s { timers = x }) (record s' { timers = x' })
  set_timers s s' h x x' i = record {
    trace = h.trace;
    outcome = h.outcome;
    timers = i;
    inputs = h.inputs;
    sent = h.sent;
    losses = h.losses;
    duplications = h.duplications;
    booted = h.booted;
    reboots = h.reboots;
    registers = h.registers;
    memory = h.memory;
    queue = h.queue;
    own = h.own;
  }

  -- the next instruction comes, another one comes, an outcome is set
  pub goes_on : (w : Way V) (w' : Way W) → Ways w w' → Ways (next k w) (next m w')
  goes_on w w' h = record { state = h.state; pc = ap (λ (n : ℕ). n + 1) h.pc; bits = h.bits; literals = h.literals; sends = h.sends }

  pub jumps : (to : ℕ) (w : Way V) (w' : Way W) → Ways w w' → Ways (record w { pc = to }) (record w' { pc = to })
  jumps to w w' h = record { state = h.state; pc = refl; bits = h.bits; literals = h.literals; sends = h.sends }

  pub ends : (o o' : Outcome) → o ≡ o' → (w : Way V) (w' : Way W) → Ways w w' → Ways (with_outcome k w o) (with_outcome m w' o')
  ends o o' e w w' h =
      let s = h.state in
      with_state w w' h (record w.state { outcome = o }) (record w'.state { outcome = o' }) (record {
        trace = s.trace;
        outcome = e;
        timers = s.timers;
        inputs = s.inputs;
        sent = s.sent;
        losses = s.losses;
        duplications = s.duplications;
        booted = s.booted;
        reboots = s.reboots;
        registers = s.registers;
        memory = s.memory;
        queue = s.queue;
        own = s.own;
      })

  pub counts : (w : Way V) (w' : Way W) → Ways w w' → Ways (counted k w) (counted m w')
  counts w w' h =
      let s = h.state in
      with_state w w' h (counted k w).state (counted m w').state (record {
        trace = s.trace;
        outcome = s.outcome;
        timers = s.timers;
        inputs = ap (λ (n : ℕ). n + 1) s.inputs;
        sent = s.sent;
        losses = s.losses;
        duplications = s.duplications;
        booted = s.booted;
        reboots = s.reboots;
        registers = s.registers;
        memory = s.memory;
        queue = s.queue;
        own = s.own;
      })

  pub loses : (w : Way V) (w' : Way W) → Ways w w' → Ways (with_loss k w) (with_loss m w')
  loses w w' h =
      let s = h.state in
      with_state w w' h (with_loss k w).state (with_loss m w').state (record {
        trace = s.trace;
        outcome = s.outcome;
        timers = s.timers;
        inputs = s.inputs;
        sent = s.sent;
        losses = ap (λ (n : ℕ). n - 1) s.losses;
        duplications = s.duplications;
        booted = s.booted;
        reboots = s.reboots;
        registers = s.registers;
        memory = s.memory;
        queue = s.queue;
        own = s.own;
      })

  pub zeros_alike : (n : ℕ) → OneByOne R (zeros k n) (zeros m n)
  zeros_alike zero = tt
  zeros_alike (suc n) = (keeps.word 0, zeros_alike n)

  pub clears : (w : Way V) (w' : Way W) → Ways w w' → Ways (cleared k w) (cleared m w')
  clears w w' h =
      let s = h.state in
      with_state w w' h (cleared k w).state (cleared m w').state (record {
        trace = s.trace;
        outcome = s.outcome;
        timers = refl;
        inputs = s.inputs;
        sent = s.sent;
        losses = s.losses;
        duplications = s.duplications;
        booted = s.booted;
        reboots = s.reboots;
        registers = zeros_alike 16;
        memory = zeros_alike 64;
        queue = s.queue;
        own = s.own;
      })

  -- a register is set, and the next instruction comes
  pub holds_register : (w : Way V) (w' : Way W) → Ways w w' → (a : ℕ) → R (register k w a) (register m w' a)
  holds_register w w' h a = pairs-get R w.state.registers w'.state.registers a (k.word 0) (m.word 0) h.state.registers (keeps.word 0)

  pub setting : (w : Way V) (w' : Way W) → Ways w w' → (a : ℕ) (x : V) (x' : W) → R x x' → Ways (with_register k w a x) (with_register m w' a x')
  setting w w' h a x x' r =
      with_state w w' h (with_register k w a x).state (with_register m w' a x').state
      (set_registers w.state w'.state h.state (slice_set w.state.registers a x) (slice_set w'.state.registers a x') (pairs-set R w.state.registers w'.state.registers a x x' h.state.registers r))

  pub sets_to : (w : Way V) (w' : Way W) → Ways w w' → (a : ℕ) (x : V) (x' : W) → R x x' → Effects (sets k w a x) (sets m w' a x')
  sets_to w w' h a x x' r = goes_on (with_register k w a x) (with_register m w' a x') (setting w w' h a x x' r)

  pub operates : (op : Op) (w : Way V) (w' : Way W) → Ways w w' → (a b c : ℕ) → Effects (operate k op w a b c) (operate m op w' a b c)
  operates op w w' h a b c = sets_to w w' h a (k.apply op (register k w b) (register k w c)) (m.apply op (register m w' b) (register m w' c)) (keeps.apply op (register k w b) (register m w' b) (register k w c) (register m w' c) (holds_register w w' h b) (holds_register w w' h c))

  pub remembers : (w : Way V) (w' : Way W) → Ways w w' → (x : List V) (x' : List W) → OneByOne R x x' → Effects (Goes (next k (with_memory k w x))) (Goes (next m (with_memory m w' x')))
  remembers w w' h x x' r = goes_on (with_memory k w x) (with_memory m w' x') (with_state w w' h (with_memory k w x).state (with_memory m w' x').state (set_memory w.state w'.state h.state x x' r))

  pub times : (w : Way V) (w' : Way W) → Ways w w' → (number : ℕ) (o : Option ℕ) → Effects (Goes (next k (with_timer k w number o))) (Goes (next m (with_timer m w' number o)))
  times w w' h number o =
      goes_on (with_timer k w number o) (with_timer m w' number o)
      (with_state w w' h (with_timer k w number o).state (with_timer m w' number o).state (set_timers w.state w'.state h.state (slice_set w.state.timers number o) (slice_set w'.state.timers number o) (ap (λ (l : List (Option ℕ)). slice_set l number o) h.state.timers)))

  -- the element at an index
  is_at : (x : V) (x' : W) → R x x' → (place : ℕ) → R (k.apply ops.Eq x (k.word place)) (m.apply ops.Eq x' (m.word place))
  is_at x x' r place = keeps.apply ops.Eq x x' (k.word place) (m.word place) r (keeps.word place)

  pub element_alike : (x : V) (x' : W) → R x x' → (place : ℕ) (l : List V) (l' : List W) → OneByOne R l l' → R (element k x place l) (element m x' place l')
  element_alike x x' r place [] [] h = keeps.word 0
  element_alike x x' r place [] (z ∷ l') h = absurd h
  element_alike x x' r place (y ∷ l) [] h = absurd h
  element_alike x x' r place (y ∷ l) (z ∷ l') h =
      keeps.choice (k.apply ops.Eq x (k.word place)) (m.apply ops.Eq x' (m.word place)) y z (element k x (place + 1) l) (element m x' (place + 1) l') (is_at x x' r place) h.0 (element_alike x x' r (place + 1) l l' h.1)

  pub elements_alike : (x : V) (x' : W) → R x x' → (y : V) (y' : W) → R y y' → (place : ℕ) (l : List V) (l' : List W) → OneByOne R l l' → OneByOne R (with_element k x y place l) (with_element m x' y' place l')
  elements_alike x x' r y y' q place [] [] h = tt
  elements_alike x x' r y y' q place [] (z ∷ l') h = absurd h
  elements_alike x x' r y y' q place (u ∷ l) [] h = absurd h
  elements_alike x x' r y y' q place (u ∷ l) (v ∷ l') h =
      (keeps.choice (k.apply ops.Eq x (k.word place)) (m.apply ops.Eq x' (m.word place)) y y' u v (is_at x x' r place) q h.0, elements_alike x x' r y y' q (place + 1) l l' h.1)

  pub span_alike : (l : List V) (l' : List W) → OneByOne R l l' → (from n : ℕ) → OneByOne R (span k l from n) (span m l' from n)
  span_alike l l' h from n = pairs-take R n (drop from l) (drop from l') (pairs-drop R from l l' h)

  pub range_alike : (w : Way V) (w' : Way W) → Ways w w' → (b n : ℕ) → LiteralAlike R C (in_range k w b n) (in_range m w' b n)
  range_alike w w' h b n = (keeps.apply ops.Ult (register k w b) (register m w' b) (k.word n) (m.word n) (holds_register w w' h b) (keeps.word n), refl)

  effect_if : (b c : Bool) → b ≡ c → (x y : Effect V) (x' y' : Effect W) → Effects x x' → Effects y y' → Effects (cond b x y) (cond c x' y')
  effect_if true true e x y x' y' h i = h
  effect_if true false e x y x' y' h i = absurd cc
  effect_if false true e x y x' y' h i = absurd cc
  effect_if false false e x y x' y' h i = i

  module _ (node tick : ℕ) (code : Code) (links : List Link) (fuel : ℕ) (o : Option (Packet V)) (o' : Option (Packet W)) (mail : MailAlike R C o o') where
    -- the same place, with packets that are alike
    abbrev pub here : Here V
    here = record { node = node; tick = tick; code = code; links = links; fuel = fuel; mail = o }

    abbrev pub there : Here W
    there = record { node = node; tick = tick; code = code; links = links; fuel = fuel; mail = o' }

    pub fails : (kind : FailKind) (w : Way V) (w' : Way W) → Ways w w' → Ways (failed k here kind w) (failed m there kind w')
    fails kind w w' h = ends (Failed kind w.pc tick) (Failed kind w'.pc tick) (ap (λ (n : ℕ). Failed kind n tick) h.pc) w w' h

    pub input_alike : (w : Way V) (w' : Way W) → Ways w w' → (width : ℕ) → R (fresh_input k here w width) (fresh_input m there w' width)
    input_alike w w' h width = subst (λ (n : ℕ). R (fresh_input k here w width) (m.input node n width)) h.state.inputs (keeps.input node w.state.inputs width)

    pub sends_one : (l : List V) (l' : List W) → OneByOne R l l' → (link : Link) (w : Way V) (w' : Way W) → Ways w w' → Ways (sent_on k here l link w) (sent_on m there l' link w')
    sends_one l l' r link w w' h =
        let s = h.state in
        let packet : SentAlike R C (packet_on k here w l link) (packet_on m there w' l' link) = record {
          key = ap (λ (n : ℕ). record { arrival = tick + link.delay; from = node; seq = n; copy = 0 }) s.sent;
          to = refl;
          bits = h.bits;
          payload = r;
          guard = keeps.joined w.state.own w'.state.own w.literals w'.literals s.own h.literals;
        } in
        record {
          state = record {
            trace = s.trace;
            outcome = s.outcome;
            timers = s.timers;
            inputs = s.inputs;
            sent = ap (λ (n : ℕ). n + 1) s.sent;
            losses = s.losses;
            duplications = s.duplications;
            booted = s.booted;
            reboots = s.reboots;
            registers = s.registers;
            memory = s.memory;
            queue = s.queue;
            own = s.own;
          };
          pc = h.pc;
          bits = h.bits;
          literals = h.literals;
          sends = pairs-append (SentAlike R C) w.sends w'.sends (packet_on k here w l link ∷ []) (packet_on m there w' l' link ∷ []) h.sends (packet, tt);
        }

    pub sends_each : (l : List V) (l' : List W) → OneByOne R l l' → (ls : List Link) (w : Way V) (w' : Way W) → Ways w w' → Ways (sent_over k here l ls w) (sent_over m there l' ls w')
    sends_each l l' r [] w w' h = h
    sends_each l l' r (link ∷ ls) w w' h = sends_each l l' r ls (sent_on k here l link w) (sent_on m there l' link w') (sends_one l l' r link w w' h)

    pub sending : (w : Way V) (w' : Way W) → Ways w w' → (b n : ℕ) (ls : List Link) → Effects (sends_over k here w b n ls) (sends_over m there w' b n ls)
    sending w w' h b n ls =
        let words = span k w.state.registers b n in
        let words' = span m w'.state.registers b n in
        effect_if (nat_lt 65535 (w.state.sent + length ls)) (nat_lt 65535 (w'.state.sent + length ls)) (ap (λ (z : ℕ). nat_lt 65535 (z + length ls)) h.state.sent)
        (Stops (failed k here Fuel w)) (Goes (next k (sent_over k here words ls w))) (Stops (failed m there Fuel w')) (Goes (next m (sent_over m there words' ls w')))
        (fails Fuel w w' h)
        (goes_on (sent_over k here words ls w) (sent_over m there words' ls w') (sends_each words words' (span_alike w.state.registers w'.state.registers h.state.registers b n) ls w w' h))

    -- every row
    pub row_alike : (i : Instr) (w : Way V) (w' : Way W) → Ways w w' → Effects (effect k here i w) (effect m there i w')
    row_alike (instrs.Const a n) w w' h = sets_to w w' h a _ _ (keeps.word n)
    row_alike (instrs.Mov a b) w w' h = sets_to w w' h a _ _ (holds_register w w' h b)
    row_alike (instrs.Not a b) w w' h = sets_to w w' h a _ _ (keeps.apply ops.Xor _ _ _ _ (holds_register w w' h b) (keeps.word 65535))
    row_alike (instrs.Ld a at) w w' h = sets_to w w' h a _ _ (pairs-get R w.state.memory w'.state.memory at (k.word 0) (m.word 0) h.state.memory (keeps.word 0))
    row_alike (instrs.St at a) w w' h = remembers w w' h _ _ (pairs-set R w.state.memory w'.state.memory at (register k w a) (register m w' a) h.state.memory (holds_register w w' h a))
    row_alike (instrs.Ldx a b at n) w w' h = (
      range_alike w w' h b n,
      goes_on _ _ (setting w w' h a _ _ (element_alike (register k w b) (register m w' b) (holds_register w w' h b) 0 (span k w.state.memory at n) (span m w'.state.memory at n) (span_alike w.state.memory w'.state.memory h.state.memory at n))),
      fails Bounds w w' h,
    )
    row_alike (instrs.Stx a b at n) w w' h = (
      range_alike w w' h b n,
      remembers w w' h _ _
          (pairs-append R (take at w.state.memory ++ with_element k (register k w b) (register k w a) 0 (span k w.state.memory at n)) (take at w'.state.memory ++ with_element m (register m w' b) (register m w' a) 0 (span m w'.state.memory at n)) _ _
          (pairs-append R (take at w.state.memory) (take at w'.state.memory) _ _ (pairs-take R at w.state.memory w'.state.memory h.state.memory)
          (elements_alike (register k w b) (register m w' b) (holds_register w w' h b) (register k w a) (register m w' a) (holds_register w w' h a) 0 (span k w.state.memory at n) (span m w'.state.memory at n) (span_alike w.state.memory w'.state.memory h.state.memory at n)))
          (pairs-drop R (at + n) w.state.memory w'.state.memory h.state.memory)),
      fails Bounds w w' h,
    )
    row_alike (instrs.Jmp to) w w' h = jumps to w w' h
    row_alike (instrs.Brz a to) w w' h = ((holds_register w w' h a, refl), goes_on w w' h, jumps to w w' h)
    row_alike (instrs.Input a width) w w' h =
        effect_if (nat_eq w.state.inputs 65535) (nat_eq w'.state.inputs 65535) (ap (λ (n : ℕ). nat_eq n 65535) h.state.inputs)
        (Stops (failed k here Fuel w)) (Goes (next k (counted k (with_register k w a (fresh_input k here w width)))))
        (Stops (failed m there Fuel w')) (Goes (next m (counted m (with_register m w' a (fresh_input m there w' width)))))
        (fails Fuel w w' h)
        (goes_on _ _ (counts (with_register k w a (fresh_input k here w width)) (with_register m w' a (fresh_input m there w' width)) (setting w w' h a _ _ (input_alike w w' h width))))
    row_alike (instrs.Timer number d) w w' h = times w w' h number (Some (tick + d))
    row_alike (instrs.Cancel number) w w' h = times w w' h number None
    row_alike (instrs.Send l b n) w w' h = sending w w' h b n (link_at k links l)
    row_alike (instrs.Bcast b n) w w' h = sending w w' h b n links
    row_alike (instrs.Recvw a at) w w' h = sets_to w w' h a _ _ (pairs-get R (payload_of o) (payload_of o') at (k.word 0) (m.word 0) (payload_alike R C o o' mail) (keeps.word 0))
    row_alike (instrs.Add a b c) w w' h = operates ops.Add w w' h a b c
    row_alike (instrs.Sub a b c) w w' h = operates ops.Sub w w' h a b c
    row_alike (instrs.Mul a b c) w w' h = operates ops.Mul w w' h a b c
    row_alike (instrs.And a b c) w w' h = operates ops.And w w' h a b c
    row_alike (instrs.Or a b c) w w' h = operates ops.Or w w' h a b c
    row_alike (instrs.Xor a b c) w w' h = operates ops.Xor w w' h a b c
    row_alike (instrs.Shl a b c) w w' h = operates ops.Shl w w' h a b c
    row_alike (instrs.Shr a b c) w w' h = operates ops.Shr w w' h a b c
    row_alike (instrs.Sar a b c) w w' h = operates ops.Sar w w' h a b c
    row_alike (instrs.Udiv a b c) w w' h = operates ops.Udiv w w' h a b c
    row_alike (instrs.Urem a b c) w w' h = operates ops.Urem w w' h a b c
    row_alike (instrs.Eq a b c) w w' h = operates ops.Eq w w' h a b c
    row_alike (instrs.Ult a b c) w w' h = operates ops.Ult w w' h a b c
    row_alike (instrs.Slt a b c) w w' h = operates ops.Slt w w' h a b c
    row_alike (instrs.Rlen a) w w' h = sets_to w w' h a _ _ (subst (λ (n : ℕ). R (k.word (length (payload_of o))) (m.word n)) (pairs-length R (payload_of o) (payload_of o') (payload_alike R C o o' mail)) (keeps.word (length (payload_of o))))
    row_alike (instrs.Rfrom a) w w' h = sets_to w w' h a _ _ (subst (λ (n : ℕ). R (k.word (sender_of o)) (m.word n)) (sender_alike R C o o' mail) (keeps.word (sender_of o)))
    row_alike (instrs.Assert a) w w' h = ((holds_register w w' h a, refl), goes_on w w' h, fails Assert w w' h)
    row_alike (instrs.Node a) w w' h = sets_to w w' h a _ _ (keeps.word node)
    row_alike (instrs.Now a) w w' h = sets_to w w' h a _ _ (keeps.word tick)
    row_alike instrs.Ret w w' h = h
    row_alike instrs.Halt w w' h = ends Halted Halted refl w w' h

    pub at_alike : (w : Way V) (w' : Way W) → Ways w w' → Effects (effect_at k here w) (effect_at m there w')
    at_alike w w' h = subst (λ (n : ℕ). Effects (effect_at k here w) (effect_of m there w' (slice_get code.instrs n))) h.pc (go (slice_get code.instrs w.pc))
      where
        go : (i : Option Instr) → Effects (effect_of k here w i) (effect_of m there w' i)
        go None = h
        go (Some i) = row_alike i w w' h

    -- what goes on here goes on there
    abbrev Goes_alike : (Way V → List (Way V)) → (Way W → List (Way W)) → Type 0
    Goes_alike go go' = (w : Way V) (w' : Way W) → Ways w w' → OneByOne Ways (go w) (go' w')

    if_alike : (b c : Bool) → b ≡ c → (f : Way V → List (Way V)) (f' : Way W → List (Way W)) → Goes_alike f f' → Goes_alike (goes_if b f) (goes_if c f')
    if_alike true true e f f' g w w' h = g w w' h
    if_alike true false e f f' g w w' h = absurd cc
    if_alike false true e f f' g w w' h = absurd cc
    if_alike false false e f f' g w w' h = tt

    by_alike : (b c : Bool) → b ≡ c → (f j : Way V → List (Way V)) (f' j' : Way W → List (Way W)) (w : Way V) (w' : Way W)
        → OneByOne Ways (f w) (f' w') → OneByOne Ways (j w) (j' w') → OneByOne Ways (goes_by b f j w) (goes_by c f' j' w')
    by_alike true true e f j f' j' w w' h i = h
    by_alike true false e f j f' j' w w' h i = absurd cc
    by_alike false true e f j f' j' w w' h i = absurd cc
    by_alike false false e f j f' j' w w' h i = i

    pub decides : (bit b : Bool) (x : V) (x' : W) → R x x' → (w : Way V) (w' : Way W) → Ways w w' → Ways (decided k bit (record { value = x; truth = b }) w) (decided m bit (record { value = x'; truth = b }) w')
    decides bit b x x' r w w' h = record {
      state = h.state;
      pc = h.pc;
      bits = ap (λ (l : List Bool). l ++ bit ∷ []) h.bits;
      literals = keeps.join w.literals w'.literals _ _ h.literals (keeps.literal x x' b r);
      sends = h.sends;
    }

    sides_alike : (x : V) (x' : W) (b : Bool) → R x x' → (f j : Way V → List (Way V)) (f' j' : Way W → List (Way W)) (w v : Way V) (w' v' : Way W)
        → Ways w w' → Ways v v' → Goes_alike f f' → Goes_alike j j'
        → OneByOne Ways (splits k (record { value = x; truth = b }) f w j v) (splits m (record { value = x'; truth = b }) f' w' j' v')
    sides_alike x x' b r f j f' j' w v w' v' h i g q =
        pairs-append Ways _ _ _ _
        (if_alike _ _ (keeps.sides x x' b r) f f' g _ _ (decides false b x x' r w w' h))
        (if_alike _ _ (keeps.sides x x' (not b) r) j j' q _ _ (decides true (not b) x x' r v v' i))

    splits_alike : (l : Literal V) (l' : Literal W) → LiteralAlike R C l l' → (f j : Way V → List (Way V)) (f' j' : Way W → List (Way W)) (w v : Way V) (w' v' : Way W)
        → Ways w w' → Ways v v' → Goes_alike f f' → Goes_alike j j' → OneByOne Ways (splits k l f w j v) (splits m l' f' w' j' v')
    splits_alike l l' r f j f' j' w v w' v' h i g q =
        subst (λ (b : Bool). OneByOne Ways (splits k l f w j v) (splits m (record { value = l'.value; truth = b }) f' w' j' v')) r.1
        (sides_alike l.value l'.value l.truth r.0 f j f' j' w v w' v' h i g q)

    after_alike : (x : Effect V) (x' : Effect W) → Effects x x' → (f : Way V → List (Way V)) (f' : Way W → List (Way W)) → Goes_alike f f' → OneByOne Ways (after k x f) (after m x' f')
    after_alike (Goes w) (Goes w') h f f' g = g w w' h
    after_alike (Goes w) (Stops w') h f f' g = absurd h
    after_alike (Goes w) (Decides l' w' v') h f f' g = absurd h
    after_alike (Stops w) (Goes w') h f f' g = absurd h
    after_alike (Stops w) (Stops w') h f f' g = (h, tt)
    after_alike (Stops w) (Decides l' w' v') h f f' g = absurd h
    after_alike (Decides l w v) (Goes w') h f f' g = absurd h
    after_alike (Decides l w v) (Stops w') h f f' g = absurd h
    after_alike (Decides l w v) (Decides l' w' v') h f f' g = splits_alike l l' h.0 f f f' f' w v w' v' h.1 h.2 g g

    runs_on : (w : Way V) (w' : Way W) → Ways w w' → is_running w.state.outcome ≡ is_running w'.state.outcome
    runs_on w w' h = ap is_running h.state.outcome

    pub ways_alike : (n : ℕ) → Goes_alike (ways k here n) (ways m there n)
    ways_alike zero w w' h =
        by_alike _ _ (runs_on w w' h) (λ v. failed k here Fuel v ∷ []) (one_way k) (λ v. failed m there Fuel v ∷ []) (one_way m) w w' (fails Fuel w w' h, tt) (h, tt)
    ways_alike (suc n) w w' h =
        by_alike _ _ (runs_on w w' h) (λ v. after k (effect_at k here v) (ways k here n)) (one_way k) (λ v. after m (effect_at m there v) (ways m there n)) (one_way m) w w'
        (after_alike (effect_at k here w) (effect_at m there w') (at_alike w w' h) (ways k here n) (ways m there n) (ways_alike n)) (h, tt)

    from_alike : (i : Option ℕ) → Goes_alike (runs_from k here i) (runs_from m there i)
    from_alike None w w' h = (h, tt)
    from_alike (Some pc) w w' h = ways_alike fuel (record w { pc = pc }) (record w' { pc = pc }) (jumps pc w w' h)

    pub runs_alike : (handler : ℕ) → Goes_alike (runs k here handler) (runs m there handler)
    runs_alike handler = from_alike (slice_index_or code.handlers handler None)

    chooses_alike : (f j : Way V → List (Way V)) (f' j' : Way W → List (Way W)) → Goes_alike f f' → Goes_alike j j' → Goes_alike (chooses k here f j) (chooses m there f' j')
    chooses_alike f j f' j' g q w w' h =
        by_alike _ _ (ap (λ (n : ℕ). nat_eq n 65535) h.state.inputs)
        f (λ v. splits k (is_no k here v) f (counted k v) j (counted k v)) f' (λ v. splits m (is_no m there v) f' (counted m v) j' (counted m v)) w w' (g w w' h)
        (sides_alike (fresh_input k here w 1) (fresh_input m there w' 1) false (input_alike w w' h 1) f j f' j' (counted k w) (counted k w) (counted m w') (counted m w') (counts w w' h) (counts w w' h) g q)

    copies_alike : (p : Packet V) (p' : Packet W) → WaitsAlike R p p' → WaitsAlike R (record p { copy = 1; arrival = tick + 1 }) (record p' { copy = 1; arrival = tick + 1 })
    copies_alike p p' h = record { key = ap (λ (z : Key). record { arrival = tick + 1; from = z.from; seq = z.seq; copy = 1 }) h.key; payload = h.payload }

    pub doubles : (p : Packet V) (p' : Packet W) → WaitsAlike R p p' → (w : Way V) (w' : Way W) → Ways w w' → Ways (doubled k here p w) (doubled m there p' w')
    doubles p p' r w w' h =
        let s = h.state in
        with_state w w' h (doubled k here p w).state (doubled m there p' w').state (record {
          trace = s.trace;
          outcome = s.outcome;
          timers = s.timers;
          inputs = s.inputs;
          sent = s.sent;
          losses = s.losses;
          duplications = ap (λ (n : ℕ). n - 1) s.duplications;
          booted = s.booted;
          reboots = s.reboots;
          registers = s.registers;
          memory = s.memory;
          queue = pairs-put (WaitsAlike R) packet_le packet_le (λ u v x y r q. order_alike R C u v x y r q) (record p { copy = 1; arrival = tick + 1 }) (record p' { copy = 1; arrival = tick + 1 }) w.state.queue w'.state.queue (copies_alike p p' r) s.queue;
          own = s.own;
        })

    pub arrives_alike : (p : Packet V) (p' : Packet W) → WaitsAlike R p p' → Goes_alike (arrives k here p) (arrives m there p')
    arrives_alike p p' r w w' h =
        by_alike _ _
        (ap (λ (z : Key). nat_eq z.copy 0 && not (nat_eq w.state.duplications 0)) r.key ∙ ap (λ (n : ℕ). nat_eq p'.copy 0 && not (nat_eq n 0)) h.state.duplications)
        (chooses k here (runs k here 1) (λ v. runs k here 1 (doubled k here p v))) (runs k here 1) (chooses m there (runs m there 1) (λ v. runs m there 1 (doubled m there p' v))) (runs m there 1) w w'
        (chooses_alike (runs k here 1) (λ v. runs k here 1 (doubled k here p v)) (runs m there 1) (λ v. runs m there 1 (doubled m there p' v)) (runs_alike 1)
        (λ v v' i. runs_alike 1 (doubled k here p v) (doubled m there p' v') (doubles p p' r v v' i)) w w' h)
        (runs_alike 1 w w' h)

    comes_alike : (p : Option (Packet V)) (p' : Option (Packet W)) → MailAlike R C p p' → Goes_alike (comes k here p) (comes m there p')
    comes_alike None None r w w' h = (h, tt)
    comes_alike None (Some q) r w w' h = absurd r
    comes_alike (Some p) None r w w' h = absurd r
    comes_alike (Some p) (Some p') r w w' h =
        by_alike _ _ (ap (λ (n : ℕ). nat_eq n 0) h.state.losses)
        (arrives k here p) (chooses k here (arrives k here p) (λ v. with_loss k v ∷ [])) (arrives m there p') (chooses m there (arrives m there p') (λ v. with_loss m v ∷ [])) w w'
        (arrives_alike p p' r w w' h)
        (chooses_alike (arrives k here p) (λ v. with_loss k v ∷ []) (arrives m there p') (λ v. with_loss m v ∷ []) (arrives_alike p p' r) (λ v v' i. (loses v v' i, tt)) w w' h)

    pub event_alike : (e : Event) → Goes_alike (event_ways k here e) (event_ways m there e)
    event_alike Boot = runs_alike 0
    event_alike Reboot =
        chooses_alike (one_way k) (λ v. runs k here 0 (cleared k v)) (one_way m) (λ v. runs m there 0 (cleared m v)) (λ w w' h. (h, tt)) (λ v v' i. runs_alike 0 (cleared k v) (cleared m v') (clears v v' i))
    event_alike (Mail from seq copy) = comes_alike o o' mail
    event_alike (Timer number) = runs_alike (2 + number)

  -- a whole event
  pub begins : (t : ℕ) (e : Event) (s : State V) (s' : State W) → States s s' → States (begun k t e s) (begun m t e s')
  begins t Boot s s' h = record {
    trace = h.trace;
    outcome = h.outcome;
    timers = h.timers;
    inputs = h.inputs;
    sent = h.sent;
    losses = h.losses;
    duplications = h.duplications;
    booted = refl;
    reboots = h.reboots;
    registers = h.registers;
    memory = h.memory;
    queue = h.queue;
    own = h.own;
  }
  begins t Reboot s s' h = record {
    trace = h.trace;
    outcome = h.outcome;
    timers = h.timers;
    inputs = h.inputs;
    sent = h.sent;
    losses = h.losses;
    duplications = h.duplications;
    booted = h.booted;
    reboots = ap (λ (l : List ℕ). filter (λ x. not (nat_eq x t)) l) h.reboots;
    registers = h.registers;
    memory = h.memory;
    queue = h.queue;
    own = h.own;
  }
  begins t (Mail from seq copy) s s' h = set_queue s s' h (without_first t s.queue) (without_first t s'.queue) (others_alike R C t s.queue s'.queue h.queue)
  begins t (Timer number) s s' h = set_timers s s' h (slice_set s.timers number None) (slice_set s'.timers number None) (ap (λ (l : List (Option ℕ)). slice_set l number None) h.timers)

  pub mails : (t : ℕ) (e : Event) (s : State V) (s' : State W) → States s s' → MailAlike R C (mail_in k e t s) (mail_in m e t s')
  mails t Boot s s' h = tt
  mails t Reboot s s' h = tt
  mails t (Mail from seq copy) s s' h = first_alike R C t s.queue s'.queue h.queue
  mails t (Timer number) s s' h = tt

  pub path_alike : (w : Way V) (w' : Way W) → Ways w w' → PathAlike R C (path_of k w) (path_of m w')
  path_alike w w' h =
      let s = h.state in
      record {
        bits = h.bits;
        literals = keeps.told w.literals w'.literals h.literals;
        state = record {
          trace = ap (λ (l : List Bool). l ++ w.bits) s.trace ∙ ap (λ (l : List Bool). w'.state.trace ++ l) h.bits;
          outcome = s.outcome;
          timers = s.timers;
          inputs = s.inputs;
          sent = s.sent;
          losses = s.losses;
          duplications = s.duplications;
          booted = s.booted;
          reboots = s.reboots;
          registers = s.registers;
          memory = s.memory;
          queue = s.queue;
          own = keeps.joined w.state.own w'.state.own w.literals w'.literals s.own h.literals;
        };
        sends = h.sends;
      }

  -- The ways of an event from alike states, and its paths, are alike, one by one in order.
  pub all_ways_alike : (net : Network) (n t : ℕ) (e : Event) (s : State V) (s' : State W) → States s s'
      → OneByOne Ways (event_ways k (here_at k net n t e s) e (first_way k (begun k t e s))) (event_ways m (here_at m net n t e s') e (first_way m (begun m t e s')))
  all_ways_alike net n t e s s' h =
      let place = here_at k net n t e s in
      let place' = here_at m net n t e s' in
      event_alike n t place.code place.links net.limits.fuel place.mail place'.mail (mails t e s s' h) e (first_way k (begun k t e s)) (first_way m (begun m t e s'))
      (record { state = begins t e s s' h; pc = refl; bits = refl; literals = keeps.nothing; sends = tt })

  pub paths_alike : (net : Network) (n t : ℕ) (e : Event) (s : State V) (s' : State W) → States s s' → OneByOne (PathAlike R C) (event_paths k net n t e s) (event_paths m net n t e s')
  paths_alike net n t e s s' h =
      pairs-map Ways (PathAlike R C) (path_of k) (path_of m) path_alike (event_ways k (here_at k net n t e s) e (first_way k (begun k t e s))) (event_ways m (here_at m net n t e s') e (first_way m (begun m t e s'))) (all_ways_alike net n t e s s' h)
