-- Packets that come in a later tick change no path of this one, and travel along.
use Rattle.std.proofs.Common.{◌≡◌, ℕ, zero, suc, ◌+◌, ◌<◌, Bool, true, false, cond, List, [], ◌∷◌, ◌++◌, map, length, Option, Some, None, refl, sym, ap, ◌∙◌, arith}
use Rattle.std.specs.Prelude.{slice_get, slice_index_or, nat_eq, nat_lt, not, ◌&&◌}
use Rattle.std.specs.List.{AllByRecursion}
use Rattle.std.proofs.lemmas.List.{map-append}
use Rattle.std.proofs.lemmas.Bool.{ne_eqb, le-ltb, eqb-true}
use Rattle.kn_code.specs.declared.program.Instr.{Instr}
use Rattle.kn_code.specs.declared.program.Instr.TheVariants as instrs
use Rattle.kn_model.specs.Values.{Literal, Values, negated}
use Rattle.kn_packet.specs.declared.packet.Event.{Event}
use Rattle.kn_packet.specs.declared.packet.Event.TheVariants.{Boot, Reboot, Packet as Mail, Timer}
use Rattle.kn_model.specs.Packets.{Packet, put_in, put_all, packet_le, first_at, without_first}
use Rattle.kn_model.specs.Nodes.{State, Fuel, is_running}
use Rattle.kn_model.specs.Nets.{Network, Link}
use Rattle.kn_model.specs.Due.{due, is_open, boot_due, has, or_else, mail_of, timer_from}
use Rattle.kn_model.specs.Rows.{Here, Way, Effect, Goes, Stops, Decides, effect, with_register, failed, next, counted, fresh_input, sent_on, sent_over, sends_over, link_at, span}
use Rattle.kn_model.specs.Paths.{Path, goes_if, goes_by, decided, splits, after, one_way, effect_of, effect_at, ways, runs_from, runs, chooses, is_no, cleared, with_loss, doubled, arrives, comes, begun, event_ways, mail_in, here_at, first_way, path_of, event_paths}
use Rattle.kn_model.proofs.Posting.{Apart, post-after_all}
use Rattle.kn_model.proofs.Keys.{packets_order, one_key}

-- a packet that a node sent in this tick: it is no copy, and comes later
abbrev pub IsLater : {V : Type 0} → ℕ → Packet V → Type 0
IsLater t p = (t < p.arrival) × (p.copy ≡ 0)

abbrev pub state_with : {V : Type 0} → List (Packet V) → State V → State V
state_with ps s = record s { queue = put_all packet_le ps s.queue }

abbrev with : {V : Type 0} → List (Packet V) → Way V → Way V
with ps w = record w { state = state_with ps w.state }

abbrev effect_with : {V : Type 0} → List (Packet V) → Effect V → Effect V
effect_with ps (Goes w) = Goes (with ps w)
effect_with ps (Stops w) = Stops (with ps w)
effect_with ps (Decides l w v) = Decides l (with ps w) (with ps v)

abbrev pub path_with : {V : Type 0} → List (Packet V) → Path V → Path V
path_with ps p = record p { state = state_with ps p.state }

module _ {V : Type 0} (k : Values V) (here : Here V) (ps : List (Packet V)) where
  sent_along : (words : List V) (ls : List Link) (w : Way V) → sent_over k here words ls (with ps w) ≡ with ps (sent_over k here words ls w)
  sent_along words [] w = refl
  sent_along words (l ∷ ls) w = sent_along words ls (sent_on k here words l w)

  either_along : (b : Bool) (x y : Effect V) → effect_with ps (cond b x y) ≡ cond b (effect_with ps x) (effect_with ps y)
  either_along true x y = refl
  either_along false x y = refl

  sends_along : (w : Way V) (b n : ℕ) (ls : List Link) → sends_over k here (with ps w) b n ls ≡ effect_with ps (sends_over k here w b n ls)
  sends_along w b n ls =
      ap (λ (v : Way V). cond (nat_lt 65535 (w.state.sent + length ls)) (Stops (failed k here Fuel (with ps w))) (Goes (next k v))) (sent_along (span k w.state.registers b n) ls w)
      ∙ sym (either_along (nat_lt 65535 (w.state.sent + length ls)) (Stops (failed k here Fuel w)) (Goes (next k (sent_over k here (span k w.state.registers b n) ls w))))

  row_along : (i : Instr) (w : Way V) → effect k here i (with ps w) ≡ effect_with ps (effect k here i w)
  row_along (instrs.Const a n) w = refl
  row_along (instrs.Mov a b) w = refl
  row_along (instrs.Not a b) w = refl
  row_along (instrs.Ld a m) w = refl
  row_along (instrs.St m a) w = refl
  row_along (instrs.Ldx a b m n) w = refl
  row_along (instrs.Stx a b m n) w = refl
  row_along (instrs.Jmp to) w = refl
  row_along (instrs.Brz a to) w = refl
  row_along (instrs.Input a width) w =
      sym (either_along (nat_eq w.state.inputs 65535) (Stops (failed k here Fuel w)) (Goes (next k (counted k (with_register k w a (fresh_input k here w width))))))
  row_along (instrs.Timer number d) w = refl
  row_along (instrs.Cancel number) w = refl
  row_along (instrs.Send l b n) w = sends_along w b n (link_at k here.links l)
  row_along (instrs.Bcast b n) w = sends_along w b n here.links
  row_along (instrs.Recvw a place) w = refl
  row_along (instrs.Add a b c) w = refl
  row_along (instrs.Sub a b c) w = refl
  row_along (instrs.Mul a b c) w = refl
  row_along (instrs.And a b c) w = refl
  row_along (instrs.Or a b c) w = refl
  row_along (instrs.Xor a b c) w = refl
  row_along (instrs.Shl a b c) w = refl
  row_along (instrs.Shr a b c) w = refl
  row_along (instrs.Sar a b c) w = refl
  row_along (instrs.Udiv a b c) w = refl
  row_along (instrs.Urem a b c) w = refl
  row_along (instrs.Eq a b c) w = refl
  row_along (instrs.Ult a b c) w = refl
  row_along (instrs.Slt a b c) w = refl
  row_along (instrs.Rlen a) w = refl
  row_along (instrs.Rfrom a) w = refl
  row_along (instrs.Assert a) w = refl
  row_along (instrs.Node a) w = refl
  row_along (instrs.Now a) w = refl
  row_along instrs.Ret w = refl
  row_along instrs.Halt w = refl

  at_along : (w : Way V) → effect_at k here (with ps w) ≡ effect_with ps (effect_at k here w)
  at_along w = go (slice_get here.code.instrs w.pc)
    where
      go : (o : Option Instr) → effect_of k here (with ps w) o ≡ effect_with ps (effect_of k here w o)
      go None = refl
      go (Some i) = row_along i w

  -- what goes on does not see the packets
  abbrev Goes_along : (Way V → List (Way V)) → Type 0
  Goes_along go = (w : Way V) → go (with ps w) ≡ map (with ps) (go w)

  if_along : (b : Bool) (go : Way V → List (Way V)) (w : Way V) → Goes_along go → goes_if b go (with ps w) ≡ map (with ps) (goes_if b go w)
  if_along true go w h = h w
  if_along false go w h = refl

  by_along : (b : Bool) (f g : Way V → List (Way V)) (w : Way V) → f (with ps w) ≡ map (with ps) (f w) → g (with ps w) ≡ map (with ps) (g w) → goes_by b f g (with ps w) ≡ map (with ps) (goes_by b f g w)
  by_along true f g w h i = h
  by_along false f g w h i = i

  splits_along : (l : Literal V) (go : Way V → List (Way V)) (w : Way V) (on : Way V → List (Way V)) (v : Way V) → Goes_along go → Goes_along on → splits k l go (with ps w) on (with ps v) ≡ map (with ps) (splits k l go w on v)
  splits_along l go w on v h i =
      ap (λ (xs : List (Way V)). xs ++ goes_if (k.can_hold (negated l)) on (decided k true (negated l) (with ps v))) (if_along (k.can_hold l) go (decided k false l w) h)
      ∙ (ap (λ (xs : List (Way V)). map (with ps) (goes_if (k.can_hold l) go (decided k false l w)) ++ xs) (if_along (k.can_hold (negated l)) on (decided k true (negated l) v) i)
      ∙ sym (map-append (with ps) (goes_if (k.can_hold l) go (decided k false l w)) (goes_if (k.can_hold (negated l)) on (decided k true (negated l) v))))

  after_along : (x : Effect V) (go : Way V → List (Way V)) → Goes_along go → after k (effect_with ps x) go ≡ map (with ps) (after k x go)
  after_along (Goes w) go h = h w
  after_along (Stops w) go h = refl
  after_along (Decides l w v) go h = splits_along l go w go v h h

  ways_along : (fuel : ℕ) → Goes_along (ways k here fuel)
  ways_along zero w = by_along (is_running w.state.outcome) (λ v. failed k here Fuel v ∷ []) (one_way k) w refl refl
  ways_along (suc fuel) w =
      by_along (is_running w.state.outcome) (λ v. after k (effect_at k here v) (ways k here fuel)) (one_way k) w
      (ap (λ (x : Effect V). after k x (ways k here fuel)) (at_along w) ∙ after_along (effect_at k here w) (ways k here fuel) (ways_along fuel)) refl

  from_along : (o : Option ℕ) → Goes_along (runs_from k here o)
  from_along None w = refl
  from_along (Some pc) w = ways_along here.fuel (record w { pc = pc })

  runs_along : (handler : ℕ) → Goes_along (runs k here handler)
  runs_along handler w = from_along (slice_index_or here.code.handlers handler None) w

  chooses_along : (stays takes : Way V → List (Way V)) → Goes_along stays → Goes_along takes → Goes_along (chooses k here stays takes)
  chooses_along stays takes h i w =
      by_along (nat_eq w.state.inputs 65535) stays (λ v. splits k (is_no k here v) stays (counted k v) takes (counted k v)) w (h w)
      (splits_along (is_no k here w) stays (counted k w) takes (counted k w) h i)

  -- copy 1 has another key than what a node sends
  copy_apart : (q : Packet V) → (qs : List (Packet V)) → AllByRecursion (IsLater here.tick) qs → AllByRecursion (λ p. Apart packet_le p (record q { copy = 1; arrival = here.tick + 1 })) qs
  copy_apart q [] a = tt
  copy_apart q (p ∷ qs) a =
      (λ x y. let both = one_key p (record q { copy = 1; arrival = here.tick + 1 }) x y in let e = both.1 in let z = a.0.1 in let wrong : 0 ≡ 1 = sym z ∙ e in absurd (omega (arith, wrong)), copy_apart q qs a.1)

  module _ (later : AllByRecursion (IsLater here.tick) ps) where
    double_along : (q : Packet V) (w : Way V) → doubled k here q (with ps w) ≡ with ps (doubled k here q w)
    double_along q w =
        ap (λ (qs : List (Packet V)). record w { state = record w.state { duplications = (doubled k here q w).state.duplications; queue = qs } })
        (sym (post-after_all packet_le packets_order (record q { copy = 1; arrival = here.tick + 1 }) ps w.state.queue (copy_apart q ps later)))

    doubles_along : (q : Packet V) → Goes_along (λ v. runs k here 1 (doubled k here q v))
    doubles_along q w = ap (runs k here 1) (double_along q w) ∙ runs_along 1 (doubled k here q w)

    arrives_along : (q : Packet V) → Goes_along (arrives k here q)
    arrives_along q w =
        by_along (nat_eq q.copy 0 && not (nat_eq w.state.duplications 0)) (chooses k here (runs k here 1) (λ v. runs k here 1 (doubled k here q v))) (runs k here 1) w
        (chooses_along (runs k here 1) (λ v. runs k here 1 (doubled k here q v)) (runs_along 1) (doubles_along q) w) (runs_along 1 w)

    comes_along : (o : Option (Packet V)) → Goes_along (comes k here o)
    comes_along None w = refl
    comes_along (Some q) w =
        by_along (nat_eq w.state.losses 0) (arrives k here q) (chooses k here (arrives k here q) (λ v. with_loss k v ∷ [])) w (arrives_along q w)
        (chooses_along (arrives k here q) (λ v. with_loss k v ∷ []) (arrives_along q) (λ v. refl) w)

    event_along : (e : Event) → Goes_along (event_ways k here e)
    event_along Boot w = runs_along 0 w
    event_along Reboot w = chooses_along (one_way k) (λ v. runs k here 0 (cleared k v)) (λ v. refl) (λ v. runs_along 0 (cleared k v)) w
    event_along (Mail from seq copy) w = comes_along here.mail w
    event_along (Timer number) w = runs_along (2 + number) w

pub not_at : {V : Type 0} (t : ℕ) (p : Packet V) → IsLater t p → nat_eq p.arrival t ≡ false
not_at t p a = let h = a.0 in ne_eqb p.arrival t (λ e. omega (arith, h, e))

-- the first packet of the tick is the same, and the others are
first_put : {V : Type 0} (t : ℕ) (p : Packet V) → nat_eq p.arrival t ≡ false → (q : List (Packet V)) → first_at t (put_in packet_le p q) ≡ first_at t q
first_put t p e [] = rw e refl
first_put {V} t p e (x ∷ q) = go (packet_le p x) (first_put t p e q)
  where
    go : (b : Bool) → first_at t (put_in packet_le p q) ≡ first_at t q → first_at t (cond b (p ∷ x ∷ q) (x ∷ put_in packet_le p q)) ≡ first_at t (x ∷ q)
    go true h = rw e refl
    go false h = ap (λ (o : Option (Packet V)). cond (nat_eq x.arrival t) (Some x) o) h

pub first_along : {V : Type 0} (t : ℕ) (ps q : List (Packet V)) → AllByRecursion (IsLater t) ps → first_at t (put_all packet_le ps q) ≡ first_at t q
first_along t [] q a = refl
first_along t (p ∷ ps) q a = first_along t ps (put_in packet_le p q) a.1 ∙ first_put t p (not_at t p a.0) q

pub due_along : {V : Type 0} (ticks t : ℕ) (ps : List (Packet V)) (s : State V) → AllByRecursion (IsLater t) ps → due ticks t (state_with ps s) ≡ due ticks t s
due_along {V} ticks t ps s a =
    ap (λ (o : Option (Packet V)). cond (is_open ticks t s) (or_else (cond (boot_due t s) (Some Boot) None) (or_else (cond (has t s.reboots) (Some Reboot) None) (or_else (mail_of o) (timer_from t 0 s.timers)))) None) (first_along t ps s.queue a)

-- a packet that comes later stands behind one that comes now
behind : {V : Type 0} (t : ℕ) (p x : Packet V) → IsLater t p → nat_eq x.arrival t ≡ true → packet_le p x ≡ false
behind t p x a e =
    let same = eqb-true x.arrival t e in
    let h = a.0 in
    let less : nat_lt p.arrival x.arrival ≡ false = le-ltb p.arrival x.arrival (omega (arith, h, same)) in
    let other : nat_eq p.arrival x.arrival ≡ false = ne_eqb p.arrival x.arrival (λ z. omega (arith, h, same, z)) in
    rw (less, other) refl

without_put : {V : Type 0} (t : ℕ) (p : Packet V) → IsLater t p → (q : List (Packet V)) → without_first t (put_in packet_le p q) ≡ put_in packet_le p (without_first t q)
without_put t p a [] = rw (not_at t p a) refl
without_put {V} t p a (x ∷ q) = go (nat_eq x.arrival t) refl (without_put t p a q)
  where
    here_put : (b : Bool) → nat_eq x.arrival t ≡ false → without_first t (put_in packet_le p q) ≡ put_in packet_le p (without_first t q)
        → without_first t (cond b (p ∷ x ∷ q) (x ∷ put_in packet_le p q)) ≡ cond b (p ∷ x ∷ without_first t q) (x ∷ put_in packet_le p (without_first t q))
    here_put true is h = rw (not_at t p a, is) refl
    here_put false is h = rw is (ap (λ (l : List (Packet V)). x ∷ l) h)

    go : (b : Bool) → nat_eq x.arrival t ≡ b → without_first t (put_in packet_le p q) ≡ put_in packet_le p (without_first t q)
        → without_first t (put_in packet_le p (x ∷ q)) ≡ put_in packet_le p (without_first t (x ∷ q))
    go true is h = rw (behind t p x a is, is) refl
    go false is h = rw is (here_put (packet_le p x) is h)

without_along : {V : Type 0} (t : ℕ) (ps q : List (Packet V)) → AllByRecursion (IsLater t) ps → without_first t (put_all packet_le ps q) ≡ put_all packet_le ps (without_first t q)
without_along t [] q a = refl
without_along t (p ∷ ps) q a = without_along t ps (put_in packet_le p q) a.1 ∙ ap (put_all packet_le ps) (without_put t p a.0 q)

map_both : {A B : Type 0} (f : A → B) (g : A → A) (h : B → B) → ((x : A) → f (g x) ≡ h (f x)) → (xs : List A) → map f (map g xs) ≡ map h (map f xs)
map_both f g h e [] = refl
map_both f g h e (x ∷ xs) = rw (e x, map_both f g h e xs) refl

module _ {V : Type 0} (k : Values V) (net : Network) (n t : ℕ) (ps : List (Packet V)) (later : AllByRecursion (IsLater t) ps) where
  begun_along : (e : Event) (s : State V) → begun k t e (state_with ps s) ≡ state_with ps (begun k t e s)
  begun_along Boot s = refl
  begun_along Reboot s = refl
  begun_along (Mail from seq copy) s = ap (λ (q : List (Packet V)). record s { queue = q }) (without_along t ps s.queue later)
  begun_along (Timer number) s = refl

  mail_along : (e : Event) (s : State V) → mail_in k e t (state_with ps s) ≡ mail_in k e t s
  mail_along Boot s = refl
  mail_along Reboot s = refl
  mail_along (Mail from seq copy) s = first_along t ps s.queue later
  mail_along (Timer number) s = refl

  -- the paths are the same, with the packets in their queues
  pub paths_along : (e : Event) (s : State V) → event_paths k net n t e (state_with ps s) ≡ map (path_with ps) (event_paths k net n t e s)
  paths_along e s =
      let here = here_at k net n t e s in
      ap (λ (o : Option (Packet V)). map (path_of k) (event_ways k (record here { mail = o }) e (first_way k (begun k t e (state_with ps s))))) (mail_along e s)
      ∙ (ap (λ (x : State V). map (path_of k) (event_ways k here e (first_way k x))) (begun_along e s)
      ∙ (ap (map (path_of k)) (event_along k here ps later e (first_way k (begun k t e s)))
      ∙ map_both (path_of k) (with ps) (path_with ps) (λ w. refl) (event_ways k here e (first_way k (begun k t e s)))))
