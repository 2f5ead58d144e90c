-- What each step of a way keeps, all ways through an event have.
use Rattle.std.proofs.Common.{◌≡◌, ℕ, zero, suc, ◌+◌, ◌≤◌, Bool, true, false, cond, List, [], ◌∷◌, length, drop, Option, Some, None, refl}
use Rattle.std.specs.Prelude.{slice_get, slice_index_or, nat_eq, nat_lt, not, ◌&&◌}
use Rattle.std.specs.List.{AllByRecursion}
use Rattle.kn_code.specs.declared.program.Instr.{Instr}
use Rattle.kn_code.specs.declared.program.Instr.TheVariants as instrs
use Rattle.kn_model.specs.Values.{Literal, Values, negated}
use Rattle.kn_packet.specs.declared.packet.Event.{Event}
use Rattle.kn_packet.specs.declared.packet.Event.TheVariants.{Boot, Reboot, Packet as Mail, Timer}
use Rattle.kn_model.specs.Packets.{Packet}
use Rattle.kn_model.specs.Nodes.{Outcome, Halted, Failed, FailKind, Assert, Bounds, Fuel, is_running}
use Rattle.kn_model.specs.Nets.{Link}
use Rattle.kn_model.specs.Rows.{Here, Way, Effect, Goes, Stops, Decides, effect, with_register, with_memory, with_timer, with_outcome, failed, next, counted, sent_on, sent_over, sends_over, link_at, span, fresh_input}
use Rattle.kn_model.specs.Paths.{goes_if, goes_by, decided, splits, after, one_way, effect_of, effect_at, ways, runs_from, runs, chooses, is_no, cleared, with_loss, doubled, arrives, comes, event_ways}
use Rattle.kn_model.specs.Laws.{SetsLater}
use Rattle.kn_model.proofs.Lists.{all-append, all-drop, all-take, all-get}

-- each change that an instruction or a choice makes keeps P; that a decision keeps it is asked for apart
pub record Kept {V : Type 0} (k : Values V) (here : Here V) (P : Way V → Type 0) : Type 0 where
  pub registers : (w : Way V) (a : ℕ) (x : V) → P w → P (with_register k w a x)
  pub memory : (w : Way V) (ms : List V) → P w → P (with_memory k w ms)
  pub timer : (w : Way V) (number d : ℕ) → 1 ≤ d → P w → P (with_timer k w number (Some (here.tick + d)))
  pub cancel : (w : Way V) (number : ℕ) → P w → P (with_timer k w number None)
  pub place : (w : Way V) (pc : ℕ) → P w → P (record w { pc = pc })
  pub outcome : (w : Way V) (o : Outcome) → P w → P (with_outcome k w o)
  pub count : (w : Way V) → P w → P (counted k w)
  pub sent : (w : Way V) (words : List V) (l : Link) → 1 ≤ l.delay → P w → P (sent_on k here words l w)
  pub clear : (w : Way V) → P w → P (cleared k w)
  pub loss : (w : Way V) → P w → P (with_loss k w)
  pub double : (p : Packet V) (w : Way V) → P w → P (doubled k here p w)

-- what is said of a way's bits, literals, trace and own condition alone is kept: only decisions change these
pub kept_by : {V : Type 0} (k : Values V) (here : Here V) (Q : List Bool → List (Literal V) → List Bool → List (Literal V) → Type 0) → Kept k here (λ w. Q w.bits w.literals w.state.trace w.state.own)
kept_by k here Q = record {
  registers = λ w a x h. h;
  memory = λ w ms h. h;
  timer = λ w number d later h. h;
  cancel = λ w number h. h;
  place = λ w pc h. h;
  outcome = λ w o h. h;
  count = λ w h. h;
  sent = λ w words l later h. h;
  clear = λ w h. h;
  loss = λ w h. h;
  double = λ p w h. h;
}

-- what the network promises of where an event runs
pub record IsHere {V : Type 0} (here : Here V) : Type 0 where
  pub delays : AllByRecursion (λ (l : Link). 1 ≤ l.delay) here.links
  pub timers : AllByRecursion SetsLater here.code.instrs

module _ {V : Type 0} (k : Values V) (here : Here V) (P : Way V → Type 0) (keeps : Kept k here P) (good : IsHere here) where
  abbrev pub Each : Effect V → Type 0
  Each (Goes w) = P w
  Each (Stops w) = P w
  Each (Decides l w v) = P w × P v

  nexts : (w : Way V) → P w → P (next k w)
  nexts w p = keeps.place w (w.pc + 1) p

  fails : (kind : FailKind) (w : Way V) → P w → P (failed k here kind w)
  fails kind w p = keeps.outcome w (Failed kind w.pc here.tick) p

  setting : (w : Way V) (a : ℕ) (x : V) → P w → P (next k (with_register k w a x))
  setting w a x p = nexts (with_register k w a x) (keeps.registers w a x p)

  sent_all : (words : List V) (ls : List Link) (w : Way V) → AllByRecursion (λ (l : Link). 1 ≤ l.delay) ls → P w → P (sent_over k here words ls w)
  sent_all words [] w d p = p
  sent_all words (l ∷ ls) w d p = sent_all words ls (sent_on k here words l w) d.1 (keeps.sent w words l d.0 p)

  each_if : (b : Bool) (x y : Effect V) → Each x → Each y → Each (cond b x y)
  each_if true x y p q = p
  each_if false x y p q = q

  sending : (w : Way V) (b n : ℕ) (ls : List Link) → AllByRecursion (λ (l : Link). 1 ≤ l.delay) ls → P w → Each (sends_over k here w b n ls)
  sending w b n ls d p =
      each_if (nat_lt 65535 (w.state.sent + length ls)) (Stops (failed k here Fuel w)) (Goes (next k (sent_over k here (span k w.state.registers b n) ls w)))
      (fails Fuel w p) (nexts (sent_over k here (span k w.state.registers b n) ls w) (sent_all (span k w.state.registers b n) ls w d p))

  row_keeps : (i : Instr) (w : Way V) → SetsLater i → P w → Each (effect k here i w)
  row_keeps (instrs.Const a n) w s p = setting w a _ p
  row_keeps (instrs.Mov a b) w s p = setting w a _ p
  row_keeps (instrs.Not a b) w s p = setting w a _ p
  row_keeps (instrs.Ld a m) w s p = setting w a _ p
  row_keeps (instrs.St m a) w s p = nexts (with_memory k w _) (keeps.memory w _ p)
  row_keeps (instrs.Ldx a b m n) w s p = (setting w a _ p, fails Bounds w p)
  row_keeps (instrs.Stx a b m n) w s p = (nexts (with_memory k w _) (keeps.memory w _ p), fails Bounds w p)
  row_keeps (instrs.Jmp to) w s p = keeps.place w to p
  row_keeps (instrs.Brz a to) w s p = (nexts w p, keeps.place w to p)
  row_keeps (instrs.Input a width) w s p =
      each_if (nat_eq w.state.inputs 65535) (Stops (failed k here Fuel w)) (Goes (next k (counted k (with_register k w a (fresh_input k here w width)))))
      (fails Fuel w p) (nexts (counted k (with_register k w a (fresh_input k here w width))) (keeps.count (with_register k w a (fresh_input k here w width)) (keeps.registers w a (fresh_input k here w width) p)))
  row_keeps (instrs.Timer number d) w s p = nexts (with_timer k w number (Some (here.tick + d))) (keeps.timer w number d s p)
  row_keeps (instrs.Cancel number) w s p = nexts (with_timer k w number None) (keeps.cancel w number p)
  row_keeps (instrs.Send l b n) w s p = sending w b n (link_at k here.links l) (all-take (λ (l : Link). 1 ≤ l.delay) 1 (drop l here.links) (all-drop (λ (l : Link). 1 ≤ l.delay) l here.links good.delays)) p
  row_keeps (instrs.Bcast b n) w s p = sending w b n here.links good.delays p
  row_keeps (instrs.Recvw a place) w s p = setting w a _ p
  row_keeps (instrs.Add a b c) w s p = setting w a _ p
  row_keeps (instrs.Sub a b c) w s p = setting w a _ p
  row_keeps (instrs.Mul a b c) w s p = setting w a _ p
  row_keeps (instrs.And a b c) w s p = setting w a _ p
  row_keeps (instrs.Or a b c) w s p = setting w a _ p
  row_keeps (instrs.Xor a b c) w s p = setting w a _ p
  row_keeps (instrs.Shl a b c) w s p = setting w a _ p
  row_keeps (instrs.Shr a b c) w s p = setting w a _ p
  row_keeps (instrs.Sar a b c) w s p = setting w a _ p
  row_keeps (instrs.Udiv a b c) w s p = setting w a _ p
  row_keeps (instrs.Urem a b c) w s p = setting w a _ p
  row_keeps (instrs.Eq a b c) w s p = setting w a _ p
  row_keeps (instrs.Ult a b c) w s p = setting w a _ p
  row_keeps (instrs.Slt a b c) w s p = setting w a _ p
  row_keeps (instrs.Rlen a) w s p = setting w a _ p
  row_keeps (instrs.Rfrom a) w s p = setting w a _ p
  row_keeps (instrs.Assert a) w s p = (nexts w p, fails Assert w p)
  row_keeps (instrs.Node a) w s p = setting w a _ p
  row_keeps (instrs.Now a) w s p = setting w a _ p
  row_keeps instrs.Ret w s p = p
  row_keeps instrs.Halt w s p = keeps.outcome w Halted p

  pub at_keeps : (w : Way V) → P w → Each (effect_at k here w)
  at_keeps w p = go (slice_get here.code.instrs w.pc) refl
    where
      go : (o : Option Instr) → slice_get here.code.instrs w.pc ≡ o → Each (effect_of k here w o)
      go None e = p
      go (Some i) e = row_keeps i w (all-get SetsLater here.code.instrs w.pc i good.timers e) p

module _ {V : Type 0} (k : Values V) (here : Here V) (P : Way V → Type 0) (keeps : Kept k here P) (good : IsHere here) (decides : (b : Bool) (l : Literal V) (w : Way V) → P w → P (decided k b l w)) where
  abbrev All : List (Way V) → Type 0
  All ws = AllByRecursion P ws

  all_if : (b : Bool) (go : Way V → List (Way V)) (w : Way V) → All (go w) → All (goes_if b go w)
  all_if true go w p = p
  all_if false go w p = tt

  all_by : (b : Bool) (f g : Way V → List (Way V)) (w : Way V) → All (f w) → All (g w) → All (goes_by b f g w)
  all_by true f g w p q = p
  all_by false f g w p q = q

  all_splits : (l : Literal V) (go : Way V → List (Way V)) (w : Way V) (on : Way V → List (Way V)) (v : Way V) → P w → P v
      → ((u : Way V) → P u → All (go u)) → ((u : Way V) → P u → All (on u)) → All (splits k l go w on v)
  all_splits l go w on v p q x y =
      all-append P (goes_if (k.can_hold l) go (decided k false l w)) (goes_if (k.can_hold (negated l)) on (decided k true (negated l) v))
      (all_if (k.can_hold l) go (decided k false l w) (x (decided k false l w) (decides false l w p)))
      (all_if (k.can_hold (negated l)) on (decided k true (negated l) v) (y (decided k true (negated l) v) (decides true (negated l) v q)))

  all_after : (x : Effect V) (go : Way V → List (Way V)) → Each k here P keeps good x → ((u : Way V) → P u → All (go u)) → All (after k x go)
  all_after (Goes w) go p h = h w p
  all_after (Stops w) go p h = (p, tt)
  all_after (Decides l w v) go p h = all_splits l go w go v p.0 p.1 h h

  pub all_ways : (fuel : ℕ) (w : Way V) → P w → All (ways k here fuel w)
  all_ways zero w p = all_by (is_running w.state.outcome) (λ v. failed k here Fuel v ∷ []) (one_way k) w (fails k here P keeps good Fuel w p, tt) (p, tt)
  all_ways (suc fuel) w p =
      all_by (is_running w.state.outcome) (λ v. after k (effect_at k here v) (ways k here fuel)) (one_way k) w
      (all_after (effect_at k here w) (ways k here fuel) (at_keeps k here P keeps good w p) (all_ways fuel)) (p, tt)

  pub all_from : (o : Option ℕ) (w : Way V) → P w → All (runs_from k here o w)
  all_from None w p = (p, tt)
  all_from (Some pc) w p = all_ways here.fuel (record w { pc = pc }) (keeps.place w pc p)

  pub all_runs : (handler : ℕ) (w : Way V) → P w → All (runs k here handler w)
  all_runs handler w p = all_from (slice_index_or here.code.handlers handler None) w p

  pub all_chooses : (stays takes : Way V → List (Way V)) (w : Way V) → P w → ((u : Way V) → P u → All (stays u)) → ((u : Way V) → P u → All (takes u)) → All (chooses k here stays takes w)
  all_chooses stays takes w p x y =
      all_by (nat_eq w.state.inputs 65535) stays (λ v. splits k (is_no k here v) stays (counted k v) takes (counted k v)) w (x w p)
      (all_splits (is_no k here w) stays (counted k w) takes (counted k w) (keeps.count w p) (keeps.count w p) x y)

  pub all_arrives : (q : Packet V) (w : Way V) → P w → All (arrives k here q w)
  all_arrives q w p =
      all_by (nat_eq q.copy 0 && not (nat_eq w.state.duplications 0)) (chooses k here (runs k here 1) (λ v. runs k here 1 (doubled k here q v))) (runs k here 1) w
      (all_chooses (runs k here 1) (λ v. runs k here 1 (doubled k here q v)) w p (all_runs 1) (λ v h. all_runs 1 (doubled k here q v) (keeps.double q v h)))
      (all_runs 1 w p)

  all_comes : (o : Option (Packet V)) (w : Way V) → P w → All (comes k here o w)
  all_comes None w p = (p, tt)
  all_comes (Some q) w p =
      all_by (nat_eq w.state.losses 0) (arrives k here q) (chooses k here (arrives k here q) (λ v. with_loss k v ∷ [])) w (all_arrives q w p)
      (all_chooses (arrives k here q) (λ v. with_loss k v ∷ []) w p (all_arrives q) (λ v h. (keeps.loss v h, tt)))

  pub all_event_ways : (e : Event) (w : Way V) → P w → All (event_ways k here e w)
  all_event_ways Boot w p = all_runs 0 w p
  all_event_ways Reboot w p = all_chooses (one_way k) (λ v. runs k here 0 (cleared k v)) w p (λ v h. (h, tt)) (λ v h. all_runs 0 (cleared k v) (keeps.clear v h))
  all_event_ways (Mail from seq copy) w p = all_comes here.mail w p
  all_event_ways (Timer number) w p = all_runs (2 + number) w p
