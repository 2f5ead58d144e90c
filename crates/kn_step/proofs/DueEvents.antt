-- Due events of a node, over what is kept of it.
use Rattle.std.proofs.Common.{◌≡◌, ℕ, ◌+◌, ◌<◌, ◌≤◌, Bool, true, false, cond, List, [], ◌∷◌, length, map, Option, Some, None, refl, ap, sym, subst, ◌∙◌, arith, lt-ltb}
use Rattle.std.specs.Prelude.{filter, nat_eq, not, ◌&&◌, ◌||◌, slice_set}
use Rattle.kn_term.specs.declared.node.Node.{Node}
use Rattle.kn_term.specs.Terms.{Term}
use Rattle.kn_cond.specs.Conditions.{Condition}
use Rattle.kn_packet.specs.declared.packet.Event.{Event}
use Rattle.kn_packet.specs.declared.packet.Event.TheVariants.{Boot, Reboot, Packet as Mail, Timer}
use Rattle.kn_packet.specs.Packets.{PacketView}
use Rattle.kn_packet.specs.Packets as kept
use Rattle.kn_node.specs.declared.machine.Outcome.{Outcome}
use Rattle.kn_node.specs.declared.machine.Outcome.TheVariants as outcomes
use Rattle.kn_node.specs.Views.{MachineView}
use Rattle.kn_node.specs.Due as kept_due
use Rattle.kn_model.specs.Terms.{terms}
use Rattle.kn_model.specs.Packets.{Packet, first_at, without_first}
use Rattle.kn_model.specs.Nodes.{State, is_running}
use Rattle.kn_model.specs.Due.{due, or_else, mail_of as mail_event, timer_from, boot_due, is_open, is_set_to, has}
use Rattle.kn_model.specs.Paths.{begun, mail_in}
use Rattle.kn_machine.specs.Views.{packet_of, outcome_of, state_with}
use Rattle.kn_machine.specs.Effects.{mail_of}
use Rattle.kn_step.specs.Answers.{IsSmall}

-- the first packet of a queue, and the others
pub first_seen : (t : ℕ) (q : List PacketView) → first_at t (map packet_of q) ≡ mail_of (kept.first_at t q)
first_seen t [] = refl
first_seen t (p ∷ q) = go (nat_eq p.arrival t) (first_seen t q)
  where
    go : (b : Bool) → first_at t (map packet_of q) ≡ mail_of (kept.first_at t q) → cond b (Some (packet_of p)) (first_at t (map packet_of q)) ≡ mail_of (cond b (Some p) (kept.first_at t q))
    go true h = refl
    go false h = h

pub others_seen : (t : ℕ) (q : List PacketView) → map packet_of (kept.without_first_at t q) ≡ without_first t (map packet_of q)
others_seen t [] = refl
others_seen t (p ∷ q) = go (nat_eq p.arrival t) (others_seen t q)
  where
    go : (b : Bool) → map packet_of (kept.without_first_at t q) ≡ without_first t (map packet_of q) → map packet_of (cond b q (p ∷ kept.without_first_at t q)) ≡ cond b (map packet_of q) (packet_of p ∷ without_first t (map packet_of q))
    go true h = refl
    go false h = ap (λ (ps : List (Packet Term)). packet_of p ∷ ps) h

has_seen : (t : ℕ) (rs : List ℕ) → has t rs ≡ kept_due.has t rs
has_seen t [] = refl
has_seen t (r ∷ rs) = ap (λ (b : Bool). nat_eq r t || b) (has_seen t rs)

timers_seen : (t k : ℕ) (os : List (Option ℕ)) → timer_from t k os ≡ kept_due.timer_from t k os
timers_seen t k [] = refl
timers_seen t k (None ∷ os) = timers_seen t (k + 1) os
timers_seen t k (Some d ∷ os) = ap (λ (e : Option Event). cond (nat_eq d t) (Some (Timer k)) e) (timers_seen t (k + 1) os)

-- what is due, by what is found
abbrev due_in : Bool → Bool → Bool → Option Event → Option Event → Option Event
due_in runs_on boot again mail timer = cond runs_on (or_else (cond boot (Some Boot) None) (or_else (cond again (Some Reboot) None) (or_else mail timer))) None

found_seen : (o : Outcome) (boot again : Bool) (p : Option PacketView) (e : Option Event)
    → due_in (is_running (outcome_of o)) boot again (mail_event (mail_of p)) e ≡ cond (kept_due.is_running o) (cond boot (Some Boot) (cond again (Some Reboot) (kept_due.mail_or p e))) None
found_seen outcomes.Halted boot again p e = refl
found_seen (outcomes.Failed kind pc tick) boot again p e = refl
found_seen outcomes.Running true again p e = refl
found_seen outcomes.Running false true p e = refl
found_seen outcomes.Running false false None e = refl
found_seen outcomes.Running false false (Some p) e = refl

-- what is due of what is kept is what is due of the state, in a tick of the network
pub same_due : (ticks t : ℕ) (ns : List Node) (m : MachineView) (trace : List Bool) (own : Condition) → t < ticks → due ticks t (state_with ns m trace own) ≡ kept_due.due t m
same_due ticks t ns m trace own early =
    let boot : Bool = nat_eq t 0 && not m.booted in
    let runs_on : Bool = is_running (outcome_of m.outcome) in
    ap (λ (b : Bool). due_in (b && runs_on) boot (has t m.reboots) (mail_event (first_at t (map packet_of m.queue))) (timer_from t 0 m.timers)) (lt-ltb t ticks early)
    ∙ (ap (λ (b : Bool). due_in runs_on boot b (mail_event (first_at t (map packet_of m.queue))) (timer_from t 0 m.timers)) (has_seen t m.reboots)
    ∙ (ap (λ (o : Option (Packet Term)). due_in runs_on boot (kept_due.has t m.reboots) (mail_event o) (timer_from t 0 m.timers)) (first_seen t m.queue)
    ∙ (ap (λ (e : Option Event). due_in runs_on boot (kept_due.has t m.reboots) (mail_event (mail_of (kept.first_at t m.queue))) e) (timers_seen t 0 m.timers)
    ∙ found_seen m.outcome boot (kept_due.has t m.reboots) (kept.first_at t m.queue) (kept_due.timer_from t 0 m.timers))))

-- a due timer is one of eight
pub due_small : (ticks t : ℕ) (s : State Term) (e : Event) → length s.timers ≤ 8 → due ticks t s ≡ Some e → IsSmall e
due_small ticks t s e few is = go (is_open ticks t s) (boot_due t s) (has t s.reboots) (first_at t s.queue) is
  where
    timers : (k : ℕ) (os : List (Option ℕ)) → k + length os ≤ 8 → timer_from t k os ≡ Some e → IsSmall e
    timers k [] few h = absurd cc
    timers k (o ∷ os) few h = pick (is_set_to t o) h (timers (k + 1) os (omega (arith, few)))
      where
        pick : (b : Bool) → cond b (Some (Timer k)) (timer_from t (k + 1) os) ≡ Some e → (timer_from t (k + 1) os ≡ Some e → IsSmall e) → IsSmall e
        pick true h rest = let same : Timer k ≡ e = cc in let low : k < 8 = omega (arith, few) in subst IsSmall same low
        pick false h rest = rest h

    go : (runs_on boot again : Bool) (o : Option (Packet Term)) → due_in runs_on boot again (mail_event o) (timer_from t 0 s.timers) ≡ Some e → IsSmall e
    go false boot again o h = absurd cc
    go true true again o h = let same : Boot ≡ e = cc in subst IsSmall same tt
    go true false true o h = let same : Reboot ≡ e = cc in subst IsSmall same tt
    go true false false None h = timers 0 s.timers (omega (arith, few)) h
    go true false false (Some p) h = let same : Mail p.from p.seq p.copy ≡ e = cc in subst IsSmall same tt

-- what begins an event, on what is kept
abbrev pub Begins : ℕ → Event → MachineView → MachineView → Type 0
Begins t e m after = (ns : List Node) (trace : List Bool) (own : Condition) → state_with ns after trace own ≡ begun terms t e (state_with ns m trace own)

begun_as : (t : ℕ) (e f : Event) (m after : MachineView) → e ≡ f → Begins t f m after → Begins t e m after
begun_as t e f m after is h = subst (λ (x : Event). Begins t x m after) (sym is) h

pub begun_boot : (t : ℕ) (e : Event) (m after : MachineView) → e ≡ Boot → after ≡ record m { booted = true } → Begins t e m after
begun_boot t e m after is new = begun_as t e Boot m after is (λ ns trace own. ap (λ (x : MachineView). state_with ns x trace own) new)

pub begun_reboot : (t : ℕ) (e : Event) (m after : MachineView) → e ≡ Reboot → after ≡ record m { reboots = filter (λ x. not (nat_eq x t)) m.reboots } → Begins t e m after
begun_reboot t e m after is new = begun_as t e Reboot m after is (λ ns trace own. ap (λ (x : MachineView). state_with ns x trace own) new)

pub begun_mail : (t from seq copy : ℕ) (e : Event) (m after : MachineView) → e ≡ Mail from seq copy → after ≡ record m { queue = kept.without_first_at t m.queue } → Begins t e m after
begun_mail t from seq copy e m after is new = begun_as t e (Mail from seq copy) m after is (λ ns trace own. ap (λ (x : MachineView). state_with ns x trace own) new ∙ ap (λ (q : List (Packet Term)). record (state_with ns m trace own) { queue = q }) (others_seen t m.queue))

pub begun_timer : (t number : ℕ) (e : Event) (m after : MachineView) → e ≡ Timer number → after ≡ record m { timers = slice_set m.timers number None } → Begins t e m after
begun_timer t number e m after is new = begun_as t e (Timer number) m after is (λ ns trace own. ap (λ (x : MachineView). state_with ns x trace own) new)

-- the packet of an event
abbrev pub Mails : ℕ → Event → MachineView → Option PacketView → Type 0
Mails t e m o = (ns : List Node) (trace : List Bool) (own : Condition) → mail_of o ≡ mail_in terms e t (state_with ns m trace own)

pub mail_first : (t from seq copy : ℕ) (e : Event) (m : MachineView) (o : Option PacketView) → e ≡ Mail from seq copy → o ≡ kept.first_at t m.queue → Mails t e m o
mail_first t from seq copy e m o is found = subst (λ (x : Event). Mails t x m o) (sym is) (λ ns trace own. ap mail_of found ∙ sym (first_seen t m.queue))

pub no_mail : (t : ℕ) (e f : Event) (m : MachineView) → e ≡ f → Mails t f m None → Mails t e m None
no_mail t e f m is h = subst (λ (x : Event). Mails t x m None) (sym is) h
