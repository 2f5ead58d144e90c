-- What the run of an event's handler gives of the event.
use Rattle.std.proofs.Common.{◌≡◌, ℕ, ◌<◌, ◌≤◌, List, [], ◌∷◌, length, map, Option, Some, Ok, Err, refl, ap, sym, subst, ◌∙◌, append-nil, ◌^◌, arith}
use Rattle.std.specs.Prelude.{⊤, Result, OnOk}
use Rattle.std.specs.List.{AllByRecursion}
use Rattle.kn_term.specs.Terms.{Term}
use Rattle.kn_packet.specs.declared.packet.Event.{Event}
use Rattle.kn_packet.specs.Packets.{PacketView}
use Rattle.kn_node.specs.Views.{MachineView, ConfigView}
use Rattle.kn_plan.specs.Files.{File, IsFile}
use Rattle.kn_model.specs.Terms.{terms}
use Rattle.kn_model.specs.Packets.{Packet}
use Rattle.kn_model.specs.Nodes.{State}
use Rattle.kn_model.specs.Nets.{Network, links_of}
use Rattle.kn_model.specs.Due.{due}
use Rattle.kn_model.specs.Laws.{IsNet}
use Rattle.kn_model.specs.Rows.{Here, Way, sender_of}
use Rattle.kn_model.specs.Paths.{Path, event_paths, event_ways, first_way, begun, here_at, mail_in}
use Rattle.kn_model.specs.Alikes.{AreGiven}
use Rattle.kn_machine.specs.Views.{packet_of, state_with, state_of, own_of}
use Rattle.kn_machine.specs.Ways.{WayView, way_of, AreStamped}
use Rattle.kn_machine.specs.Effects.{mail_of, here_of, IsIn}
use Rattle.kn_machine.specs.Paths.{PathView, path_seen}
use Rattle.kn_step.specs.Given.{AreGivenSoFar, AreKept}
use Rattle.kn_step.specs.Choices.{CameBehind, paths_by}
use Rattle.kn_step.specs.Turns.{OnTooMany, UnlessMemory}
use Rattle.kn_step.specs.Answers.{IsReady, AreRun, AreTooMany, IsSmall, paths_from}
use Rattle.kn_machine.specs.declared.spot.Spot.{Spot}
use Rattle.kn_step.specs.declared.run.RunStop.{RunStop}
use Rattle.kn_step.specs.declared.run.RunStop.TheVariants as stops
use Rattle.kn_step.proofs.DueEvents.{Begins, Mails, due_small}
use Rattle.kn_step.proofs.SoundNets.{sender_fits, spot_in}

pub empty : {A : Type 0} (xs : List A) → length xs ≡ 0 → xs ≡ []
empty [] e = refl
empty (x ∷ xs) e = absurd cc

-- where nothing was sent, all of it is stamped
pub none_stamped : (node history : ℕ) (ps : List PacketView) → map packet_of ps ≡ [] → AreStamped node history ps
none_stamped node history [] e = tt
none_stamped node history (p ∷ ps) e = absurd cc

-- what is given unless memory is wanting
pub given_ok : (r : Result ⊤ RunStop) (ps qs : List (Path Term)) → UnlessMemory r (AreGiven ps qs) → OnOk r (AreGiven ps qs)
given_ok (Ok x) ps qs h = h
given_ok (Err x) ps qs h = tt

pub given_many : (r : Result ⊤ RunStop) (ps qs : List (Path Term)) → UnlessMemory r (AreGiven ps qs) → OnTooMany r (AreGivenSoFar ps qs)
given_many (Ok x) ps qs h = tt
given_many (Err stops.TooMany) ps qs h = ([], subst (λ (us : List (Path Term)). AreGiven us qs) (sym (append-nil ps)) h)
given_many (Err (stops.Memory e)) ps qs h = tt

module _ (net : Network) (tick : ℕ) (c : ConfigView) (e : Event) (ps : List PathView) (qs : List (Path Term)) where
  pub all_run : (r : Result ⊤ RunStop) → due net.limits.ticks tick (state_of c) ≡ Some e → paths_from net tick e c ≡ qs → OnOk r (AreGiven (map path_seen ps) qs) → UnlessMemory r (AreKept net.limits.conflicts c.node c.history ps) → OnOk r (length ps ≤ net.limits.states)
      → OnOk r (AreRun net tick c e ps)
  all_run (Ok x) is same given kept few = record { due = is; given = subst (AreGiven (map path_seen ps)) (sym same) given; kept = kept; few = few }
  all_run (Err x) is same given kept few = tt

  pub too_many : (r : Result ⊤ RunStop) → due net.limits.ticks tick (state_of c) ≡ Some e → paths_from net tick e c ≡ qs → OnTooMany r (AreGivenSoFar (map path_seen ps) qs) → UnlessMemory r (AreKept net.limits.conflicts c.node c.history ps) → OnTooMany r (net.limits.states < length ps)
      → OnTooMany r (AreTooMany net tick c e ps)
  too_many (Ok x) is same given kept many = tt
  too_many (Err stops.TooMany) is same given kept many = record { due = is; given = subst (AreGivenSoFar (map path_seen ps)) (sym same) given; kept = kept; many = many }
  too_many (Err (stops.Memory x)) is same given kept many = tt

-- The paths of an event are those of its ways, where it is run from an equal state, at a place with its node and tick.
module _ (net : Network) (spot : Spot) (tick : ℕ) (c v : ConfigView) (e : Event) (w : Way Term) (equal : v ≡ c) (node : spot.node ≡ v.node) (at : spot.tick ≡ tick) (links : spot.links.items ≡ links_of net spot.node) (mail : mail_of spot.mail ≡ mail_in terms e tick (state_of v)) where
  mail_at : mail_of spot.mail ≡ mail_in terms e spot.tick (state_of c)
  mail_at = mail ∙ (ap (λ (u : ConfigView). mail_in terms e tick (state_of u)) equal ∙ ap (λ (t : ℕ). mail_in terms e t (state_of c)) (sym at))

  first_at : first_way terms (begun terms tick e (state_of v)) ≡ first_way terms (begun terms spot.tick e (state_of c))
  first_at = ap (λ (u : ConfigView). first_way terms (begun terms tick e (state_of u))) equal ∙ ap (λ (t : ℕ). first_way terms (begun terms t e (state_of c))) (sym at)

  paths_at : paths_from net tick e c ≡ event_paths terms net spot.node spot.tick e (state_of c)
  paths_at = ap (λ (n : ℕ). event_paths terms net n tick e (state_of c)) (sym (node ∙ ap (λ (u : ConfigView). u.node) equal)) ∙ ap (λ (t : ℕ). event_paths terms net spot.node t e (state_of c)) (sym at)

  here_is : here_at terms net spot.node spot.tick e (state_of c) ≡ here_of net spot
  here_is = rw (links, mail_at) refl

  pub event_from : w ≡ first_way terms (begun terms tick e (state_of v)) → paths_from net tick e c ≡ paths_by (event_ways terms (here_of net spot) e) w
  event_from way =
      paths_at
      ∙ (ap (λ (h : Here Term). paths_by (event_ways terms h e) (first_way terms (begun terms spot.tick e (state_of c)))) here_is
      ∙ ap (paths_by (event_ways terms (here_of net spot) e)) (sym (way ∙ first_at)))

-- the event's timer is one of eight
pub small_at : (net : Network) (tick : ℕ) (c v : ConfigView) (e : Event) → v ≡ c → due net.limits.ticks tick (state_of c) ≡ Some e → length v.machine.timers ≡ 8 → IsSmall e
small_at net tick c v e equal is eight =
    let timers : length c.machine.timers ≡ 8 = subst (λ (u : ConfigView). length u.machine.timers ≡ 8) equal eight in
    due_small net.limits.ticks tick (state_of c) e (omega (arith, timers)) is

-- and where it runs is in range
pub place_in : (file : File) (spot : Spot) (tick : ℕ) (c v k : ConfigView) (e : Event) → IsFile file → IsNet file.network → v ≡ c → k ≡ c → IsReady file.network tick c → spot.node ≡ v.node → spot.tick ≡ tick → spot.links.items ≡ links_of file.network spot.node → Mails tick e k.machine spot.mail → IsIn file.network spot
place_in file spot tick c v k e valid sound equal copied ready node at links mail =
    spot_in file spot valid sound
    (subst (λ (n : ℕ). n < length file.network.nodes) (sym (node ∙ ap (λ (u : ConfigView). u.node) equal)) ready.node)
    (subst (λ (t : ℕ). t < file.network.limits.ticks) (sym at) ready.early)
    links
    (subst (λ (o : Option (Packet Term)). sender_of o < 2 ^ 16) (sym (mail k.terms k.trace (own_of k)))
    (sender_fits (length file.network.nodes) tick e k.terms k.machine k.trace (own_of k) valid.network.nodes (subst (λ (u : ConfigView). AllByRecursion (λ (p : PacketView). p.from < length file.network.nodes) u.machine.queue) (sym copied) ready.senders)))

-- nothing was sent on a first way
pub first_stamped : (node history : ℕ) (w : WayView) (s : State Term) → way_of w ≡ first_way terms s → AreStamped node history w.sends
first_stamped node history w s is = none_stamped node history w.sends (ap (λ (x : Way Term). x.sends) is)

-- the way of an event that begins in an equal state
pub first_begun : (tick : ℕ) (e : Event) (v k : ConfigView) (m : MachineView) (w : Way Term) → k ≡ v → Begins tick e k.machine m → w ≡ first_way terms (state_with k.terms m k.trace (own_of k)) → w ≡ first_way terms (begun terms tick e (state_of v))
first_begun tick e v k m w equal begins is = is ∙ (ap (first_way terms) (begins k.terms k.trace (own_of k)) ∙ ap (λ (u : ConfigView). first_way terms (begun terms tick e (state_of u))) equal)

pub mail_of_equal : (tick : ℕ) (e : Event) (v k : ConfigView) (o : Option PacketView) → k ≡ v → Mails tick e k.machine o → mail_of o ≡ mail_in terms e tick (state_of v)
mail_of_equal tick e v k o equal mails = mails k.terms k.trace (own_of k) ∙ ap (λ (u : ConfigView). mail_in terms e tick (state_of u)) equal

-- what a run from no paths gives
module _ (net : Network) (spot : Spot) (tick : ℕ) (c : ConfigView) (e : Event) (old ps : List PathView) (qs : List (Path Term)) (node : spot.node ≡ c.node) (history : spot.history ≡ c.history) (none : length old ≡ 0) (is : due net.limits.ticks tick (state_of c) ≡ Some e) (same : paths_from net tick e c ≡ qs)
    (r : Result ⊤ RunStop) (came : CameBehind net spot old ps qs r) where
  nothing : old ≡ []
  nothing = empty old none

  start : AreGiven (map path_seen old) []
  start = subst (λ (us : List PathView). AreGiven (map path_seen us) []) (sym nothing) tt

  kept : UnlessMemory r (AreKept net.limits.conflicts c.node c.history ps)
  kept =
      subst (λ (n : ℕ). UnlessMemory r (AreKept net.limits.conflicts n c.history ps)) node
      (subst (λ (h : ℕ). UnlessMemory r (AreKept net.limits.conflicts spot.node h ps)) history (came.kept (subst (AreKept net.limits.conflicts spot.node spot.history) (sym nothing) tt)))

  pub run_from_none : OnOk r (AreRun net tick c e ps)
  run_from_none = all_run net tick c e ps qs r is same (came.given [] start) kept came.few

  pub many_from_none : OnTooMany r (AreTooMany net tick c e ps)
  many_from_none = too_many net tick c e ps qs r is same (came.so_far [] start) kept came.many
