-- Nodes and copies at the end of a tick.
use Rattle.std.proofs.Common.{◌≡◌, inl, inr, ℕ, zero, suc, ◌+◌, ◌<◌, true, false, List, [], ◌∷◌, ◌++◌, length, map, get_or, refl, sym, ap, subst, ◌∙◌, append_assoc, append-nil, arith}
use Rattle.std.specs.Prelude.{flat_map, Contains}
use Rattle.std.specs.List.{AllByRecursion}
use Rattle.std.proofs.lemmas.List.{length-map}
use Rattle.kn_term.specs.Terms.{Term}
use Rattle.kn_cond.specs.Conditions.{Condition, Query, that, holds, IsImpossible, IsLive, StandsFor}
use Rattle.kn_cond.specs.declared.standing.Standing.{Standing}
use Rattle.kn_cond.specs.declared.standing.Standing.TheVariants.{Inputs, Open}
use Rattle.kn_cond.specs.Meanings.{condition_of}
use Rattle.kn_packet.specs.Packets.{PacketView}
use Rattle.kn_node.specs.Views.{ConfigView}
use Rattle.kn_model.specs.Terms.{terms}
use Rattle.kn_model.specs.Packets.{Packet, Parcel}
use Rattle.kn_model.specs.Nodes.{State, Node}
use Rattle.kn_model.specs.Nets.{Network, no_plan, opening_node}
use Rattle.kn_model.specs.Limits.{AllLive}
use Rattle.kn_model.specs.Shapes.{IsLost}
use Rattle.kn_model.specs.Scenarios.{Scenario, node_at, got, got_all, close_node, close}
use Rattle.kn_model.specs.Alikes.{OneByOne, ConditionAlike, Alike}
use Rattle.kn_model.specs.Laws.{queued_all}
use Rattle.kn_model.proofs.Lists.{all-weaker}
use Rattle.kn_model.proofs.OneByOne.{pairs-append}
use Rattle.kn_model.proofs.AlikeTerms.{joins, condition_self, alike_through}
use Rattle.kn_model.proofs.AlikeStandings.{alike_standings}
use Rattle.kn_machine.specs.Views.{packet_of, own_of, state_of, received}
use Rattle.kn_step.specs.Answers.{IsReceived, IsRefused, guards_of}
use Rattle.kn_cob.specs.Nodes.{NodeView, waiting, guards_in, AreFrom, IsNode}
use Rattle.kn_cob.specs.Copies.{AreNodes, IsCopy, node_in}
use Rattle.kn_cob.specs.Runs.{AreEnds}
use Rattle.kn_cob.specs.Closing.{IsClosed}
use Rattle.kn_cob.proofs.EachNode.{in_copy}

-- alike states whose own conditions become more
pub with_more : (s t : State Term) (c d : Condition) → Alike s t → ConditionAlike c d → Alike (record s { own = s.own ++ c }) (record t { own = t.own ++ d })
with_more s t c d h i = record {
  trace = h.trace;
  outcome = h.outcome;
  timers = h.timers;
  inputs = h.inputs;
  sent = h.sent;
  losses = h.losses;
  duplications = h.duplications;
  booted = h.booted;
  reboots = h.reboots;
  registers = h.registers;
  memory = h.memory;
  queue = h.queue;
  own = joins s.own t.own c d h.own i;
}

-- the state of a node that got parcels
got_states : (ps : List (Parcel Term)) (y : Node Term) → (got_all y ps).state ≡ record y.state { own = y.state.own ++ guards_in ps }
got_states [] y = ap (λ (c : Condition). record y.state { own = c }) (sym (append-nil y.state.own))
got_states (p ∷ ps) y = got_states ps (got y p) ∙ ap (λ (c : Condition). record y.state { own = c }) (append_assoc y.state.own p.packet.guard (guards_in ps))

abbrev closed_state : Node Term → State Term
closed_state y = record y.state { own = y.state.own ++ guards_in y.fresh }

closed_is : (y : Node Term) → closed_state y ≡ (close_node y).state
closed_is y = sym (got_states y.fresh y)

guards_seen : (ps : List PacketView) → flat_map (λ (p : Packet Term). p.guard) (map packet_of ps) ≡ guards_of ps
guards_seen [] = refl
guards_seen (p ∷ ps) = ap (λ (c : Condition). condition_of p.terms p.guard ++ c) (guards_seen ps)

module _ (net : Network) (t n : ℕ) (x : NodeView) (y : Node Term) (h : IsNode net t n x y) where
  -- it got what it was sent
  abbrev got_waiting : State Term
  got_waiting = record (waiting x) { own = own_of x.config ++ guards_of x.inbox }

  got_alike : Alike got_waiting (close_node y).state
  got_alike = subst (λ (s : State Term). Alike got_waiting s) (closed_is y) (with_more (waiting x) y.state (guards_of x.inbox) (guards_in y.fresh) h.alike h.guards)

  got_is : received (map packet_of x.inbox) (state_of x.config) ≡ got_waiting
  got_is = ap (λ (c : Condition). record (waiting x) { own = own_of x.config ++ c }) (guards_seen x.inbox)

  senders_after : AreFrom net (close_node y).state.queue
  senders_after = subst (λ (s : State Term). AreFrom net s.queue) (closed_is y) h.senders

  pub got_node : (d : ConfigView) → IsReceived net.limits.conflicts x.config x.inbox d → IsNode net (t + 1) n (record { config = d; inbox = [] }) (close_node y)
  got_node d r = record {
    of_node = r.node ∙ h.of_node;
    of_history = r.history ∙ h.of_history;
    alike = alike_through (state_of d) got_waiting (close_node y).state (subst (λ (s : State Term). Alike (state_of d) s) got_is r.alike) got_alike;
    guards = condition_self [];
    later = tt;
    standing = r.standing;
    senders = senders_after;
  }

  -- what was sent nothing stays
  pub same_node : x.inbox ≡ [] → IsNode net (t + 1) n x (close_node y)
  same_node none = record {
    of_node = h.of_node;
    of_history = h.of_history;
    alike = subst (λ (s : State Term). Alike s (close_node y).state) nothing got_alike;
    guards = subst (λ (b : List PacketView). ConditionAlike (guards_of b) []) (sym none) (condition_self []);
    later = subst (λ (b : List PacketView). AllByRecursion (λ (p : PacketView). (t + 1 < p.arrival) × (p.copy ≡ 0)) b) (sym none) tt;
    standing = h.standing;
    senders = senders_after;
  }
    where
      nothing : got_waiting ≡ waiting x
      nothing = ap (λ (c : Condition). record (waiting x) { own = own_of x.config ++ c }) (ap guards_of none) ∙ ap (λ (c : Condition). record (waiting x) { own = c }) (append-nil (own_of x.config))

  -- no inputs meet the own condition of a node that is refused
  pub refused : IsRefused x.config x.inbox → IsImpossible (that (close_node y).state.own)
  refused never a = sym (got_alike.own.holds a) ∙ (ap (λ (s : State Term). holds a s.own) (sym got_is) ∙ never a)

  -- a node's own condition is live, and inputs that meet it are known
  pub stands : StandsFor net.limits.conflicts (that y.state.own) x.config.standing
  stands = (alike_standings net.limits.conflicts (own_of x.config) y.state.own h.alike.own).2 x.config.standing h.standing

-- what is known of inputs that meet a condition shows that it is live
known_live : (conflicts : ℕ) (q : Query) (x : Standing) → StandsFor conflicts q x → IsLive conflicts q
known_live conflicts q (Inputs a) least never small =
    let wrong : true ≡ false = sym (ap q.meets least.is ∙ least.meet.1) ∙ never a in
    absurd cc
known_live conflicts q (Open leaves) far never small = far.1.large small

-- it is known whether inputs meet the own condition
abbrev pub IsKnown : Network → Node Term → Type 0
IsKnown net y = (x : Standing) × StandsFor net.limits.conflicts (that y.state.own) x

-- one node more, which received what it was sent, or was sent nothing
pub one_closed : (net : Network) (xs zs : List NodeView) (x z : NodeView) → OneByOne (IsClosed net) xs zs → IsClosed net x z → OneByOne (IsClosed net) (xs ++ x ∷ []) (zs ++ z ∷ [])
one_closed net xs zs x z h i = pairs-append (IsClosed net) xs zs (x ∷ []) (z ∷ []) h (i, tt)

module _ (net : Network) (t : ℕ) where
  known_each : (n : ℕ) (xs : List NodeView) (ys : List (Node Term)) → AreNodes net t n xs ys → AllByRecursion (IsKnown net) ys
  known_each n [] [] h = tt
  known_each n [] (y ∷ ys) h = absurd h
  known_each n (x ∷ xs) [] h = absurd h
  known_each n (x ∷ xs) (y ∷ ys) h = ((x.config.standing, stands net t n x y h.0), known_each (n + 1) xs ys h.1)

  pub known_nodes : (xs : List NodeView) (s : Scenario Term) → IsCopy net t xs s → AllByRecursion (IsKnown net) s.nodes
  known_nodes xs s c = known_each 0 xs s.nodes c.nodes

  -- The own condition of each node is live.
  pub live_nodes : (xs : List NodeView) (s : Scenario Term) → IsCopy net t xs s → AllLive net s
  live_nodes xs s c =
      all-weaker (IsKnown net) (λ (y : Node Term). IsLive net.limits.conflicts (that y.state.own)) (λ y k. known_live net.limits.conflicts (that y.state.own) k.0 k.1) s.nodes (known_nodes xs s c)

  closed_node : (n : ℕ) (x z : NodeView) (y : Node Term) → IsNode net t n x y → IsClosed net x z → IsNode net (t + 1) n z (close_node y)
  closed_node n x z y h (inl r) = subst (λ (b : List PacketView). IsNode net (t + 1) n (record { config = z.config; inbox = b }) (close_node y)) (sym r.1) (got_node net t n x y h z.config r.0)
  closed_node n x z y h (inr r) = subst (λ (w : NodeView). IsNode net (t + 1) n w (close_node y)) (sym r.1) (same_node net t n x y h r.0)

  closed_nodes : (n : ℕ) (xs zs : List NodeView) (ys : List (Node Term)) → AreNodes net t n xs ys → OneByOne (IsClosed net) xs zs → AreNodes net (t + 1) n zs (map close_node ys)
  closed_nodes n [] [] [] h i = tt
  closed_nodes n [] (z ∷ zs) ys h i = absurd i
  closed_nodes n [] [] (y ∷ ys) h i = absurd h
  closed_nodes n (x ∷ xs) [] ys h i = absurd i
  closed_nodes n (x ∷ xs) (z ∷ zs) [] h i = absurd h
  closed_nodes n (x ∷ xs) (z ∷ zs) (y ∷ ys) h i = (closed_node n x z y h.0 i.0, closed_nodes (n + 1) xs zs ys h.1 i.1)

  -- A copy whose nodes are closed one by one is of the closed scenario.
  pub closed_copy : (xs zs : List NodeView) (s : Scenario Term) → IsCopy net t xs s → OneByOne (IsClosed net) xs zs → IsCopy net (t + 1) zs (close s)
  closed_copy xs zs s c i = record { whole = length-map s.nodes close_node ∙ c.whole; nodes = closed_nodes 0 xs zs s.nodes c.nodes i }

  closed_at : (ys : List (Node Term)) (n : ℕ) (d : Node Term) → n < length ys → Contains (map close_node ys) (close_node (get_or ys n d))
  closed_at [] n d inside = absurd (omega (arith, inside))
  closed_at (y ∷ ys) zero d inside = (0, omega arith, refl)
  closed_at (y ∷ ys) (suc n) d inside = let r = closed_at ys n d (omega (arith, inside)) in let k = r.1 in (suc r.0, omega (arith, k), r.2)

  -- Where a node is refused the closed scenario may be left out.
  pub closed_lost : (n : ℕ) (xs : List NodeView) (s : Scenario Term) → n < length net.nodes → IsCopy net t xs s → IsRefused (node_in xs n).config (node_in xs n).inbox → IsLost net (close s)
  closed_lost n xs s inside c never =
      let whole = c.whole in
      record {
        fits = length-map s.nodes close_node ∙ c.whole;
        impossible = record {
          node = close_node (node_at terms s n);
          there = closed_at s.nodes n (opening_node terms no_plan) (omega (arith, inside, whole));
          impossible = refused net t n (node_in xs n) (node_at terms s n) (in_copy net t n xs s inside c) never;
        };
      }

  ends_each : (n : ℕ) (xs : List NodeView) (ys : List (Node Term)) → AreNodes net t n xs ys → AllByRecursion (λ (x : NodeView). x.inbox ≡ []) xs → AreEnds net n (map (λ (x : NodeView). x.config) xs) ys
  ends_each n [] [] h none = tt
  ends_each n [] (y ∷ ys) h none = absurd h
  ends_each n (x ∷ xs) [] h none = absurd h
  ends_each n (x ∷ xs) (y ∷ ys) h none = (
    record {
      of_node = h.0.of_node;
      alike = subst (λ (b : List PacketView). Alike (queued_all (map packet_of b) (state_of x.config)) y.state) none.0 h.0.alike;
      standing = h.0.standing;
    },
    ends_each (n + 1) xs ys h.1 none.1,
  )

  -- A copy in which nothing was sent is of the scenario.
  pub copy_ends : (xs : List NodeView) (s : Scenario Term) → IsCopy net t xs s → AllByRecursion (λ (x : NodeView). x.inbox ≡ []) xs → AreEnds net 0 (map (λ (x : NodeView). x.config) xs) s.nodes
  copy_ends xs s c none = ends_each 0 xs s.nodes c.nodes none
