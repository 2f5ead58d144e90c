-- One event after another of a node in a tick.
use Rattle.std.proofs.Common.{◌≡◌, ℕ, zero, suc, ◌+◌, ◌-◌, ◌<◌, ◌≤◌, Bool, List, [], ◌∷◌, ◌++◌, length, map, flat_map, get_or, set, Option, Some, None, refl, sym, ap, subst, ◌∙◌, arith, append_assoc, append-nil}
use Rattle.std.specs.List.{AllByRecursion}
use Rattle.std.proofs.lemmas.List.{length-set}
use Rattle.kn_packet.specs.declared.packet.Event.{Event}
use Rattle.kn_model.specs.Terms.{Valuation, words}
use Rattle.kn_model.specs.Concrete.{Happened, node_events}
use Rattle.kn_model.specs.Packets.{Packet, Parcel}
use Rattle.kn_model.specs.Nodes.{State, Node}
use Rattle.kn_model.specs.Nets.{Network, opening_node, no_plan}
use Rattle.kn_model.specs.Due.{due, left}
use Rattle.kn_model.specs.Paths.{Path, event_paths, parcels, node_after}
use Rattle.kn_model.specs.Scenarios.{Scenario, node_at, copied, copies_of, turns, posted, receive}
use Rattle.kn_model.specs.Alikes.{SameWord, Any}
use Rattle.kn_model.specs.Laws.{IsNet}
use Rattle.kn_model.proofs.Lists.{all-map}
use Rattle.kn_model.proofs.Settling.{get_or-set_same}
use Rattle.kn_model.proofs.AlikeRows.{due_alike, left_alike}
use Rattle.kn_model.proofs.AlikeTerms.{alike_runs}
use Rattle.kn_conc.specs.Views.{NodeView}
use Rattle.kn_conc.specs.Ways.{bare_path}
use Rattle.kn_replay.specs.Nodes.{IsNode, AreNodes, IsNetwork, mailed, node_in}
use Rattle.kn_replay.specs.Turns.{IsTurn, IsSettled}
use Rattle.kn_replay.proofs.Falling.{Falls, falls}
use Rattle.kn_replay.proofs.Words.{IsOne, one_path}
use Rattle.kn_replay.proofs.Posting.{in_network, nodes_set, mailed_nodes, as_parcels, length-posted, get_or-posted, left_received}

module _ (net : Network) (a : Valuation) (t n : ℕ) where
  abbrev left_in : State ℕ → ℕ
  left_in s = left net.limits.ticks t s

  abbrev left_of : Scenario ℕ → ℕ
  left_of s = left_in (node_at (words a) s n).state

  -- an event with one path makes one scenario
  turns_next : (m : ℕ) (s : Scenario ℕ) (e : Event) (q : Path ℕ) → due net.limits.ticks t (node_at (words a) s n).state ≡ Some e → event_paths (words a) net n t e (node_at (words a) s n).state ≡ q ∷ []
      → turns (words a) net n t (suc m) s ≡ turns (words a) net n t m (copied (words a) s n e q)
  turns_next m s e q is only =
      ap (λ (o : Option Event). flat_map (turns (words a) net n t m) (copies_of (words a) net n t s o)) is
      ∙ (ap (λ (ps : List (Path ℕ)). flat_map (turns (words a) net n t m) (map (copied (words a) s n e) ps)) only ∙ append-nil (turns (words a) net n t m (copied (words a) s n e q)))

  -- and is told first
  events_next : (m : ℕ) (s : Scenario ℕ) (e : Event) (q : Path ℕ) → due net.limits.ticks t (node_at (words a) s n).state ≡ Some e → event_paths (words a) net n t e (node_at (words a) s n).state ≡ q ∷ []
      → node_events (words a) net n t (suc m) s ≡ record { tick = t; node = n; event = e; bits = q.bits } ∷ node_events (words a) net n t m (copied (words a) s n e q)
  events_next m s e q is only = rw (is, only) (append-nil _)

  -- where nothing is due, nothing changes
  turns_idle : (m : ℕ) (s : Scenario ℕ) → due net.limits.ticks t (node_at (words a) s n).state ≡ None → turns (words a) net n t m s ≡ s ∷ []
  turns_idle zero s none = refl
  turns_idle (suc m) s none = ap (λ (o : Option Event). flat_map (turns (words a) net n t m) (copies_of (words a) net n t s o)) none ∙ (append-nil (turns (words a) net n t m s) ∙ turns_idle m s none)

  events_idle : (m : ℕ) (s : Scenario ℕ) → due net.limits.ticks t (node_at (words a) s n).state ≡ None → node_events (words a) net n t m s ≡ []
  events_idle zero s none = refl
  events_idle (suc m) s none = rw none refl

  -- some events of the node have run, and these have been told
  pub record IsTurning (start : Scenario ℕ) (xs : List NodeView) (before after : List Happened) : Type 0 where
    pub scenario : Scenario ℕ
    pub nodes : IsNetwork net xs scenario
    pub count : ℕ
    pub turned : (m : ℕ) → turns (words a) net n t m scenario ≡ turns (words a) net n t (count + m) start
    pub told : (m : ℕ) → after ++ node_events (words a) net n t m scenario ≡ before ++ node_events (words a) net n t (count + m) start
    pub within : count + left_of scenario ≤ left_of start

  pub at_start : (s : Scenario ℕ) (xs : List NodeView) (before : List Happened) → IsNetwork net xs s → IsTurning s xs before before
  at_start s xs before c = record {
    scenario = s;
    nodes = c;
    count = 0;
    turned = λ m. let same : m ≡ 0 + m = omega arith in ap (λ (j : ℕ). turns (words a) net n t j s) same;
    told = λ m. let same : m ≡ 0 + m = omega arith in ap (λ (j : ℕ). before ++ node_events (words a) net n t j s) same;
    within = omega arith;
  }

  -- the scenario after an event that was run
  record IsNext (s : Scenario ℕ) (ys : List NodeView) (event : Event) (bits : List Bool) : Type 0 where
    path : Path ℕ
    is : due net.limits.ticks t (node_at (words a) s n).state ≡ Some event
    only : event_paths (words a) net n t event (node_at (words a) s n).state ≡ path ∷ []
    same : bits ≡ path.bits
    nodes : IsNetwork net ys (copied (words a) s n event path)
    less : left_of (copied (words a) s n event path) < left_of s

  module _ (good : IsNet net) (inside : n < length net.nodes) where
    due_same : (xs : List NodeView) (s : Scenario ℕ) → IsNetwork net xs s → due net.limits.ticks t (node_in xs n).state ≡ due net.limits.ticks t (node_at (words a) s n).state
    due_same xs s c = due_alike SameWord Any net.limits.ticks t (node_in xs n).state (node_at (words a) s n).state (in_network a net n xs s inside c).alike

    left_same : (xs : List NodeView) (s : Scenario ℕ) → IsNetwork net xs s → left_in (node_in xs n).state ≡ left_of s
    left_same xs s c = left_alike SameWord Any net.limits.ticks t (node_in xs n).state (node_at (words a) s n).state (in_network a net n xs s inside c).alike

    copied_nodes : (xs ys : List NodeView) (s : Scenario ℕ) (e : Event) (next : NodeView) (sends : List (Packet ℕ)) (bits : List Bool) (qs : List (Path ℕ)) → IsNetwork net xs s → next.node ≡ (node_in xs n).node → ys ≡ mailed 0 sends (set xs n next)
        → (o : IsOne bits next.state sends qs) → IsNetwork net ys (copied (words a) s n e o.path)
    copied_nodes xs ys s e next sends bits qs c same posts o =
        let y = node_at (words a) s n in
        let ps = parcels (words a) y o.path in
        let after = node_after (words a) e y o.path in
        let zero_n : n ≡ 0 + n = omega arith in
        let one : IsNode (0 + n) next after = record { of_node = same ∙ ((in_network a net n xs s inside c).of_node ∙ zero_n); alike = o.state } in
        let whole = c.whole in
        record {
          whole = length-posted 0 ps (set s.nodes n after) ∙ (length-set s.nodes n after ∙ whole);
          nodes = subst (λ (zs : List NodeView). AreNodes 0 zs (posted 0 ps (set s.nodes n after))) (sym posts) (mailed_nodes sends ps (as_parcels y.history sends o.path.sends o.sent) 0 (set xs n next) (set s.nodes n after) (nodes_set 0 n xs s.nodes next after c.nodes one));
        }

    copied_less : (s : Scenario ℕ) (e : Event) (q : Path ℕ) → length s.nodes ≡ length net.nodes → Falls a net t (node_at (words a) s n).state q → left_of (copied (words a) s n e q) < left_of s
    copied_less s e q whole fall =
        let y = node_at (words a) s n in
        let ps = parcels (words a) y q in
        let after = node_after (words a) e y q in
        let d = opening_node (words a) no_plan in
        let within : n < length s.nodes = omega (arith, inside, whole) in
        let long = length-set s.nodes n after in
        let zero_n : 0 + n ≡ n = omega arith in
        let here : node_at (words a) (copied (words a) s n e q) n ≡ receive n ps after =
        get_or-posted 0 ps (set s.nodes n after) n d (omega (arith, within, long)) ∙ (ap (λ (k : ℕ). receive k ps (get_or (set s.nodes n after) n d)) zero_n ∙ ap (receive n ps) (get_or-set_same s.nodes n after d within)) in
        let later : AllByRecursion (λ (p : Parcel ℕ). t < p.packet.arrival) ps = all-map (λ (p : Packet ℕ). t < p.arrival) (λ (p : Parcel ℕ). t < p.packet.arrival) (λ (p : Packet ℕ). record { packet = p; history = y.history }) (λ p h. h) q.sends fall.1 in
        let same = ap (λ (z : Node ℕ). left_in z.state) here ∙ left_received net.limits.ticks n t ps after later in
        let less = fall.0 in
        omega (arith, same, less)

    next_of : (xs ys : List NodeView) (s : Scenario ℕ) (event : Event) (bits : List Bool) → IsNetwork net xs s → due net.limits.ticks t (node_in xs n).state ≡ Some event → IsTurn net a t n xs ys bits → IsNext s ys event bits
    next_of xs ys s event bits c is turn =
        let x = node_in xs n in
        let y = node_at (words a) s n in
        let alike = (in_network a net n xs s inside c).alike in
        let run = turn.event.run in
        let same : run.event ≡ event = some_same run.event event (sym run.due ∙ is) in
        let node : x.node ≡ n = (in_network a net n xs s inside c).of_node in
        let kept : Path ℕ = record { bits = run.bits; literals = []; state = turn.next.state; sends = turn.sends } in
        let paths = subst (λ (k : ℕ). map bare_path (event_paths (words a) net k t event x.state) ≡ bare_path kept ∷ []) node (subst (λ (e : Event). map bare_path (event_paths (words a) net x.node t e x.state) ≡ bare_path kept ∷ []) same run.path) in
        let one : IsOne run.bits turn.next.state turn.sends (event_paths (words a) net n t event y.state) = one_path run.bits turn.next.state turn.sends (event_paths (words a) net n t event x.state) (event_paths (words a) net n t event y.state) paths ((alike_runs net a n t x.state y.state alike).2 event) in
        let due_now : due net.limits.ticks t y.state ≡ Some event = sym (due_same xs s c) ∙ is in
        let fall : Falls a net t y.state one.path = (subst (AllByRecursion (Falls a net t y.state)) one.only (falls a net n t event y.state good due_now)).0 in
        record {
          path = one.path;
          is = due_now;
          only = one.only;
          same = turn.event.same ∙ one.same;
          nodes = copied_nodes xs ys s event turn.next turn.sends run.bits (event_paths (words a) net n t event y.state) c run.node turn.posted one;
          less = copied_less s event one.path c.whole fall;
        }
      where
        some_same : {A : Type 0} (x y : A) → Some x ≡ Some y → x ≡ y
        some_same x y e = cc

    -- one event more
    pub one_turn : (start : Scenario ℕ) (xs ys : List NodeView) (before after : List Happened) (event : Event) (bits : List Bool) → IsTurning start xs before after → due net.limits.ticks t (node_in xs n).state ≡ Some event → IsTurn net a t n xs ys bits
        → IsTurning start ys before (after ++ record { tick = t; node = n; event = event; bits = bits } ∷ [])
    one_turn start xs ys before after event bits h is turn =
        let s = h.scenario in
        let next = next_of xs ys s event bits h.nodes is turn in
        let then = copied (words a) s n event next.path in
        let line : Happened = record { tick = t; node = n; event = event; bits = bits } in
        let less = next.less in
        let within = h.within in
        record {
          scenario = then;
          nodes = next.nodes;
          count = h.count + 1;
          turned = λ m. let same : h.count + suc m ≡ (h.count + 1) + m = omega arith in
              sym (turns_next m s event next.path next.is next.only) ∙ (h.turned (suc m) ∙ ap (λ (j : ℕ). turns (words a) net n t j start) same);
          told = λ m. let same : h.count + suc m ≡ (h.count + 1) + m = omega arith in
              append_assoc after (line ∷ []) (node_events (words a) net n t m then)
              ∙ (ap (λ (b : List Bool). after ++ (record { tick = t; node = n; event = event; bits = b } ∷ node_events (words a) net n t m then)) next.same
              ∙ (ap (λ (l : List Happened). after ++ l) (sym (events_next m s event next.path next.is next.only))
              ∙ (h.told (suc m) ∙ ap (λ (j : ℕ). before ++ node_events (words a) net n t j start) same)));
          within = omega (arith, less, within);
        }

    -- the events that are left fall
    pub turn_falls : (xs ys : List NodeView) (s : Scenario ℕ) (event : Event) (bits : List Bool) → IsNetwork net xs s → due net.limits.ticks t (node_in xs n).state ≡ Some event → IsTurn net a t n xs ys bits → left_in (node_in ys n).state < left_in (node_in xs n).state
    turn_falls xs ys s event bits c is turn =
        let next = next_of xs ys s event bits c is turn in
        let before = left_same xs s c in
        let after = left_same ys (copied (words a) s n event next.path) next.nodes in
        let less = next.less in
        omega (arith, before, after, less)

    -- So once nothing is due, all events of the node have run.
    pub all_turned : (start : Scenario ℕ) (xs : List NodeView) (before after : List Happened) → IsTurning start xs before after → due net.limits.ticks t (node_in xs n).state ≡ None → IsSettled net a t n start xs before after
    all_turned start xs before after h none =
        let s = h.scenario in
        let now = sym (due_same xs s h.nodes) ∙ none in
        let within = h.within in
        let m = left_of start - h.count in
        let all : h.count + m ≡ left_of start = omega (arith, within) in
        record {
          scenario = s;
          settles = sym (ap (λ (j : ℕ). turns (words a) net n t j start) all) ∙ (sym (h.turned m) ∙ turns_idle m s now);
          nodes = h.nodes;
          events = sym (append-nil after) ∙ (ap (λ (l : List Happened). after ++ l) (sym (events_idle m s now)) ∙ (h.told m ∙ ap (λ (j : ℕ). before ++ node_events (words a) net n t j start) all));
        }
