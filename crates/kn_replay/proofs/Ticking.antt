-- One node after another in a tick, and one tick after another.
use Rattle.std.proofs.Common.{◌≡◌, ℕ, zero, suc, ◌+◌, List, [], ◌++◌, length, map, flat_map, refl, sym, ap, ◌∙◌, arith, append_assoc, append-nil, add-one}
use Rattle.kn_model.specs.Terms.{Valuation, words}
use Rattle.kn_model.specs.Concrete.{Happened, events_from, node_events, tick_events}
use Rattle.kn_model.specs.Nets.{Network}
use Rattle.kn_model.specs.Due.{left}
use Rattle.kn_model.specs.Scenarios.{Scenario, close, cob, finish, node_at, opening, settled_from}
use Rattle.kn_conc.specs.Views.{NodeView}
use Rattle.kn_replay.specs.Nodes.{IsNetwork, AreStarts}
use Rattle.kn_replay.specs.Turns.{IsSettled, IsTicked, IsDone}
use Rattle.kn_replay.proofs.Posting.{closed_network, opening_network}

module _ (net : Network) (a : Valuation) where
  module _ (t : ℕ) where
    -- the nodes before n have run in this tick, and their events have been told
    pub record IsTicking (n : ℕ) (start : Scenario ℕ) (xs : List NodeView) (before after : List Happened) : Type 0 where
      pub scenario : Scenario ℕ
      pub nodes : IsNetwork net xs scenario
      pub ran : (m : ℕ) → settled_from (words a) net t n m scenario ≡ settled_from (words a) net t 0 (n + m) start
      pub told : (m : ℕ) → after ++ tick_events (words a) net t n m scenario ≡ before ++ tick_events (words a) net t 0 (n + m) start

    pub tick_begins : (s : Scenario ℕ) (xs : List NodeView) (before : List Happened) → IsNetwork net xs s → IsTicking 0 s xs before before
    tick_begins s xs before c = record {
      scenario = s;
      nodes = c;
      ran = λ m. let same : m ≡ 0 + m = omega arith in ap (λ (j : ℕ). settled_from (words a) net t 0 j s) same;
      told = λ m. let same : m ≡ 0 + m = omega arith in ap (λ (j : ℕ). before ++ tick_events (words a) net t 0 j s) same;
    }

    -- one node more
    pub one_node : (n : ℕ) (start : Scenario ℕ) (xs ys : List NodeView) (before mid after : List Happened) → (h : IsTicking n start xs before mid) → IsSettled net a t n h.scenario ys mid after → IsTicking (n + 1) start ys before after
    one_node n start xs ys before mid after h one =
        let s = h.scenario in
        let then = one.scenario in
        let own = node_events (words a) net n t (left net.limits.ticks t (node_at (words a) s n).state) s in
        record {
          scenario = then;
          nodes = one.nodes;
          ran = λ m. let same : n + suc m ≡ (n + 1) + m = omega arith in
              sym (ap (flat_map (settled_from (words a) net t (n + 1) m)) one.settles ∙ append-nil (settled_from (words a) net t (n + 1) m then))
              ∙ (h.ran (suc m) ∙ ap (λ (j : ℕ). settled_from (words a) net t 0 j start) same);
          told = λ m. let same : n + suc m ≡ (n + 1) + m = omega arith in
              ap (λ (l : List Happened). l ++ tick_events (words a) net t (n + 1) m then) one.events
              ∙ (append_assoc mid own (tick_events (words a) net t (n + 1) m then)
              ∙ (ap (λ (l : List Happened). mid ++ (own ++ l)) (sym (ap (flat_map (tick_events (words a) net t (n + 1) m)) one.settles ∙ append-nil (tick_events (words a) net t (n + 1) m then)))
              ∙ (h.told (suc m) ∙ ap (λ (j : ℕ). before ++ tick_events (words a) net t 0 j start) same)));
        }

    -- all nodes
    pub tick_ends : (start : Scenario ℕ) (xs : List NodeView) (before after : List Happened) → IsTicking (length net.nodes) start xs before after → IsTicked net a t start xs before after
    tick_ends start xs before after h =
        let same : length net.nodes + 0 ≡ length net.nodes = omega arith in
        record {
          scenario = h.scenario;
          rests = sym (h.ran 0 ∙ ap (λ (j : ℕ). settled_from (words a) net t 0 j start) same);
          nodes = h.nodes;
          events = sym (append-nil after) ∙ (h.told 0 ∙ ap (λ (j : ℕ). before ++ tick_events (words a) net t 0 j start) same);
        }

  -- the last of so many ticks
  events_last : (t m : ℕ) → events_from (words a) net t (suc m) ≡ events_from (words a) net t m ++ flat_map (tick_events (words a) net (t + m) 0 (length net.nodes)) (cob (words a) net (t + m))
  events_last t zero =
      let same : t ≡ t + 0 = omega arith in
      append-nil (flat_map (tick_events (words a) net t 0 (length net.nodes)) (cob (words a) net t))
      ∙ ap (λ (j : ℕ). flat_map (tick_events (words a) net j 0 (length net.nodes)) (cob (words a) net j)) same
  events_last t (suc m) =
      let first = flat_map (tick_events (words a) net t 0 (length net.nodes)) (cob (words a) net t) in
      let same : (t + 1) + m ≡ t + suc m = omega arith in
      ap (λ (l : List Happened). first ++ l) (events_last (t + 1) m)
      ∙ (sym (append_assoc first (events_from (words a) net (t + 1) m) (flat_map (tick_events (words a) net ((t + 1) + m) 0 (length net.nodes)) (cob (words a) net ((t + 1) + m))))
      ∙ ap (λ (j : ℕ). (first ++ events_from (words a) net (t + 1) m) ++ flat_map (tick_events (words a) net j 0 (length net.nodes)) (cob (words a) net j)) same)

  pub run_begins : (xs : List NodeView) (none : List Happened) → length xs ≡ length net.nodes → AreStarts net 0 xs → none ≡ [] → IsDone net a 0 xs none
  run_begins xs none same starts nothing = record { scenario = opening (words a) net; is = refl; nodes = opening_network a net xs same starts; events = nothing }

  -- one tick more
  pub one_tick : (t : ℕ) (xs ys : List NodeView) (before after : List Happened) → (h : IsDone net a t xs before) → IsTicked net a t h.scenario ys before after → IsDone net a (t + 1) ys after
  one_tick t xs ys before after h one =
      let s = h.scenario in
      let told = tick_events (words a) net t 0 (length net.nodes) s in
      let zero_t : 0 + t ≡ t = omega arith in
      record {
        scenario = close one.scenario;
        is = ap (cob (words a) net) (add-one t) ∙ (ap (flat_map (finish (words a) net t)) h.is ∙ (append-nil (finish (words a) net t s) ∙ ap (map close) one.rests));
        nodes = closed_network net ys one.scenario one.nodes;
        events = one.events ∙ (ap (λ (l : List Happened). l ++ told) h.events
            ∙ (ap (λ (l : List Happened). events_from (words a) net 0 t ++ l) (sym (ap (flat_map (tick_events (words a) net t 0 (length net.nodes))) h.is ∙ append-nil told))
            ∙ (ap (λ (j : ℕ). events_from (words a) net 0 t ++ flat_map (tick_events (words a) net j 0 (length net.nodes)) (cob (words a) net j)) (sym zero_t)
            ∙ (sym (events_last 0 t) ∙ ap (events_from (words a) net 0) (sym (add-one t))))));
      }
