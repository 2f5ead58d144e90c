-- The condition of a network holds under the same inputs as the own conditions of its nodes together.
use Rattle.std.proofs.Common.{◌≡◌, ℕ, zero, suc, ◌+◌, ◌<◌, ◌≤◌, Bool, true, false, cond, List, [], ◌∷◌, ◌++◌, length, map, flat_map, get_or, set, Option, Some, None, refl, sym, ap, subst, ◌∙◌, arith, append_assoc}
use Rattle.std.specs.Prelude.{filter, nat_eq, Contains, ◌&&◌}
use Rattle.std.specs.List.{AllByRecursion}
use Rattle.std.proofs.lemmas.List.{length-set}
use Rattle.kn_model.specs.Values.{Literal, Values}
use Rattle.kn_model.specs.Terms.{Term, Valuation, terms}
use Rattle.kn_packet.specs.declared.packet.Event.{Event}
use Rattle.kn_packet.specs.declared.packet.Event.TheVariants.{Boot, Reboot, Packet as Mail, Timer}
use Rattle.kn_model.specs.Packets.{Packet, Parcel, parcel_le}
use Rattle.kn_model.specs.Nodes.{State, Node}
use Rattle.kn_model.specs.Nets.{Network, Plan, opening_node, no_plan}
use Rattle.kn_model.specs.Due.{due, left}
use Rattle.kn_model.specs.Rows.{Here, Way, packet_on}
use Rattle.kn_model.specs.Paths.{Path, path_of, event_paths, event_ways, here_at, first_way, begun, parcels, node_after}
use Rattle.kn_model.specs.Scenarios.{Scenario, node_at, posted, copied, copies, copies_of, turns, settled, settled_from, rest_of_tick, finish, close, close_node, got, got_all, cob}
use Rattle.kn_model.specs.Conditions.{Condition, holds}
use Rattle.kn_model.specs.Concrete.{concrete, scenario_under, node_under}
use Rattle.kn_model.specs.Deciding.{joined}
use Rattle.kn_model.specs.Reports.{Report, Shows, RunShows, pick_condition}
use Rattle.kn_model.specs.Laws.{IsNet}
use Rattle.kn_model.specs.Alikes.{MetAt}
use Rattle.kn_model.proofs.Lists.{all-append, all-map, all-filter, all-flat, all-weaker, all-set, all-get_or, all-put_all}
use Rattle.kn_model.proofs.EachWay.{Kept, all_event_ways}
use Rattle.kn_model.proofs.Naming.{opening_length}
use Rattle.kn_model.proofs.Sending.{is_here}
use Rattle.kn_model.proofs.Settling.{length-posted}
use Rattle.kn_model.proofs.Under.{holds-append}
use Rattle.kn_model.proofs.Clashing.{both}
use Rattle.kn_model.proofs.Coverage as members
use Rattle.kn_model.proofs.OneRun as runs

-- lists
pub all-contains : {A : Type 0} (P : A → Type 0) (xs : List A) (x : A) → AllByRecursion P xs → Contains xs x → P x
all-contains {A} P xs x h c = go xs h c.0 c.1 c.2
  where
    go : (ys : List A) → AllByRecursion P ys → (k : ℕ) → k < length ys → get_or ys k x ≡ x → P x
    go [] p k inside e = absurd (omega arith)
    go (y ∷ ys) p zero inside e = subst P e p.0
    go (y ∷ ys) p (suc k) inside e = go ys p.1 k (omega arith) e

-- what an event does first leaves the own condition
pub begun_own : {V : Type 0} (k : Values V) (t : ℕ) (e : Event) (s : State V) → (begun k t e s).own ≡ s.own
begun_own k t Boot s = refl
begun_own k t Reboot s = refl
begun_own k t (Mail from seq copy) s = refl
begun_own k t (Timer number) s = refl

module _ (a : Valuation) where
  abbrev pub Holds : Condition → Type 0
  Holds c = holds a c ≡ true

  join_holds : (c d : Condition) → Holds c → Holds d → Holds (c ++ d)
  join_holds c d h i = holds-append a c d ∙ (ap (λ (b : Bool). b && holds a d) h ∙ i)

  parts_hold : (c d : Condition) → Holds (c ++ d) → Holds c × Holds d
  parts_hold c d h = both (holds a c) (holds a d) (sym (holds-append a c d) ∙ h)

  -- along an event the own condition stays, and it implies, with the literals so far, the guard of each packet that was sent
  abbrev pub Guards : Condition → List (Packet Term) → Type 0
  Guards c qs = AllByRecursion (λ (q : Packet Term). Holds c → Holds q.guard) qs

  abbrev IsImplied : Condition → Way Term → Type 0
  IsImplied own w = (w.state.own ≡ own) × Guards (own ++ w.literals) w.sends

  implied_kept : (here : Here Term) (own : Condition) → Kept terms here (IsImplied own)
  implied_kept here own = record {
    registers = λ w r x h. h;
    memory = λ w ms h. h;
    timer = λ w number d g h. h;
    cancel = λ w number h. h;
    place = λ w pc h. h;
    outcome = λ w o h. h;
    count = λ w h. h;
    sent = λ w ws l g h. (h.0, all-append (λ (q : Packet Term). Holds (own ++ w.literals) → Holds q.guard) w.sends (packet_on terms here w ws l ∷ []) h.1 ((λ i. subst (λ (c : Condition). Holds (c ++ w.literals)) (sym h.0) i), tt));
    clear = λ w h. h;
    loss = λ w h. h;
    double = λ q w h. h;
  }

  -- a decision adds a literal
  pub longer_implies : (c d : Condition) → Holds (c ++ d) → Holds c
  longer_implies c d h = let x = parts_hold c d h in x.0

  implied_decided : (own : Condition) (b : Bool) (l : Literal Term) (w : Way Term) → IsImplied own w → (w.state.own ≡ own) × Guards (own ++ (w.literals ++ l ∷ [])) w.sends
  implied_decided own b l w h = (
    h.0,
    all-weaker (λ (q : Packet Term). Holds (own ++ w.literals) → Holds q.guard) (λ (q : Packet Term). Holds (own ++ (w.literals ++ l ∷ [])) → Holds q.guard)
        (λ q f i. f (longer_implies (own ++ w.literals) (l ∷ []) (subst Holds (sym (append_assoc own w.literals (l ∷ []))) i))) w.sends h.1,
  )

  -- a path's own condition is the one before with the path's literals, and it implies the guards of what was sent
  abbrev pub PathImplied : Condition → Path Term → Type 0
  PathImplied own p = (p.state.own ≡ own ++ p.literals) × Guards (own ++ p.literals) p.sends

  pub paths_implied : (net : Network) (n t : ℕ) (e : Event) (s : State Term) → IsNet net → AllByRecursion (PathImplied s.own) (event_paths terms net n t e s)
  paths_implied net n t e s good =
      let here = here_at terms net n t e s in
      all-map (IsImplied s.own) (PathImplied s.own) (path_of terms) (λ w h. (ap (λ (c : Condition). c ++ w.literals) h.0, h.1)) (event_ways terms here e (first_way terms (begun terms t e s)))
      (all_event_ways terms here (IsImplied s.own) (implied_kept here s.own) (is_here net n t e s good) (implied_decided s.own) e (first_way terms (begun terms t e s)) (begun_own terms t e s, tt))

  -- a node's own condition and the guards of what is fresh hold
  abbrev GuardHolds : Parcel Term → Type 0
  GuardHolds p = Holds p.packet.guard

  abbrev OwnHolds : Node Term → Type 0
  OwnHolds y = Holds y.state.own

  abbrev NodeHolds : Node Term → Type 0
  NodeHolds y = OwnHolds y × AllByRecursion GuardHolds y.fresh

  -- The condition implies each node's own condition and what guards the fresh parcels; the own conditions together imply it.
  record Implies (count : ℕ) (s : Scenario Term) : Type 0 where
    fits : length s.nodes ≡ count
    each : Holds s.condition → AllByRecursion NodeHolds s.nodes
    together : AllByRecursion OwnHolds s.nodes → Holds s.condition

  posted_holds : (i : ℕ) (ps : List (Parcel Term)) (ys : List (Node Term)) → AllByRecursion GuardHolds ps → AllByRecursion NodeHolds ys → AllByRecursion NodeHolds (posted i ps ys)
  posted_holds i ps [] p h = tt
  posted_holds i ps (y ∷ ys) p h =
      let mine = filter (λ (q : Parcel Term). nat_eq q.packet.to i) ps in
      ((h.0.0, all-put_all GuardHolds parcel_le mine y.fresh (all-filter GuardHolds (λ (q : Parcel Term). nat_eq q.packet.to i) ps p) h.0.1), posted_holds (i + 1) ps ys p h.1)

  unposted : (i : ℕ) (ps : List (Parcel Term)) (ys : List (Node Term)) → AllByRecursion OwnHolds (posted i ps ys) → AllByRecursion OwnHolds ys
  unposted i ps [] h = tt
  unposted i ps (y ∷ ys) h = (h.0, unposted (i + 1) ps ys h.1)

  -- of nodes of which one was replaced: it, and all, if the one before held too
  replaced : (ys : List (Node Term)) (n : ℕ) (z d : Node Term) → n < length ys → AllByRecursion OwnHolds (set ys n z) → (OwnHolds z → OwnHolds (get_or ys n d)) → OwnHolds z × AllByRecursion OwnHolds ys
  replaced [] n z d inside h f = absurd (omega arith)
  replaced (y ∷ ys) zero z d inside h f = (h.0, (f h.0, h.1))
  replaced (y ∷ ys) (suc n) z d inside h f = let rest = replaced ys n z d (omega arith) h.1 f in (rest.0, (h.0, rest.1))

  copy_implies : (s : Scenario Term) (count n : ℕ) (e : Event) (p : Path Term) → n < count → Implies count s → PathImplied (node_at terms s n).state.own p → Implies count (copied terms s n e p)
  copy_implies s count n e p inside h path =
      let y = node_at terms s n in
      let ps = parcels terms y p in
      let after = node_after terms e y p in
      let long = h.fits in
      record {
        fits = length-posted 0 ps (set s.nodes n after) ∙ (length-set s.nodes n after ∙ h.fits);
        each = λ i.
            let x = parts_hold s.condition p.literals i in
            let nodes = h.each x.0 in
            let before : NodeHolds y = all-get_or NodeHolds s.nodes n (opening_node terms no_plan) nodes (refl, tt) in
            let own : Holds (y.state.own ++ p.literals) = join_holds y.state.own p.literals before.0 x.1 in
            posted_holds 0 ps (set s.nodes n after)
            (all-map (λ (q : Packet Term). Holds (y.state.own ++ p.literals) → Holds q.guard) GuardHolds (λ (q : Packet Term). record { packet = q; history = y.history }) (λ q f. f own) p.sends path.1)
            (all-set NodeHolds s.nodes n after nodes (subst Holds (sym path.0) own, before.1));
        together = λ i.
            let parts = replaced s.nodes n after (opening_node terms no_plan) (omega (arith, inside, long)) (unposted 0 ps (set s.nodes n after) i) (λ j. longer_implies y.state.own p.literals (subst Holds path.0 j)) in
            let own = parts_hold y.state.own p.literals (subst Holds path.0 parts.0) in
            join_holds s.condition p.literals (h.together parts.1) own.1;
      }

  module _ (net : Network) (t : ℕ) (good : IsNet net) where
    abbrev All : List (Scenario Term) → Type 0
    All us = AllByRecursion (Implies (length net.nodes)) us

    copies_imply : (n : ℕ) → n < length net.nodes → (s : Scenario Term) → Implies (length net.nodes) s → All (copies terms net n t s)
    copies_imply n inside s h = go (due net.limits.ticks t (node_at terms s n).state)
      where
        go : (o : Option Event) → All (copies_of terms net n t s o)
        go None = (h, tt)
        go (Some e) =
            let y = node_at terms s n in
            all-map (PathImplied y.state.own) (Implies (length net.nodes)) (copied terms s n e) (λ p i. copy_implies s (length net.nodes) n e p inside h i)
            (event_paths terms net n t e y.state) (paths_implied net n t e y.state good)

    -- what comes of scenarios of which it holds
    then_implies : (go : Scenario Term → List (Scenario Term)) → ((s : Scenario Term) → Implies (length net.nodes) s → All (go s)) → (us : List (Scenario Term)) → All us → All (flat_map go us)
    then_implies go f us h = all-flat (Implies (length net.nodes)) go us (all-weaker (Implies (length net.nodes)) (λ u. All (go u)) f us h)

    turns_imply : (n fuel : ℕ) → n < length net.nodes → (s : Scenario Term) → Implies (length net.nodes) s → All (turns terms net n t fuel s)
    turns_imply n zero inside s h = (h, tt)
    turns_imply n (suc fuel) inside s h = then_implies (turns terms net n t fuel) (turns_imply n fuel inside) (copies terms net n t s) (copies_imply n inside s h)

    from_imply : (count n : ℕ) → n + count ≤ length net.nodes → (s : Scenario Term) → Implies (length net.nodes) s → All (settled_from terms net t n count s)
    from_imply zero n e s h = (h, tt)
    from_imply (suc count) n e s h =
        then_implies (settled_from terms net t (n + 1) count) (from_imply count (n + 1) (omega (arith, e))) (settled terms net t n s)
        (turns_imply n (left net.limits.ticks t (node_at terms s n).state) (omega (arith, e)) s h)

  -- closing joins guards that hold
  got_holds : (ps : List (Parcel Term)) (y : Node Term) → OwnHolds y → AllByRecursion GuardHolds ps → OwnHolds (got_all y ps)
  got_holds [] y h p = h
  got_holds (q ∷ ps) y h p = got_holds ps (got y q) (join_holds y.state.own q.packet.guard h p.0) p.1

  before_got : (ps : List (Parcel Term)) (y : Node Term) → OwnHolds (got_all y ps) → OwnHolds y
  before_got [] y h = h
  before_got (q ∷ ps) y h = longer_implies y.state.own q.packet.guard (before_got ps (got y q) h)

  closed_each : (ys : List (Node Term)) → AllByRecursion NodeHolds ys → AllByRecursion NodeHolds (map close_node ys)
  closed_each [] h = tt
  closed_each (y ∷ ys) h = ((got_holds y.fresh y h.0.0 h.0.1, tt), closed_each ys h.1)

  before_closed : (ys : List (Node Term)) → AllByRecursion OwnHolds (map close_node ys) → AllByRecursion OwnHolds ys
  before_closed [] h = tt
  before_closed (y ∷ ys) h = (before_got y.fresh y h.0, before_closed ys h.1)

  close_length : (ys : List (Node Term)) → length (map close_node ys) ≡ length ys
  close_length [] = refl
  close_length (y ∷ ys) = ap suc (close_length ys)

  close_implies : (count : ℕ) (s : Scenario Term) → Implies count s → Implies count (close s)
  close_implies count s h = record {
    fits = close_length s.nodes ∙ h.fits;
    each = λ i. closed_each s.nodes (h.each i);
    together = λ i. h.together (before_closed s.nodes i);
  }

  opening_each : (plans : List Plan) → AllByRecursion NodeHolds (map (opening_node terms) plans)
  opening_each [] = tt
  opening_each (p ∷ plans) = ((refl, tt), opening_each plans)

  members_imply : (net : Network) (t : ℕ) (good : IsNet net) → All net t good (cob terms net t)
  members_imply net zero good = (record { fits = opening_length net.nodes; each = λ i. opening_each net.nodes; together = λ i. refl }, tt)
  members_imply net (suc t) good =
      then_implies net t good (finish terms net t)
      (λ s h. all-map (Implies (length net.nodes)) (Implies (length net.nodes)) close (close_implies (length net.nodes)) (rest_of_tick terms net t s) (from_imply net t good (length net.nodes) 0 (omega arith) s h))
      (cob terms net t) (members_imply net t good)

  -- what is met within a tick
  met_implies : (net : Network) (t n : ℕ) (s : Scenario Term) (good : IsNet net) → MetAt terms net t n s → Implies (length net.nodes) s
  met_implies net t n s good m =
      let start = all-contains (Implies (length net.nodes)) (cob terms net t) m.start (members_imply net t good) m.member in
      let inside = m.inside in
      let before = all-contains (Implies (length net.nodes)) (settled_from terms net t 0 n m.start) m.before (from_imply net t good n 0 (omega (arith, inside)) m.start start) m.reached in
      all-contains (Implies (length net.nodes)) (turns terms net n t m.count m.before) s (turns_imply net t good n m.count m.inside m.before before) m.turned

  -- its condition implies each node's own condition
  pub met_own_implied : (net : Network) (t n : ℕ) (s : Scenario Term) (y : Node Term) → IsNet net → MetAt terms net t n s → Contains s.nodes y → holds a s.condition ≡ true → holds a y.state.own ≡ true
  met_own_implied net t n s y good m d h =
      let node : NodeHolds y = all-contains NodeHolds s.nodes y ((met_implies net t n s good m).each h) d in
      node.0

  -- a member's condition implies each node's own condition
  pub own_implied : (net : Network) (t : ℕ) (s : Scenario Term) (y : Node Term) → IsNet net → Contains (cob terms net t) s → Contains s.nodes y → holds a s.condition ≡ true → holds a y.state.own ≡ true
  own_implied net t s y good c d h =
      let it : Implies (length net.nodes) s = all-contains (Implies (length net.nodes)) (cob terms net t) s (members_imply net t good) c in
      let node : NodeHolds y = all-contains NodeHolds s.nodes y (it.each h) d in
      node.0

  -- the own conditions, one behind another
  picked_holds : (ys : List (Node Term)) → AllByRecursion OwnHolds ys → Holds (pick_condition ys)
  picked_holds [] h = refl
  picked_holds (y ∷ ys) h = join_holds y.state.own (pick_condition ys) h.0 (picked_holds ys h.1)

  each_picked : (ys : List (Node Term)) → Holds (pick_condition ys) → AllByRecursion OwnHolds ys
  each_picked [] h = tt
  each_picked (y ∷ ys) h = let x = parts_hold y.state.own (pick_condition ys) h in (x.0, each_picked ys x.1)

  same_tests : (x y : Bool) → (x ≡ true → y ≡ true) → (y ≡ true → x ≡ true) → x ≡ y
  same_tests true y f g = sym (f refl)
  same_tests false true f g = g refl
  same_tests false false f g = refl

  -- a member's condition holds exactly where its nodes' own conditions do
  pub condition_is_own : (net : Network) (t : ℕ) (s : Scenario Term) → IsNet net → Contains (cob terms net t) s → holds a s.condition ≡ holds a (pick_condition s.nodes)
  condition_is_own net t s good c =
      let it : Implies (length net.nodes) s = all-contains (Implies (length net.nodes)) (cob terms net t) s (members_imply net t good) c in
      same_tests (holds a s.condition) (holds a (pick_condition s.nodes))
      (λ h. picked_holds s.nodes (all-weaker NodeHolds OwnHolds (λ y i. i.0) s.nodes (it.each h)))
      (λ h. it.together (each_picked s.nodes h))

-- the own conditions of nodes are those of their states
pub picked_is_joined : (ys : List (Node Term)) → pick_condition ys ≡ joined (map (λ (y : Node Term). y.state) ys)
picked_is_joined [] = refl
picked_is_joined (y ∷ ys) = ap (λ (c : Condition). y.state.own ++ c) (picked_is_joined ys)

-- the one item that passes a test
kept_length : {A : Type 0} (test : A → Bool) (x : A) → test x ≡ true → (xs : List A) (k : ℕ) → k < length xs → get_or xs k x ≡ x → length (filter test xs) ≡ 0 → ⊥
kept_length test x h [] k inside e z = omega arith
kept_length {A} test x h (y ∷ ys) zero inside e z = go (test y) (ap test e ∙ h) z
  where
    go : (b : Bool) → b ≡ true → length (cond b (y ∷ filter test ys) (filter test ys)) ≡ 0 → ⊥
    go true g z = omega (arith, z)
    go false g z = cc
kept_length {A} test x h (y ∷ ys) (suc k) inside e z = go (test y) z (λ w. kept_length test x h ys k (omega arith) e w)
  where
    go : (b : Bool) → length (cond b (y ∷ filter test ys) (filter test ys)) ≡ 0 → (length (filter test ys) ≡ 0 → ⊥) → ⊥
    go true z ih = omega (arith, z)
    go false z ih = ih z

sole_item : {A : Type 0} (test : A → Bool) (x : A) → test x ≡ true → (xs : List A) (k : ℕ) → k < length xs → get_or xs k x ≡ x → length (filter test xs) ≡ 1 → filter test xs ≡ x ∷ []
sole_item test x h [] k inside e one = absurd (omega arith)
sole_item {A} test x h (y ∷ ys) zero inside e one = go (test y) (ap test e ∙ h) one
  where
    none : (zs : List A) → length zs ≡ 0 → zs ≡ []
    none [] z = refl
    none (z ∷ zs) i = absurd (omega (arith, i))

    go : (b : Bool) → b ≡ true → length (cond b (y ∷ filter test ys) (filter test ys)) ≡ 1 → cond b (y ∷ filter test ys) (filter test ys) ≡ x ∷ []
    go true g i = ap (λ (zs : List A). y ∷ zs) (none (filter test ys) (omega (arith, i))) ∙ ap (λ (z : A). z ∷ []) e
    go false g i = absurd cc
sole_item {A} test x h (y ∷ ys) (suc k) inside e one = go (test y) one (sole_item test x h ys k (omega arith) e) (kept_length test x h ys k (omega arith) e)
  where
    go : (b : Bool) → length (cond b (y ∷ filter test ys) (filter test ys)) ≡ 1 → (length (filter test ys) ≡ 1 → filter test ys ≡ x ∷ []) → (length (filter test ys) ≡ 0 → ⊥)
        → cond b (y ∷ filter test ys) (filter test ys) ≡ x ∷ []
    go true i ih some = absurd (some (omega (arith, i)))
    go false i ih some = ih i

length_map : {A B : Type 0} (f : A → B) (xs : List A) → length (map f xs) ≡ length xs
length_map f [] = refl
length_map f (x ∷ xs) = ap suc (length_map f xs)

-- the run on inputs under which a member's condition holds ends as this member
pub ends_as_member : (net : Network) (a : Valuation) (t : ℕ) (s : Scenario Term) → IsNet net → Contains (cob terms net t) s → holds a s.condition ≡ true → concrete net a t ≡ scenario_under a s ∷ []
ends_as_member net a t s good c h =
    let live : Scenario Term → Bool = λ u. holds a u.condition in
    let covers = members.coverage a net t good in
    let one : length (filter live (cob terms net t)) ≡ 1 = sym (length_map (scenario_under a) (filter live (cob terms net t))) ∙ (ap length covers ∙ runs.one_run a net t) in
    sym covers ∙ ap (map (scenario_under a)) (sole_item live s h (cob terms net t) c.0 c.1 c.2 one)

-- and so on inputs that meet the own conditions of its nodes
pub run_ends_as_member : (net : Network) (a : Valuation) (t : ℕ) (s : Scenario Term) → IsNet net → Contains (cob terms net t) s → holds a (pick_condition s.nodes) ≡ true → concrete net a t ≡ scenario_under a s ∷ []
run_ends_as_member net a t s good c h = ends_as_member net a t s good c (condition_is_own a net t s good c ∙ h)

-- what a report shows of nodes it shows of what a valuation makes of them
pub run_shows : (a : Valuation) (r : Report) (p : List ℕ) (ys : List (Node Term)) → Shows r p ys → RunShows r p (map (node_under a) ys)
run_shows a r [] [] h = tt
run_shows a r [] (y ∷ ys) h = absurd h
run_shows a r (i ∷ p) [] h = absurd h
run_shows a r (i ∷ p) (y ∷ ys) h = (h.0, run_shows a r p ys h.1)
