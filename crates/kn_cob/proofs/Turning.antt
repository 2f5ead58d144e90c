-- Steps of an exploration: a turn, all events of a node, and a tick's end.
use Rattle.std.proofs.Common.{◌≡◌, inl, inr, ℕ, zero, suc, ◌+◌, ◌-◌, ◌<◌, ◌≤◌, Bool, true, false, List, [], ◌∷◌, ◌++◌, length, map, flat_map, Option, Some, None, refl, sym, ap, subst, ◌∙◌, arith, append_assoc, append-nil}
use Rattle.std.specs.Prelude.{Contains, ◌||◌, is_some, nat_lt, Result, Ok, Err, IfErr, ⊤}
use Rattle.std.specs.List.{AllByRecursion}
use Rattle.std.proofs.lemmas.Bool.{ltb-true, ltb-false}
use Rattle.std.proofs.lemmas.Grind.{flat_map-append}
use Rattle.kn_packet.specs.declared.packet.Event.{Event}
use Rattle.kn_node.specs.Due as kept
use Rattle.kn_model.specs.Terms.{Term, terms}
use Rattle.kn_model.specs.Nets.{Network}
use Rattle.kn_model.specs.Due.{due, left}
use Rattle.kn_model.specs.Limits.{TooManyCopies, IsOverCopied}
use Rattle.kn_model.specs.Scenarios.{Scenario, node_at, copies, copies_of, turns, settled, close}
use Rattle.kn_model.specs.Nodes.{Node}
use Rattle.kn_model.specs.Alikes.{OneByOne}
use Rattle.kn_model.specs.Shapes.{IsLost}
use Rattle.kn_model.specs.Laws.{IsNet}
use Rattle.kn_model.proofs.OwnGrows.{close_lost}
use Rattle.kn_model.proofs.Settling.{enough}
use Rattle.kn_machine.specs.Views.{state_of, own_of}
use Rattle.kn_machine.specs.Paths.{PathView}
use Rattle.kn_step.specs.declared.path.LimitKind.{LimitKind}
use Rattle.kn_step.specs.declared.path.LimitKind.TheVariants as kinds
use Rattle.kn_step.specs.declared.path.LimitAt.{LimitAt}
use Rattle.kn_step.proofs.DueEvents.{same_due}
use Rattle.kn_cob.specs.Nodes.{NodeView}
use Rattle.kn_cob.specs.Copies.{AreNodes, IsCopy, AreCopies, node_in, along}
use Rattle.kn_cob.specs.Closing.{AreShut, IsStanding, IsClosed, HasShutOut, AreStarts, configs_in}
use Rattle.kn_cob.specs.Runs.{EndsGiven}
use Rattle.kn_cob.specs.Ticks.{so_far, some_due, limit_of, IsMetCopy, AreTurned, IsSettling, IsRun, StopsIn, StopsAt, IsPassed}
use Rattle.kn_cob.specs.declared.stop.Stop.{Stop}
use Rattle.kn_cob.specs.declared.stop.Stop.TheVariants as stops
use Rattle.kn_cob.proofs.Given.{copies_append, copies_none, copies_after}
use Rattle.kn_cob.proofs.Lost.{turns_lost}
use Rattle.kn_cob.proofs.Ticks.{met_at, turns_last, so_far_next, flat_flat}
use Rattle.kn_cob.proofs.Reaching.{turned_over, settled_over}
use Rattle.kn_cob.proofs.Paths.{due_same, event_copies, over_paths}
use Rattle.kn_cob.proofs.Closing.{copy_ends, closed_copy, closed_lost}
use Rattle.kn_cob.proofs.EachNode.{as_many}
use Rattle.kn_cob.proofs.Looping.{AtNext}

-- an item of a list in two parts
there_in : {A : Type 0} (xs done rest : List A) (x : A) → xs ≡ done ++ (x ∷ rest) → Contains xs x
there_in {A} xs done rest x e = subst (λ (l : List A). Contains l x) (sym e) (at done)
  where
    at : (ys : List A) → Contains (ys ++ (x ∷ rest)) x
    at [] = (0, omega arith, refl)
    at (y ∷ ys) = let r = at ys in let k = r.1 in (suc r.0, omega (arith, k), r.2)

-- what comes of the front of a list, and of the rest
front_of : {A B : Type 0} (g : A → List B) (xs done rest : List A) → xs ≡ done ++ rest → flat_map g xs ≡ flat_map g done ++ flat_map g rest
front_of g xs done rest e = ap (flat_map g) e ∙ flat_map-append g done rest

-- a copy has as many nodes as the network
pub many_nodes : (net : Network) (t : ℕ) (xs : List NodeView) (s : Scenario Term) → IsCopy net t xs s → length xs ≡ length net.nodes
many_nodes net t xs s c = as_many net t 0 xs s.nodes c.nodes ∙ c.whole

pub node_inside : (net : Network) (t n : ℕ) (xs : List NodeView) (s : Scenario Term) → n < length net.nodes → IsCopy net t xs s → n < length xs
node_inside net t n xs s inside c = let long = many_nodes net t xs s c in omega (arith, inside, long)

-- what is known of an error is weakened
pub err_weaker : {T E : Type 0} (r : Result T E) (P Q : E → Type 0) → ((e : E) → P e → Q e) → IfErr r P → IfErr r Q
err_weaker (Ok x) P Q h p = tt
err_weaker (Err e) P Q h p = h e p

module _ (net : Network) (t n : ℕ) where
  -- whether an event is due of what is kept, and of the definition's node
  kept_due : (xs : List NodeView) (s : Scenario Term) → t < net.limits.ticks → n < length net.nodes → IsCopy net t xs s → kept.due t (node_in xs n).config.machine ≡ due net.limits.ticks t (node_at terms s n).state
  kept_due xs s early inside c =
      let config = (node_in xs n).config in
      sym (same_due net.limits.ticks t config.terms config.machine config.trace (own_of config) early) ∙ due_same net t n xs s inside c

  is_none : {A : Type 0} (o : Option A) → is_some o ≡ false → o ≡ None
  is_none None e = refl
  is_none (Some x) e = absurd cc

  -- nothing is due of the definition's node either
  pub idle : (xs : List NodeView) (s : Scenario Term) → t < net.limits.ticks → n < length net.nodes → IsCopy net t xs s → is_some (kept.due t (node_in xs n).config.machine) ≡ false → due net.limits.ticks t (node_at terms s n).state ≡ None
  idle xs s early inside c e = sym (kept_due xs s early inside c) ∙ is_none (kept.due t (node_in xs n).config.machine) e

  -- where something is due, it is due of the state
  pub busy : (xs : List NodeView) → t < net.limits.ticks → is_some (kept.due t (node_in xs n).config.machine) ≡ true → due net.limits.ticks t (state_of (node_in xs n).config) ≡ None → ⊥
  busy xs early e none =
      let config = (node_in xs n).config in
      let nothing : kept.due t config.machine ≡ None = sym (same_due net.limits.ticks t config.terms config.machine config.trace (own_of config) early) ∙ none in
      let wrong : false ≡ true = sym (ap is_some nothing) ∙ e in
      absurd cc

  -- what stopped a node's event stops the exploration
  pub stops_over : (xs : List NodeView) → IsNet net → IsMetCopy net t n xs → (stop : Stop) → StopsIn net t (node_in xs n).config stop → StopsAt net t stop
  stops_over xs good m (stops.Memory e) h = tt
  stops_over xs good m (stops.Limit at) h = (h.1, subst (λ (k : LimitKind). IsOverCopied net t (limit_of k)) (sym h.0) (over_paths net t n xs m.scenario h.2.event h.2.prefixes good m.of m.met h.2.are))

  -- copies along the paths of an event are copies of what comes of the scenario
  pub kept_along : (xs : List NodeView) (s : Scenario Term) (ps : List PathView) (out : List (List NodeView)) (before : List (Scenario Term)) → IsNet net → n < length net.nodes → IsCopy net t xs s → IsRun net t (node_in xs n).config ps → AreCopies net t out before
      → AreCopies net t (out ++ map (along xs n) ps) (before ++ copies terms net n t s)
  kept_along xs s ps out before good inside c run h = copies_append net t out (map (along xs n) ps) before (copies terms net n t s) h (event_copies net t n xs s run.0 ps good inside c run.1)

  -- and it stays as it is, turn by turn
  pub idle_copies : (s : Scenario Term) → due net.limits.ticks t (node_at terms s n).state ≡ None → copies terms net n t s ≡ s ∷ []
  idle_copies s none = ap (λ (o : Option Event). copies_of terms net n t s o) none

  idle_turns : (m : ℕ) (s : Scenario Term) → due net.limits.ticks t (node_at terms s n).state ≡ None → turns terms net n t m s ≡ s ∷ []
  idle_turns zero s none = refl
  idle_turns (suc m) s none = ap (flat_map (turns terms net n t m)) (idle_copies s none) ∙ (append-nil (turns terms net n t m s) ∙ idle_turns m s none)

  pub idle_settled : (s : Scenario Term) → due net.limits.ticks t (node_at terms s n).state ≡ None → settled terms net t n s ≡ s ∷ []
  idle_settled s none = idle_turns (left net.limits.ticks t (node_at terms s n).state) s none

  -- a copy of which nothing is due is a copy of what comes of its scenario
  pub kept_idle : (xs : List NodeView) (s : Scenario Term) (out : List (List NodeView)) (before us : List (Scenario Term)) → us ≡ s ∷ [] → IsCopy net t xs s → AreCopies net t out before → AreCopies net t (out ++ xs ∷ []) (before ++ us)
  kept_idle xs s out before us e c h = subst (λ (l : List (Scenario Term)). AreCopies net t (out ++ xs ∷ []) (before ++ l)) (sym e) (copies_append net t out (xs ∷ []) before (s ∷ []) h (inl (c, tt)))

  -- more turns, after so many
  turns_more : (k m : ℕ) (s : Scenario Term) → turns terms net n t (k + m) s ≡ flat_map (turns terms net n t m) (turns terms net n t k s)
  turns_more zero m s = let none : 0 + m ≡ m = omega arith in ap (λ (j : ℕ). turns terms net n t j s) none ∙ sym (append-nil (turns terms net n t m s))
  turns_more (suc k) m s =
      let one : suc k + m ≡ suc (k + m) = omega arith in
      ap (λ (j : ℕ). turns terms net n t j s) one ∙ flat_flat (turns terms net n t k) (turns terms net n t m) (turns terms net n t (k + m)) (turns_more k m) (copies terms net n t s)

  -- one turn more
  pub next_turn : (k : ℕ) (s : Scenario Term) (cs : List (List NodeView)) → AreCopies net t cs (flat_map (copies terms net n t) (turns terms net n t k s)) → AreCopies net t cs (turns terms net n t (k + 1) s)
  next_turn k s cs h =
      let one : suc k ≡ k + 1 = omega arith in
      subst (λ (j : ℕ). AreCopies net t cs (turns terms net n t j s)) one (subst (AreCopies net t cs) (sym (turns_last net n t k s)) h)

  module _ (good : IsNet net) (early : t < net.limits.ticks) (inside : n < length net.nodes) where
    -- Where nothing is due in any copy, more turns change nothing.
    still_turns : (m : ℕ) (cs : List (List NodeView)) (ss : List (Scenario Term)) → AreCopies net t cs ss → some_due t n cs ≡ false → AreCopies net t cs (flat_map (turns terms net n t m) ss)
    still_turns m [] [] h e = tt
    still_turns m (c ∷ cs) [] h e = absurd h
    still_turns m [] (s ∷ ss) h e = copies_after net t [] (turns terms net n t m s) (flat_map (turns terms net n t m) ss) (turns_lost net n t m good s h.0) (still_turns m [] ss h.1 e)
    still_turns m (c ∷ cs) (s ∷ ss) (inr h) e =
        copies_after net t (c ∷ cs) (turns terms net n t m s) (flat_map (turns terms net n t m) ss) (turns_lost net n t m good s h.0) (still_turns m (c ∷ cs) ss h.1 e)
    still_turns m (c ∷ cs) (s ∷ ss) (inl h) e =
        let none = idle c s early inside h.0 (or_left (is_some (kept.due t (node_in c n).config.machine)) (some_due t n cs) e) in
        let rest = still_turns m cs ss h.1 (or_right (is_some (kept.due t (node_in c n).config.machine)) (some_due t n cs) e) in
        subst (λ (l : List (Scenario Term)). AreCopies net t (c ∷ cs) (l ++ flat_map (turns terms net n t m) ss)) (sym (idle_turns m s none)) (inl (h.0, rest))
      where
        or_left : (a b : Bool) → (a || b) ≡ false → a ≡ false
        or_left true b h = absurd cc
        or_left false b h = refl

        or_right : (a b : Bool) → (a || b) ≡ false → b ≡ false
        or_right true b h = absurd cc
        or_right false b h = h

    -- So after at most as many turns as are left they are all that comes of the scenario.
    pub still_settled : (k : ℕ) (cs : List (List NodeView)) (s : Scenario Term) → k ≤ left net.limits.ticks t (node_at terms s n).state → AreCopies net t cs (turns terms net n t k s) → some_due t n cs ≡ false → AreCopies net t cs (settled terms net t n s)
    still_settled k cs s few h e =
        let all = left net.limits.ticks t (node_at terms s n).state in
        let m = all - k in
        let same : k + m ≡ all = omega (arith, few) in
        subst (λ (j : ℕ). AreCopies net t cs (turns terms net n t j s)) same (subst (AreCopies net t cs) (sym (turns_more k m s)) (still_turns m cs (turns terms net n t k s) h e))

    -- where something is due in some copy, it is due in a scenario
    due_one : (cs : List (List NodeView)) (ss : List (Scenario Term)) → AreCopies net t cs ss → some_due t n cs ≡ true → AllByRecursion (λ (u : Scenario Term). due net.limits.ticks t (node_at terms u n).state ≡ None) ss → ⊥
    due_one [] [] h e none = absurd cc
    due_one (c ∷ cs) [] h e none = h
    due_one [] (s ∷ ss) h e none = absurd cc
    due_one (c ∷ cs) (s ∷ ss) (inr h) e none = due_one (c ∷ cs) ss h.1 e none.1
    due_one (c ∷ cs) (s ∷ ss) (inl h) e none =
        let nothing : is_some (kept.due t (node_in c n).config.machine) ≡ false = ap is_some (kept_due c s early inside h.0 ∙ none.0) in
        due_one cs ss h.1 (sym (ap (λ (b : Bool). b || some_due t n cs) nothing) ∙ e) none.1

    -- and fewer turns have run than are left.
    pub some_left : (k : ℕ) (cs : List (List NodeView)) (s : Scenario Term) → length s.nodes ≡ length net.nodes → AreCopies net t cs (turns terms net n t k s) → some_due t n cs ≡ true → k < left net.limits.ticks t (node_at terms s n).state
    some_left k cs s whole h e = go (nat_lt k all) refl
      where
        all : ℕ
        all = left net.limits.ticks t (node_at terms s n).state

        go : (b : Bool) → nat_lt k all ≡ b → k < all
        go true e' = ltb-true k all e'
        go false e' =
            let over = ltb-false k all e' in
            absurd (due_one cs (turns terms net n t k s) h e (enough net n t good k s (omega (arith, inside, whole)) (omega (arith, over))))

    -- the next copy of a turn is met
    pub next_met : (list : List (List NodeView)) (a : AreTurned net t n list) (out yielded : List (List NodeView)) (c : List NodeView) → AtNext net t t (copies terms net n t) out c list yielded (turns terms net n t a.count a.start) → IsMetCopy net t n c
    next_met list a out yielded c m = record {
      scenario = m.scenario;
      of = m.copy;
      met = met_at net t n a.count a.start m.scenario a.turning (there_in (turns terms net n t a.count a.start) m.done m.left m.scenario m.parts);
    }

    -- too many copies in a turn
    pub many_in_turn : (list : List (List NodeView)) (a : AreTurned net t n list) (out yielded : List (List NodeView)) (c : List NodeView) (m : AtNext net t t (copies terms net n t) out c list yielded (turns terms net n t a.count a.start))
        → (new : List (List NodeView)) → AreCopies net t new (flat_map (copies terms net n t) m.done ++ copies terms net n t m.scenario) → net.limits.dstates < length new → TooManyCopies net t
    many_in_turn list a out yielded c m new h many =
        let g = copies terms net n t in
        turned_over net t n a.count a.start good a.turning (flat_map g m.done ++ g m.scenario) (flat_map g m.left)
        (front_of g (turns terms net n t a.count a.start) m.done (m.scenario ∷ m.left) m.parts ∙ sym (append_assoc (flat_map g m.done) (g m.scenario) (flat_map g m.left))) new h many

    -- the next copy once the nodes before n have run
    pub next_settling : (list out yielded : List (List NodeView)) (c : List NodeView) → AtNext net t t (settled terms net t n) out c list yielded (so_far net t n) → IsSettling net t n c
    next_settling list out yielded c m = record { scenario = m.scenario; from = there_in (so_far net t n) m.done m.left m.scenario m.parts; of = m.copy }

    -- too many copies after a node's events
    pub many_in_node : (list out yielded : List (List NodeView)) (c : List NodeView) (m : AtNext net t t (settled terms net t n) out c list yielded (so_far net t n))
        → (new : List (List NodeView)) → AreCopies net t new (flat_map (settled terms net t n) m.done ++ settled terms net t n m.scenario) → net.limits.dstates < length new → TooManyCopies net t
    many_in_node list out yielded c m new h many =
        let g = settled terms net t n in
        settled_over net t n good inside (flat_map g m.done ++ g m.scenario) (flat_map g m.left)
        (so_far_next net t n ∙ (front_of g (so_far net t n) m.done (m.scenario ∷ m.left) m.parts ∙ sym (append_assoc (flat_map g m.done) (g m.scenario) (flat_map g m.left)))) new h many

    -- one turn of all events of a copy's node
    pub one_turned : (c : List NodeView) (is : IsSettling net t n c) (k : ℕ) (list : List (List NodeView)) → AreCopies net t list (turns terms net n t k is.scenario) → some_due t n list ≡ true → AreTurned net t n list
    one_turned c is k list h e = record {
      start = is.scenario;
      count = k;
      turning = record { inside = inside; from = is.from; more = some_left k list is.scenario is.of.whole h e };
      are = h;
    }

-- too many copies stop an exploration
pub limit_stop : (net : Network) (t count : ℕ) (r : Result ⊤ LimitAt) (at : LimitAt) → IfErr r (λ (l : LimitAt). l.kind ≡ kinds.Dstates) → IfErr r (λ (l : LimitAt). l.tick ≡ t) → IfErr r (λ (l : LimitAt). net.limits.dstates < count)
    → (net.limits.dstates < count → TooManyCopies net t) → r ≡ Err at → StopsAt net t (stops.Limit at)
limit_stop net t count r at kind tick many over is =
    let known = subst (λ (r : Result ⊤ LimitAt). IfErr r (λ (l : LimitAt). l.kind ≡ kinds.Dstates)) is kind in
    let then = subst (λ (r : Result ⊤ LimitAt). IfErr r (λ (l : LimitAt). l.tick ≡ t)) is tick in
    (then, subst (λ (k : LimitKind). IsOverCopied net t (limit_of k)) (sym known) (over (subst (λ (r : Result ⊤ LimitAt). IfErr r (λ (l : LimitAt). net.limits.dstates < count)) is many)))

-- each copy has as many nodes as the network
pub long_copies : (net : Network) (t n : ℕ) → n < length net.nodes → (cs : List (List NodeView)) (ss : List (Scenario Term)) → AreCopies net t cs ss → AllByRecursion (λ (c : List NodeView). n < length c) cs
long_copies net t n inside [] ss h = tt
long_copies net t n inside (c ∷ cs) [] h = absurd h
long_copies net t n inside (c ∷ cs) (s ∷ ss) (inl h) = (node_inside net t n c s inside h.0, long_copies net t n inside cs ss h.1)
long_copies net t n inside (c ∷ cs) (s ∷ ss) (inr h) = long_copies net t n inside (c ∷ cs) ss h.1

-- what is known of the nodes of a copy is right
pub nodes_stand : (net : Network) (t n : ℕ) (xs : List NodeView) (ys : List (Node Term)) → AreNodes net t n xs ys → AllByRecursion (IsStanding net) xs
nodes_stand net t n [] ys h = tt
nodes_stand net t n (x ∷ xs) [] h = absurd h
nodes_stand net t n (x ∷ xs) (y ∷ ys) h = (h.0.standing, nodes_stand net t (n + 1) xs ys h.1)

-- nodes at their start were sent nothing
pub starts_shut : (net : Network) (n : ℕ) (xs : List NodeView) → AreStarts net n xs → AreShut xs
starts_shut net n [] h = tt
starts_shut net n (x ∷ xs) h = (h.0.nothing, starts_shut net (n + 1) xs h.1)

-- what closed nodes were sent has joined their states
pub shut_nodes : (net : Network) (xs zs : List NodeView) → OneByOne (IsClosed net) xs zs → AreShut zs
shut_nodes net [] [] h = tt
shut_nodes net [] (z ∷ zs) h = absurd h
shut_nodes net (x ∷ xs) [] h = absurd h
shut_nodes net (x ∷ xs) (z ∷ zs) h = (empty h.0, shut_nodes net xs zs h.1)
  where
    empty : IsClosed net x z → z.inbox ≡ []
    empty (inl i) = i.1
    empty (inr i) = ap (λ (v : NodeView). v.inbox) i.1 ∙ i.0

-- a closed copy comes behind the others, or none where a node is shut out
pub put_closed : (net : Network) (t : ℕ) (xs zs : List NodeView) (s : Scenario Term) (out : List (List NodeView)) (before : List (Scenario Term)) → OneByOne (IsClosed net) xs zs → IsCopy net t xs s → AreCopies net (t + 1) out before → AreCopies net (t + 1) (out ++ zs ∷ []) (before ++ close s ∷ [])
put_closed net t xs zs s out before closed c h = copies_append net (t + 1) out (zs ∷ []) before (close s ∷ []) h (inl (closed_copy net t xs zs s c closed, tt))

pub put_lost : (net : Network) (t : ℕ) (xs : List NodeView) (s : Scenario Term) (out : List (List NodeView)) (before : List (Scenario Term)) → HasShutOut xs → IsCopy net t xs s → AreCopies net (t + 1) out before → AreCopies net (t + 1) out (before ++ close s ∷ [])
put_lost net t xs s out before gone c h =
    let long = many_nodes net t xs s c in
    let below = gone.inside in
    let lost = closed_lost net t gone.number xs s (omega (arith, below, long)) c gone.out in
    subst (λ (l : List (List NodeView)). AreCopies net (t + 1) l (before ++ close s ∷ [])) (append-nil out) (copies_append net (t + 1) out [] before (close s ∷ []) h (copies_none net (t + 1) (close s ∷ []) (lost, tt)))

-- a limit that stops a tick is passed
pub stop_passed : (net : Network) (t : ℕ) (stop : Stop) → t < net.limits.ticks → StopsAt net t stop → IsPassed net stop
stop_passed net t (stops.Memory e) early h = tt
stop_passed net t (stops.Limit at) early h = let same = h.0 in (omega (arith, same, early), subst (λ (k : ℕ). IsOverCopied net k (limit_of at.kind)) (sym h.0) h.1)

-- what is closed is lost where it was lost
pub closed_dead : (net : Network) (t : ℕ) → IsNet net → (s : Scenario Term) → IsLost net s → AllByRecursion (IsLost net) (close s ∷ [])
closed_dead net t good s h = (close_lost net t good s h, tt)

pub closed_each : (ss : List (Scenario Term)) → flat_map (λ (s : Scenario Term). close s ∷ []) ss ≡ map close ss
closed_each [] = refl
closed_each (s ∷ ss) = ap (λ (l : List (Scenario Term)). close s ∷ l) (closed_each ss)

-- copies at the last tick are the ends of their scenarios
pub ends_given : (net : Network) (t : ℕ) (cs : List (List NodeView)) (ss : List (Scenario Term)) → AllByRecursion AreShut cs → AreCopies net t cs ss → EndsGiven net (map configs_in cs) ss
ends_given net t [] [] e h = tt
ends_given net t (c ∷ cs) [] e h = absurd h
ends_given net t [] (s ∷ ss) e h = (h.0, ends_given net t [] ss e h.1)
ends_given net t (c ∷ cs) (s ∷ ss) e (inl h) = inl (copy_ends net t c s h.0 e.0, ends_given net t cs ss e.1 h.1)
ends_given net t (c ∷ cs) (s ∷ ss) e (inr h) = inr (h.0, ends_given net t (c ∷ cs) ss e h.1)
