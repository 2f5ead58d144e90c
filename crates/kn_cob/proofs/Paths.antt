-- What an event of a node as it is kept has to do with the event of the definition's node.
use Rattle.std.proofs.Common.{◌≡◌, inl, inr, ℕ, ◌+◌, ◌<◌, Bool, true, false, cond, List, [], ◌∷◌, length, map, get_or, set, Option, Some, None, refl, sym, ap, subst, ◌∙◌, arith}
use Rattle.std.specs.List.{AllByRecursion}
use Rattle.std.proofs.lemmas.List.{length-set}
use Rattle.std.proofs.lemmas.Option.{slice_get-get_or}
use Rattle.kn_term.specs.Terms.{Term}
use Rattle.kn_word.specs.Words.{one_if}
use Rattle.kn_cond.specs.Conditions.{that, IsImpossible}
use Rattle.kn_packet.specs.declared.packet.Event.{Event}
use Rattle.kn_packet.specs.Packets.{PacketView}
use Rattle.kn_model.specs.Terms.{terms}
use Rattle.kn_model.specs.Packets.{Packet, Parcel, Key, put_in, put_all, packet_le}
use Rattle.kn_model.specs.Nodes.{State, Node}
use Rattle.kn_model.specs.Nets.{Network, no_plan, opening_node}
use Rattle.kn_model.specs.Due.{due, left, is_open, boot_due, has, how_many, is_set_to}
use Rattle.kn_model.specs.Paths.{Path, event_paths, paths, paths_of, parcels, node_after}
use Rattle.kn_model.specs.Limits.{IsPrefix, TooManyPaths}
use Rattle.kn_model.specs.Shapes.{IsLost}
use Rattle.kn_model.specs.Scenarios.{Scenario, node_at, copied, copies, copies_of, receive}
use Rattle.kn_model.specs.Alikes.{OneByOne, WaitsAlike, TermAlike, ConditionAlike, AlikePath, AlikeSend, AreGiven, MetAt}
use Rattle.kn_model.specs.Laws.{IsNet, queued_all, IsSentBy}
use Rattle.kn_model.proofs.Lists.{all-map, all-weaker, of_map}
use Rattle.kn_model.proofs.OneByOne.{pairs-self}
use Rattle.kn_model.proofs.Along.{IsLater, path_with, due_along, paths_along}
use Rattle.kn_model.proofs.AlikeRows.{due_alike, left_alike}
use Rattle.kn_model.proofs.AlikeTerms.{send_self, given_of_alike}
use Rattle.kn_model.proofs.AlikeGiven.{alike_received}
use Rattle.kn_model.proofs.AlikePrefixes.{alike_prefixes}
use Rattle.kn_model.proofs.Sending.{sends_later}
use Rattle.kn_model.proofs.Settling.{put_all_counts, get_or-set_same, length-posted, all-both}
use Rattle.kn_model.proofs.Commuting.{get_or-posted}
use Rattle.kn_machine.specs.Views.{packet_of, state_of}
use Rattle.kn_machine.specs.Paths.{PathView, path_seen}
use Rattle.kn_step.specs.Given.{IsKept, AreKept}
use Rattle.kn_step.specs.Laws.{bits_of}
use Rattle.kn_step.specs.Answers.{IsReady, paths_from, AreRun, AreTooMany}
use Rattle.kn_step.proofs.OverLimit.{over_means}
use Rattle.kn_cob.specs.Nodes.{NodeView, waiting, AreFrom, IsNode}
use Rattle.kn_cob.specs.Copies.{IsCopy, AreCopies, node_in, along}
use Rattle.kn_cob.proofs.EachNode.{in_copy, nodes_set}
use Rattle.kn_cob.proofs.Senders.{senders_paths}
use Rattle.kn_cob.proofs.Sending.{mailed_nodes, as_parcels}

-- what is said of the packets of a queue that packets were put into is said of those that were there before
all_in : (P : Packet Term → Type 0) (p : Packet Term) (q : List (Packet Term)) → AllByRecursion P (put_in packet_le p q) → AllByRecursion P q
all_in P p [] h = tt
all_in P p (x ∷ q) h = go (packet_le p x) h (all_in P p q)
  where
    go : (b : Bool) → AllByRecursion P (cond b (p ∷ x ∷ q) (x ∷ put_in packet_le p q)) → (AllByRecursion P (put_in packet_le p q) → AllByRecursion P q) → P x × AllByRecursion P q
    go true i rest = i.1
    go false i rest = (i.0, rest i.1)

all_before : (P : Packet Term → Type 0) (ps q : List (Packet Term)) → AllByRecursion P (put_all packet_le ps q) → AllByRecursion P q
all_before P [] q h = h
all_before P (p ∷ ps) q h = all_in P p q (all_before P ps (put_in packet_le p q) h)

-- packets of one key are from one sender
senders_alike : (few : ℕ) (p q : List (Packet Term)) → OneByOne (WaitsAlike TermAlike) p q → AllByRecursion (λ (x : Packet Term). x.from < few) q → AllByRecursion (λ (x : Packet Term). x.from < few) p
senders_alike few [] [] h a = tt
senders_alike few [] (y ∷ q) h a = absurd h
senders_alike few (x ∷ p) [] h a = absurd h
senders_alike few (x ∷ p) (y ∷ q) h a = (subst (λ (n : ℕ). n < few) (sym (ap (λ (k : Key). k.from) h.0.key)) a.0, senders_alike few p q h.1 a.1)

unmapped : (few : ℕ) (q : List PacketView) → AllByRecursion (λ (x : Packet Term). x.from < few) (map packet_of q) → AllByRecursion (λ (x : PacketView). x.from < few) q
unmapped few [] h = tt
unmapped few (x ∷ q) h = (h.0, unmapped few q h.1)

-- what it was sent comes later
pub later_in : (net : Network) (t n : ℕ) (x : NodeView) (y : Node Term) → IsNode net t n x y → AllByRecursion (IsLater t) (map packet_of x.inbox)
later_in net t n x y h = all-map (λ (p : PacketView). (t < p.arrival) × (p.copy ≡ 0)) (IsLater t) packet_of (λ p i. i) x.inbox h.later

left_along : (ticks t : ℕ) (ps : List (Packet Term)) (s : State Term) → AllByRecursion (IsLater t) ps → left ticks t (queued_all ps s) ≡ left ticks t s
left_along ticks t ps s later =
    ap (λ (c : ℕ). cond (is_open ticks t s) (one_if (boot_due t s) + one_if (has t s.reboots) + c + how_many (is_set_to t) s.timers) 0) (put_all_counts t ps s.queue later)

module _ (net : Network) (t n : ℕ) (x : NodeView) (y : Node Term) (h : IsNode net t n x y) where
  pub ready_node : t < net.limits.ticks → n < length net.nodes → IsReady net t x.config
  ready_node early inside = record {
    node = subst (λ (k : ℕ). k < length net.nodes) (sym h.of_node) inside;
    early = early;
    standing = h.standing;
    senders = unmapped (length net.nodes) x.config.machine.queue
        (all_before (λ (p : Packet Term). p.from < length net.nodes) (map packet_of x.inbox) (map packet_of x.config.machine.queue)
        (senders_alike (length net.nodes) (waiting x).queue y.state.queue h.alike.queue h.senders));
  }

  pub due_node : due net.limits.ticks t (state_of x.config) ≡ due net.limits.ticks t y.state
  due_node = sym (due_along net.limits.ticks t (map packet_of x.inbox) (state_of x.config) (later_in net t n x y h)) ∙ due_alike TermAlike ConditionAlike net.limits.ticks t (waiting x) y.state h.alike

  pub left_node : left net.limits.ticks t (state_of x.config) ≡ left net.limits.ticks t y.state
  left_node = sym (left_along net.limits.ticks t (map packet_of x.inbox) (state_of x.config) (later_in net t n x y h)) ∙ left_alike TermAlike ConditionAlike net.limits.ticks t (waiting x) y.state h.alike

-- The state of a node of a copy is ready for an event.
pub ready : (net : Network) (t n : ℕ) (xs : List NodeView) (s : Scenario Term) → t < net.limits.ticks → n < length net.nodes → IsCopy net t xs s → IsReady net t (node_in xs n).config
ready net t n xs s early inside c = ready_node net t n (node_in xs n) (node_at terms s n) (in_copy net t n xs s inside c) early inside

-- The same event is due, and as much is left.
pub due_same : (net : Network) (t n : ℕ) (xs : List NodeView) (s : Scenario Term) → n < length net.nodes → IsCopy net t xs s → due net.limits.ticks t (state_of (node_in xs n).config) ≡ due net.limits.ticks t (node_at terms s n).state
due_same net t n xs s inside c = due_node net t n (node_in xs n) (node_at terms s n) (in_copy net t n xs s inside c)

pub left_same : (net : Network) (t n : ℕ) (xs : List NodeView) (s : Scenario Term) → n < length net.nodes → IsCopy net t xs s → left net.limits.ticks t (state_of (node_in xs n).config) ≡ left net.limits.ticks t (node_at terms s n).state
left_same net t n xs s inside c = left_node net t n (node_in xs n) (node_at terms s n) (in_copy net t n xs s inside c)

-- Where none is due, there is one copy.
pub none_copies : (net : Network) (t n : ℕ) (xs : List NodeView) (s : Scenario Term) → n < length net.nodes → IsCopy net t xs s → due net.limits.ticks t (state_of (node_in xs n).config) ≡ None → copies terms net n t s ≡ s ∷ []
none_copies net t n xs s inside c none = ap (λ (o : Option Event). copies_of terms net n t s o) (sym (due_same net t n xs s inside c) ∙ none)

-- What is given of an event's paths stays given as later packets travel along.
path_carried : (pk : List (Packet Term)) (p q : Path Term) → AlikePath p q → AlikePath (path_with pk p) (path_with pk q)
path_carried pk p q h = record { bits = h.bits; literals = h.literals; state = (alike_received p.state q.state h.state).0 pk pk (pairs-self AlikeSend send_self pk); sends = h.sends }

carried : (pk : List (Packet Term)) (ps qs : List (Path Term)) → AreGiven ps qs → AreGiven (map (path_with pk) ps) (map (path_with pk) qs)
carried pk [] [] h = tt
carried pk (p ∷ ps) [] h = absurd h
carried pk [] (q ∷ qs) h = (h.0, carried pk [] qs h.1)
carried pk (p ∷ ps) (q ∷ qs) (inl h) = inl (path_carried pk p q h.0, carried pk ps qs h.1)
carried pk (p ∷ ps) (q ∷ qs) (inr h) = inr (h.0, carried pk (p ∷ ps) qs h.1)

module _ (net : Network) (t n : ℕ) (x : NodeView) (y : Node Term) (h : IsNode net t n x y) where
  abbrev inbox_of : List (Packet Term)
  inbox_of = map packet_of x.inbox

  -- and so it is given of the paths of the definition's node
  pub given_node : (e : Event) (ps : List (Path Term)) → AreGiven ps (paths_from net t e x.config) → AreGiven (map (path_with inbox_of) ps) (event_paths terms net n t e y.state)
  given_node e ps given =
      let here : AreGiven ps (event_paths terms net n t e (state_of x.config)) = subst (λ (k : ℕ). AreGiven ps (event_paths terms net k t e (state_of x.config))) h.of_node given in
      given_of_alike net n t e (waiting x) y.state (map (path_with inbox_of) ps) h.alike
      (subst (AreGiven (map (path_with inbox_of) ps)) (sym (paths_along terms net n t inbox_of (later_in net t n x y h) e (state_of x.config))) (carried inbox_of ps (event_paths terms net n t e (state_of x.config)) here))

  -- the paths of the due event, with the packets in the queue
  due_paths : paths terms net n t (waiting x) ≡ map (path_with inbox_of) (paths terms net n t (state_of x.config))
  due_paths = ap (paths_of terms net n t (waiting x)) (due_along net.limits.ticks t inbox_of (state_of x.config) (later_in net t n x y h)) ∙ go (due net.limits.ticks t (state_of x.config))
    where
      go : (o : Option Event) → paths_of terms net n t (waiting x) o ≡ map (path_with inbox_of) (paths_of terms net n t (state_of x.config) o)
      go None = refl
      go (Some e) = paths_along terms net n t inbox_of (later_in net t n x y h) e (state_of x.config)

  prefix_node : (bits : List Bool) → IsPrefix net.limits.conflicts (state_of x.config) (paths terms net n t (state_of x.config)) bits → IsPrefix net.limits.conflicts y.state (paths terms net n t y.state) bits
  prefix_node bits p =
      let qs = paths terms net n t (state_of x.config) in
      let more : IsPrefix net.limits.conflicts (waiting x) (map (path_with inbox_of) qs) bits =
      record { path = path_with inbox_of p.path; member = of_map (path_with inbox_of) qs p.path p.member; rest = p.rest; begins = p.begins; live = p.live } in
      (alike_prefixes net n t (waiting x) y.state h.alike).1 bits (subst (λ (us : List (Path Term)). IsPrefix net.limits.conflicts (waiting x) us bits) (sym due_paths) more)

  pub prefixes_node : (bits : List (List Bool)) → AllByRecursion (IsPrefix net.limits.conflicts (state_of x.config) (paths terms net x.config.node t (state_of x.config))) bits
      → AllByRecursion (IsPrefix net.limits.conflicts y.state (paths terms net n t y.state)) bits
  prefixes_node bits all =
      all-weaker (IsPrefix net.limits.conflicts (state_of x.config) (paths terms net n t (state_of x.config))) (IsPrefix net.limits.conflicts y.state (paths terms net n t y.state)) prefix_node bits
      (subst (λ (k : ℕ). AllByRecursion (IsPrefix net.limits.conflicts (state_of x.config) (paths terms net k t (state_of x.config))) bits) h.of_node all)

-- after a path what waits is from nodes of the network, and what it sent is from its node and comes later
abbrev IsSound : Network → (t n : ℕ) → Path Term → Type 0
IsSound net t n q = AreFrom net q.state.queue × AllByRecursion (IsSentBy n t) q.sends

sound_paths : (net : Network) (t n : ℕ) (e : Event) (s : State Term) → IsNet net → AreFrom net s.queue → AllByRecursion (IsSound net t n) (event_paths terms net n t e s)
sound_paths net t n e s good senders =
    all-both (λ (q : Path Term). AreFrom net q.state.queue) (λ (q : Path Term). AllByRecursion (IsSentBy n t) q.sends) (IsSound net t n) (λ q a b. (a, b)) (event_paths terms net n t e s)
    (senders_paths net n t e s senders) (sends_later net n t e s good)

-- the copies of an event of node n
module _ (net : Network) (t n : ℕ) (xs : List NodeView) (s : Scenario Term) (e : Event) (inside : n < length net.nodes) (c : IsCopy net t xs s) where
  abbrev at_n : NodeView
  at_n = node_in xs n

  abbrev node_n : Node Term
  node_n = node_at terms s n

  abbrev inbox_n : List (Packet Term)
  inbox_n = map packet_of at_n.inbox

  is_n : IsNode net t n at_n node_n
  is_n = in_copy net t n xs s inside c

  within : n < length s.nodes
  within = let whole = c.whole in omega (arith, inside, whole)

  whole_copied : (q : Path Term) → length (copied terms s n e q).nodes ≡ length net.nodes
  whole_copied q = length-posted 0 (parcels terms node_n q) (set s.nodes n (node_after terms e node_n q)) ∙ (length-set s.nodes n (node_after terms e node_n q) ∙ c.whole)

  node_along : (p : PathView) (q : Path Term) → AlikePath (path_with inbox_n (path_seen p)) q → IsKept net.limits.conflicts at_n.config.node at_n.config.history p → AreFrom net q.state.queue → IsNode net t n (record at_n { config = p.config }) (node_after terms e node_n q)
  node_along p q alike kept senders = record {
    of_node = kept.of_node ∙ is_n.of_node;
    of_history = kept.of_history ∙ is_n.of_history;
    alike = alike.state;
    guards = is_n.guards;
    later = is_n.later;
    standing = kept.standing;
    senders = senders;
  }

  one_copy : (p : PathView) (q : Path Term) → AlikePath (path_with inbox_n (path_seen p)) q → IsKept net.limits.conflicts at_n.config.node at_n.config.history p → IsSound net t n q → IsCopy net t (along xs n p) (copied terms s n e q)
  one_copy p q alike kept sound =
      let after = node_after terms e node_n q in
      let node = node_along p q alike kept sound.0 in
      let same : n ≡ 0 + n = omega arith in
      record {
        whole = whole_copied q;
        nodes = mailed_nodes net t n p.sends (parcels terms node_n q) (as_parcels node_n q p.sends alike.sends) inside
            (all-map (IsSentBy n t) (λ (u : Parcel Term). IsSentBy n t u.packet) (λ (u : Packet Term). record { packet = u; history = node_n.history }) (λ u g. g) q.sends sound.1)
            0 (set xs n (record at_n { config = p.config })) (set s.nodes n after)
            (nodes_set net t 0 n xs s.nodes (record at_n { config = p.config }) after c.nodes (subst (λ (k : ℕ). IsNode net t k (record at_n { config = p.config }) after) same node));
      }

  lost_copy : (q : Path Term) → IsImpossible (that q.state.own) → IsLost net (copied terms s n e q)
  lost_copy q none =
      let ps = parcels terms node_n q in
      let after = node_after terms e node_n q in
      let node = receive n ps after in
      let long = length-set s.nodes n after in
      let low : n < length (set s.nodes n after) = omega (arith, long, within) in
      let same : 0 + n ≡ n = omega arith in
      let there : get_or (copied terms s n e q).nodes n node ≡ node =
      get_or-posted 0 ps (set s.nodes n after) n node low
      ∙ (ap (λ (k : ℕ). receive k ps (get_or (set s.nodes n after) n node)) same ∙ ap (receive n ps) (get_or-set_same s.nodes n after node within)) in
      let all = length-posted 0 ps (set s.nodes n after) in
      record { fits = whole_copied q; impossible = record { node = node; there = (n, omega (arith, low, all), there); impossible = none } }

  all_copies : (ps : List PathView) (qs : List (Path Term)) → AreGiven (map (path_with inbox_n) (map path_seen ps)) qs → AreKept net.limits.conflicts at_n.config.node at_n.config.history ps → AllByRecursion (IsSound net t n) qs
      → AreCopies net t (map (along xs n) ps) (map (copied terms s n e) qs)
  all_copies [] [] given kept sound = tt
  all_copies (p ∷ ps) [] given kept sound = absurd given
  all_copies [] (q ∷ qs) given kept sound = (lost_copy q given.0, all_copies [] qs given.1 kept sound.1)
  all_copies (p ∷ ps) (q ∷ qs) (inl given) kept sound = inl (one_copy p q given.0 kept.0 sound.0, all_copies ps qs given.1 kept.1 sound.1)
  all_copies (p ∷ ps) (q ∷ qs) (inr given) kept sound = inr (lost_copy q given.0, all_copies (p ∷ ps) qs given.1 kept sound.1)

-- What an event's paths give: the copies along them are of the scenario's copies.
pub event_copies : (net : Network) (t n : ℕ) (xs : List NodeView) (s : Scenario Term) (e : Event) (ps : List PathView) → IsNet net → n < length net.nodes → IsCopy net t xs s → AreRun net t (node_in xs n).config e ps → AreCopies net t (map (along xs n) ps) (copies terms net n t s)
event_copies net t n xs s e ps good inside c run =
    let x = node_in xs n in
    let y = node_at terms s n in
    let h = in_copy net t n xs s inside c in
    let is : due net.limits.ticks t y.state ≡ Some e = sym (due_same net t n xs s inside c) ∙ run.due in
    subst (λ (o : Option Event). AreCopies net t (map (along xs n) ps) (copies_of terms net n t s o)) (sym is)
    (all_copies net t n xs s e inside c ps (event_paths terms net n t e y.state) (given_node net t n x y h e (map path_seen ps) run.given) run.kept (sound_paths net t n e y.state good h.senders))

-- An event with too many paths has so of the definition's node.
pub over_paths : (net : Network) (t n : ℕ) (xs : List NodeView) (s : Scenario Term) (e : Event) (ps : List PathView) → IsNet net → IsCopy net t xs s → MetAt terms net t n s → AreTooMany net t (node_in xs n).config e ps → TooManyPaths net t
over_paths net t n xs s e ps good c met many =
    let x = node_in xs n in
    let y = node_at terms s n in
    let h = in_copy net t n xs s met.inside c in
    let whole = c.whole in
    let low = met.inside in
    let over = over_means net t x.config e ps good many in
    record {
      number = n;
      scenario = s;
      met = met;
      node = y;
      there = slice_get-get_or s.nodes n (opening_node terms no_plan) (omega (arith, whole, low));
      prefixes = bits_of ps;
      many = over.0;
      apart = over.1;
      each = prefixes_node net t n x y h (bits_of ps) over.2;
    }
