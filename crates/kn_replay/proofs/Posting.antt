-- Nodes of a run and the definition's nodes, one by one, and what is posted to them.
use Rattle.std.proofs.Common.{◌≡◌, ℕ, zero, suc, ◌+◌, ◌<◌, Bool, true, false, cond, List, [], ◌∷◌, ◌++◌, length, map, get_or, set, refl, sym, ap, subst, ◌∙◌, arith}
use Rattle.std.specs.Prelude.{nat_eq, filter}
use Rattle.std.specs.List.{AllByRecursion}
use Rattle.std.proofs.lemmas.Bool.{ne_eqb}
use Rattle.std.proofs.lemmas.List.{length-map}
use Rattle.kn_model.specs.Terms.{Valuation, words}
use Rattle.kn_model.specs.Histories.{History}
use Rattle.kn_model.specs.Packets.{Packet, Parcel, put_in, put_all, packet_le}
use Rattle.kn_model.specs.Nodes.{State, Node}
use Rattle.kn_model.specs.Nets.{Network, opening_node, no_plan, plan_of, Plan}
use Rattle.kn_model.specs.Due.{left, how_many, is_open, is_set_to, boot_due, has, comes_at}
use Rattle.kn_model.specs.Scenarios.{Scenario, node_at, receive, posted, packet_in, close, close_node, opening}
use Rattle.kn_model.specs.Alikes.{OneByOne, WaitsAlike, SameWord, Any, AlikeRun}
use Rattle.kn_model.specs.Laws.{queued_all}
use Rattle.kn_model.proofs.Lists.{all-map, all-filter}
use Rattle.kn_model.proofs.OneByOne.{pairs-put}
use Rattle.kn_model.proofs.AlikeRows.{order_alike, set_queue}
use Rattle.kn_model.proofs.AlikeTerms.{keeps_words}
use Rattle.kn_model.proofs.Falling.{put_counts}
use Rattle.kn_conc.specs.Views.{NodeView}
use Rattle.kn_replay.specs.Nodes.{IsNode, AreNodes, IsNetwork, IsStart, AreStarts, mailed, no_node, node_in, start_of}
use Rattle.kn_replay.proofs.Words.{IsSend, alike_self, closed_alike}

-- ---- nodes, one by one

node_by : (i : ℕ) (xs : List NodeView) (ys : List (Node ℕ)) (n : ℕ) (d : NodeView) (e : Node ℕ) → AreNodes i xs ys → n < length ys → IsNode (i + n) (get_or xs n d) (get_or ys n e)
node_by i [] [] n d e h inside = absurd (omega (arith, inside))
node_by i [] (y ∷ ys) n d e h inside = absurd h
node_by i (x ∷ xs) [] n d e h inside = absurd h
node_by i (x ∷ xs) (y ∷ ys) zero d e h inside = let same : i ≡ i + 0 = omega arith in subst (λ (k : ℕ). IsNode k x y) same h.0
node_by i (x ∷ xs) (y ∷ ys) (suc n) d e h inside =
    let same : (i + 1) + n ≡ i + suc n = omega arith in
    subst (λ (k : ℕ). IsNode k (get_or xs n d) (get_or ys n e)) same (node_by (i + 1) xs ys n d e h.1 (omega (arith, inside)))

-- node n of a network is a node of its scenario
pub in_network : (a : Valuation) (net : Network) (n : ℕ) (xs : List NodeView) (s : Scenario ℕ) → n < length net.nodes → IsNetwork net xs s → IsNode n (node_in xs n) (node_at (words a) s n)
in_network a net n xs s inside c =
    let whole = c.whole in
    let same : 0 + n ≡ n = omega arith in
    subst (λ (k : ℕ). IsNode k (node_in xs n) (node_at (words a) s n)) same (node_by 0 xs s.nodes n no_node (opening_node (words a) no_plan) c.nodes (omega (arith, inside, whole)))

as_many : (i : ℕ) (xs : List NodeView) (ys : List (Node ℕ)) → AreNodes i xs ys → length xs ≡ length ys
as_many i [] [] h = refl
as_many i [] (y ∷ ys) h = absurd h
as_many i (x ∷ xs) [] h = absurd h
as_many i (x ∷ xs) (y ∷ ys) h = let rest = as_many (i + 1) xs ys h.1 in omega (arith, rest)

-- as many as the network has
pub many_nodes : (net : Network) (xs : List NodeView) (s : Scenario ℕ) → IsNetwork net xs s → length xs ≡ length net.nodes
many_nodes net xs s c = as_many 0 xs s.nodes c.nodes ∙ c.whole

-- one node is another one
pub nodes_set : (i n : ℕ) (xs : List NodeView) (ys : List (Node ℕ)) (x : NodeView) (y : Node ℕ) → AreNodes i xs ys → IsNode (i + n) x y → AreNodes i (set xs n x) (set ys n y)
nodes_set i n [] [] x y h one = tt
nodes_set i n [] (v ∷ ys) x y h one = absurd h
nodes_set i n (u ∷ xs) [] x y h one = absurd h
nodes_set i zero (u ∷ xs) (v ∷ ys) x y h one = let same : i + 0 ≡ i = omega arith in (subst (λ (k : ℕ). IsNode k x y) same one, h.1)
nodes_set i (suc n) (u ∷ xs) (v ∷ ys) x y h one = let same : i + suc n ≡ (i + 1) + n = omega arith in (h.0, nodes_set (i + 1) n xs ys x y h.1 (subst (λ (k : ℕ). IsNode k x y) same one))

-- closed nodes
nodes_closed : (i : ℕ) (xs : List NodeView) (ys : List (Node ℕ)) → AreNodes i xs ys → AreNodes i xs (map close_node ys)
nodes_closed i [] [] h = tt
nodes_closed i [] (y ∷ ys) h = absurd h
nodes_closed i (x ∷ xs) [] h = absurd h
nodes_closed i (x ∷ xs) (y ∷ ys) h = (record { of_node = h.0.of_node; alike = closed_alike x.state y h.0.alike }, nodes_closed (i + 1) xs ys h.1)

pub closed_network : (net : Network) (xs : List NodeView) (s : Scenario ℕ) → IsNetwork net xs s → IsNetwork net xs (close s)
closed_network net xs s c = record { whole = length-map s.nodes close_node ∙ c.whole; nodes = nodes_closed 0 xs s.nodes c.nodes }

-- ---- what is posted

-- a packet as a run keeps it, and the parcel that it is of
abbrev pub IsParcel : Packet ℕ → Parcel ℕ → Type 0
IsParcel u p = IsSend u p.packet

-- those that are for one node
mine_in : (i : ℕ) (us : List (Packet ℕ)) (ps : List (Parcel ℕ)) → OneByOne IsParcel us ps → OneByOne IsParcel (filter (λ (u : Packet ℕ). nat_eq u.to i) us) (filter (λ (p : Parcel ℕ). nat_eq p.packet.to i) ps)
mine_in i [] [] h = tt
mine_in i [] (p ∷ ps) h = absurd h
mine_in i (u ∷ us) [] h = absurd h
mine_in i (u ∷ us) (p ∷ ps) h = go (nat_eq u.to i) (nat_eq p.packet.to i) (ap (λ (n : ℕ). nat_eq n i) h.0.to) (mine_in i us ps h.1)
  where
    go : (b c : Bool) → b ≡ c → OneByOne IsParcel (filter (λ (u : Packet ℕ). nat_eq u.to i) us) (filter (λ (p : Parcel ℕ). nat_eq p.packet.to i) ps)
        → OneByOne IsParcel (cond b (u ∷ filter (λ (u : Packet ℕ). nat_eq u.to i) us) (filter (λ (u : Packet ℕ). nat_eq u.to i) us)) (cond c (p ∷ filter (λ (p : Parcel ℕ). nat_eq p.packet.to i) ps) (filter (λ (p : Parcel ℕ). nat_eq p.packet.to i) ps))
    go true true e rest = (h.0, rest)
    go true false e rest = absurd cc
    go false true e rest = absurd cc
    go false false e rest = rest

-- they go into alike queues at the same places
queued : (us : List (Packet ℕ)) (ps : List (Parcel ℕ)) (q r : List (Packet ℕ)) → OneByOne IsParcel us ps → OneByOne (WaitsAlike SameWord) q r → OneByOne (WaitsAlike SameWord) (put_all packet_le us q) (put_all packet_le (map packet_in ps) r)
queued [] [] q r h i = i
queued [] (p ∷ ps) q r h i = absurd h
queued (u ∷ us) [] q r h i = absurd h
queued (u ∷ us) (p ∷ ps) q r h i =
    queued us ps (put_in packet_le u q) (put_in packet_le p.packet r) h.1
    (pairs-put (WaitsAlike SameWord) packet_le packet_le (λ b c d e x y. order_alike SameWord Any b c d e x y) u p.packet q r h.0.waits i)

given_alike : (us : List (Packet ℕ)) (ps : List (Parcel ℕ)) (s t : State ℕ) → OneByOne IsParcel us ps → AlikeRun s t → AlikeRun (queued_all us s) (queued_all (map packet_in ps) t)
given_alike us ps s t h i = set_queue (words []) (words []) SameWord Any Any (keeps_words []) s t i (put_all packet_le us s.queue) (put_all packet_le (map packet_in ps) t.queue) (queued us ps s.queue t.queue h i.queue)

pub mailed_nodes : (us : List (Packet ℕ)) (ps : List (Parcel ℕ)) → OneByOne IsParcel us ps → (i : ℕ) (xs : List NodeView) (ys : List (Node ℕ)) → AreNodes i xs ys → AreNodes i (mailed i us xs) (posted i ps ys)
mailed_nodes us ps same i [] [] h = tt
mailed_nodes us ps same i [] (y ∷ ys) h = absurd h
mailed_nodes us ps same i (x ∷ xs) [] h = absurd h
mailed_nodes us ps same i (x ∷ xs) (y ∷ ys) h = (
  record {
    of_node = h.0.of_node;
    alike = given_alike (filter (λ (u : Packet ℕ). nat_eq u.to i) us) (filter (λ (p : Parcel ℕ). nat_eq p.packet.to i) ps) x.state y.state (mine_in i us ps same) h.0.alike;
  },
  mailed_nodes us ps same (i + 1) xs ys h.1,
)

-- nothing is posted
mailed_none : (i : ℕ) (xs : List NodeView) → xs ≡ mailed i [] xs
mailed_none i [] = refl
mailed_none i (x ∷ xs) = ap (λ (l : List NodeView). x ∷ l) (mailed_none (i + 1) xs)

pub none_mailed : (us : List (Packet ℕ)) (xs : List NodeView) → length us ≡ 0 → xs ≡ mailed 0 us xs
none_mailed [] xs none = mailed_none 0 xs
none_mailed (u ∷ us) xs none = absurd cc

-- what a path sent, as parcels
pub as_parcels : (history : History) (us qs : List (Packet ℕ)) → OneByOne IsSend us qs → OneByOne IsParcel us (map (λ (q : Packet ℕ). record { packet = q; history = history }) qs)
as_parcels history [] [] h = tt
as_parcels history [] (q ∷ qs) h = absurd h
as_parcels history (u ∷ us) [] h = absurd h
as_parcels history (u ∷ us) (q ∷ qs) h = (h.0, as_parcels history us qs h.1)

pub length-posted : (i : ℕ) (ps : List (Parcel ℕ)) (ys : List (Node ℕ)) → length (posted i ps ys) ≡ length ys
length-posted i ps [] = refl
length-posted i ps (y ∷ ys) = ap suc (length-posted (i + 1) ps ys)

pub get_or-posted : (i : ℕ) (ps : List (Parcel ℕ)) (ys : List (Node ℕ)) (n : ℕ) (d : Node ℕ) → n < length ys → get_or (posted i ps ys) n d ≡ receive (i + n) ps (get_or ys n d)
get_or-posted i ps [] n d h = absurd (omega arith)
get_or-posted i ps (y ∷ ys) zero d h = let e : i ≡ i + 0 = omega arith in ap (λ k. receive k ps y) e
get_or-posted i ps (y ∷ ys) (suc n) d h = let e : (i + 1) + n ≡ i + suc n = omega arith in get_or-posted (i + 1) ps ys n d (omega arith) ∙ ap (λ k. receive k ps (get_or ys n d)) e

-- packets that come later leave as many events in the tick
put_all_counts : (t : ℕ) (ps q : List (Packet ℕ)) → AllByRecursion (λ (p : Packet ℕ). t < p.arrival) ps → how_many (comes_at t) (put_all packet_le ps q) ≡ how_many (comes_at t) q
put_all_counts t [] q h = refl
put_all_counts t (p ∷ ps) q h = put_all_counts t ps (put_in packet_le p q) h.1 ∙ put_counts (comes_at t) packet_le p (ne_eqb p.arrival t (let late = h.0 in λ e. omega (arith, late, e))) q

pub left_received : (ticks i t : ℕ) (ps : List (Parcel ℕ)) (y : Node ℕ) → AllByRecursion (λ (p : Parcel ℕ). t < p.packet.arrival) ps → left ticks t (receive i ps y).state ≡ left ticks t y.state
left_received ticks i t ps y later =
    let mine = filter (λ (p : Parcel ℕ). nat_eq p.packet.to i) ps in
    ap (λ (c : ℕ). cond (is_open ticks t y.state) (cond (boot_due t y.state) 1 0 + cond (has t y.state.reboots) 1 0 + c + how_many (is_set_to t) y.state.timers) 0)
    (put_all_counts t (map packet_in mine) y.state.queue (all-map (λ (p : Parcel ℕ). t < p.packet.arrival) (λ (p : Packet ℕ). t < p.arrival) packet_in (λ p h. h) mine
    (all-filter (λ (p : Parcel ℕ). t < p.packet.arrival) (λ (p : Parcel ℕ). nat_eq p.packet.to i) ps later)))

-- ---- the start

pub one_more : (net : Network) (n : ℕ) (xs : List NodeView) (x : NodeView) → AreStarts net n xs → IsStart net (n + length xs) x → AreStarts net n (xs ++ x ∷ [])
one_more net n [] x h i = let same : n + 0 ≡ n = omega arith in (subst (λ (k : ℕ). IsStart net k x) same i, tt)
one_more net n (v ∷ xs) x h i = let same : n + suc (length xs) ≡ (n + 1) + length xs = omega arith in (h.0, one_more net (n + 1) xs x h.1 (subst (λ (k : ℕ). IsStart net k x) same i))

start_at : (net : Network) (n : ℕ) (xs : List NodeView) (k : ℕ) (d : NodeView) → AreStarts net n xs → k < length xs → IsStart net (n + k) (get_or xs k d)
start_at net n [] k d h inside = absurd (omega (arith, inside))
start_at net n (x ∷ xs) zero d h inside = let same : n ≡ n + 0 = omega arith in subst (λ (k : ℕ). IsStart net k x) same h.0
start_at net n (x ∷ xs) (suc k) d h inside = let same : (n + 1) + k ≡ n + suc k = omega arith in subst (λ (j : ℕ). IsStart net j (get_or xs k d)) same (start_at net (n + 1) xs k d h.1 (omega (arith, inside)))

-- nodes that are so at each place are so one by one
nodes_from : (i : ℕ) (xs : List NodeView) (ys : List (Node ℕ)) (d : NodeView) (e : Node ℕ) → length xs ≡ length ys → ((n : ℕ) → n < length ys → IsNode (i + n) (get_or xs n d) (get_or ys n e)) → AreNodes i xs ys
nodes_from i [] [] d e same each = tt
nodes_from i [] (y ∷ ys) d e same each = absurd (omega (arith, same))
nodes_from i (x ∷ xs) [] d e same each = absurd (omega (arith, same))
nodes_from i (x ∷ xs) (y ∷ ys) d e same each =
    let first : i + 0 ≡ i = omega arith in (
      subst (λ (k : ℕ). IsNode k x y) first (each 0 (omega arith)),
      nodes_from (i + 1) xs ys d e (omega (arith, same)) (λ n inside. let next : i + suc n ≡ (i + 1) + n = omega arith in subst (λ (k : ℕ). IsNode k (get_or xs n d) (get_or ys n e)) next (each (suc n) (omega (arith, inside)))),
    )

module _ (a : Valuation) where
  opened_at : (ps : List Plan) (k : ℕ) → opening_node (words a) (get_or ps k no_plan) ≡ get_or (map (opening_node (words a)) ps) k (opening_node (words a) no_plan)
  opened_at [] k = refl
  opened_at (p ∷ ps) zero = refl
  opened_at (p ∷ ps) (suc k) = opened_at ps k

  start_node : (net : Network) (n : ℕ) (x : NodeView) → IsStart net n x → IsNode n x (opening_node (words a) (plan_of net n))
  start_node net n x s = record { of_node = s.of_node; alike = subst (λ (z : State ℕ). AlikeRun z (start_of net n)) (sym s.state) (alike_self (start_of net n)) }

  -- The nodes at their start are the network at its start.
  pub opening_network : (net : Network) (xs : List NodeView) → length xs ≡ length net.nodes → AreStarts net 0 xs → IsNetwork net xs (opening (words a) net)
  opening_network net xs same starts = record {
    whole = length-map net.nodes (opening_node (words a));
    nodes = nodes_from 0 xs (map (opening_node (words a)) net.nodes) no_node (opening_node (words a) no_plan) (same ∙ sym (length-map net.nodes (opening_node (words a)))) each;
  }
    where
      each : (n : ℕ) → n < length (map (opening_node (words a)) net.nodes) → IsNode (0 + n) (get_or xs n no_node) (get_or (map (opening_node (words a)) net.nodes) n (opening_node (words a) no_plan))
      each n inside =
          let long = length-map net.nodes (opening_node (words a)) in
          let zero_n : 0 + n ≡ n = omega arith in
          let one : IsStart net n (get_or xs n no_node) = subst (λ (k : ℕ). IsStart net k (get_or xs n no_node)) zero_n (start_at net 0 xs n no_node starts (omega (arith, inside, long, same))) in
          subst (λ (k : ℕ). IsNode k (get_or xs n no_node) (get_or (map (opening_node (words a)) net.nodes) n (opening_node (words a) no_plan))) (sym zero_n)
          (subst (IsNode n (get_or xs n no_node)) (opened_at net.nodes n) (start_node net n (get_or xs n no_node) one))
