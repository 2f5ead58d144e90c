-- Where more scenarios of which all nodes are live stand in the middle of a tick than `dstates` allows, more stand at its end.
use Rattle.std.proofs.Common.{◌≡◌, inl, inr, ℕ, zero, suc, ◌+◌, ◌-◌, ◌<◌, Bool, true, false, List, [], ◌∷◌, ◌++◌, length, map, flat_map, get_or, set, Option, Some, None, refl, sym, ap, subst, ◌∙◌, arith}
use Rattle.std.specs.Prelude.{Contains}
use Rattle.std.specs.List.{AllByRecursion}
use Rattle.kn_packet.specs.declared.packet.Event.{Event}
use Rattle.kn_model.specs.Terms.{Term, terms}
use Rattle.kn_model.specs.Conditions.{that, IsLive, AreDistinct}
use Rattle.kn_model.specs.Packets.{Parcel}
use Rattle.kn_model.specs.Nodes.{Node}
use Rattle.kn_model.specs.Nets.{Network, opening_node, no_plan}
use Rattle.kn_model.specs.Due.{due, left}
use Rattle.kn_model.specs.Paths.{Path, event_paths, parcels, node_after}
use Rattle.kn_model.specs.Scenarios.{Scenario, name_of, posted, node_at, copied, copies, copies_of, turns, settled, close, pre}
use Rattle.kn_model.specs.Limits.{AllLive, TooManyCopies}
use Rattle.kn_model.specs.Laws.{IsNet, Apart, NamesApart, AllNamesApart}
use Rattle.kn_model.proofs.Lists.{all-set, all-weaker, itself}
use Rattle.kn_model.proofs.Implied.{all-contains}
use Rattle.kn_model.proofs.AlikeStandings.{alike_standings}
use Rattle.kn_model.proofs.Naming.{Name, HaveNodes, distinct_names, close_names, copy_fits}
use Rattle.kn_model.proofs.PicksRun.{map-in}
use Rattle.kn_model.proofs.Stamped.{In, in-flat}
use Rattle.kn_machine.specs.Views.{own_of}
use Rattle.kn_cob.specs.Nodes.{NodeView}
use Rattle.kn_cob.specs.Copies.{AreNodes, IsCopy, AreCopies}
use Rattle.kn_cob.specs.Among.{Among}
use Rattle.kn_cob.specs.Ticks.{so_far, IsTurning}
use Rattle.kn_cob.proofs.Ticks.{Whole, turns_last, so_far_next, cob_after, whole_turning, whole_so_far}
use Rattle.kn_cob.proofs.Choosing.{HasWay, way_of_live, live_of_way, live_of_standing, choose_live}

-- ---- some of a list

module _ {A : Type 0} where
  -- some of what is behind
  among_behind : (xs zs ys : List A) → Among xs ys → Among xs (zs ++ ys)
  among_behind xs [] ys h = h
  among_behind [] (z ∷ zs) ys h = tt
  among_behind (x ∷ xs) (z ∷ zs) ys h = inr (among_behind (x ∷ xs) zs ys h)

  -- some of what is in front
  among_front : (xs ys zs : List A) → Among xs ys → Among xs (ys ++ zs)
  among_front [] ys zs h = tt
  among_front (x ∷ xs) [] zs h = absurd h
  among_front (x ∷ xs) (y ∷ ys) zs (inl h) = inl (h.0, among_front xs ys zs h.1)
  among_front (x ∷ xs) (y ∷ ys) zs (inr h) = inr (among_front (x ∷ xs) ys zs h)

  -- one of the first list, and some of the second
  among_one : (x : A) (xs zs ys : List A) → In x zs → Among xs ys → Among (x ∷ xs) (zs ++ ys)
  among_one x xs [] ys i h = absurd i
  among_one x xs (z ∷ zs) ys (inl e) h = inl (sym e, among_behind xs zs ys h)
  among_one x xs (z ∷ zs) ys (inr i) h = inr (among_one x xs zs ys i h)

  -- what holds of all holds of some
  among_all : (P : A → Type 0) (xs ys : List A) → Among xs ys → AllByRecursion P ys → AllByRecursion P xs
  among_all P [] ys h p = tt
  among_all P (x ∷ xs) [] h p = absurd h
  among_all P (x ∷ xs) (y ∷ ys) (inl h) p = (subst P (sym h.0) p.0, among_all P xs ys h.1 p.1)
  among_all P (x ∷ xs) (y ∷ ys) (inr h) p = among_all P (x ∷ xs) ys h p.1

  all_two : (P Q : A → Type 0) (xs : List A) → AllByRecursion P xs → AllByRecursion Q xs → AllByRecursion (λ (x : A). P x × Q x) xs
  all_two P Q [] h i = tt
  all_two P Q (x ∷ xs) h i = ((h.0, i.0), all_two P Q xs h.1 i.1)

  all_at : (P : A → Type 0) (xs : List A) (k : ℕ) (d : A) → AllByRecursion P xs → k < length xs → P (get_or xs k d)
  all_at P [] k d h inside = absurd (omega (arith, inside))
  all_at P (x ∷ xs) zero d h inside = h.0
  all_at P (x ∷ xs) (suc k) d h inside = all_at P xs k d h.1 (omega (arith, inside))

-- ---- names that are apart

never_apart : (x : List Bool) → Apart x x → ⊥
never_apart [] a = a
never_apart (false ∷ x) a = never_apart x a
never_apart (true ∷ x) a = never_apart x a

never_itself : (x : Name) → NamesApart x x → ⊥
never_itself [] a = a
never_itself (x ∷ xs) (inl a) = never_apart x a
never_itself (x ∷ xs) (inr a) = never_itself xs a

apart_distinct : (names : List Name) → AllNamesApart names → AreDistinct names
apart_distinct [] a = tt
apart_distinct (x ∷ names) a = (λ c. never_itself x (all-contains (NamesApart x) names x a.0 c), apart_distinct names a.1)

among_named : (P : Name → Type 0) (xs ys : List (Scenario Term)) → Among xs ys → AllByRecursion P (map name_of ys) → AllByRecursion P (map name_of xs)
among_named P [] ys h p = tt
among_named P (x ∷ xs) [] h p = absurd h
among_named P (x ∷ xs) (y ∷ ys) (inl h) p = (subst (λ (s : Scenario Term). P (name_of s)) (sym h.0) p.0, among_named P xs ys h.1 p.1)
among_named P (x ∷ xs) (y ∷ ys) (inr h) p = among_named P (x ∷ xs) ys h p.1

among_apart : (xs ys : List (Scenario Term)) → Among xs ys → AllNamesApart (map name_of ys) → AllNamesApart (map name_of xs)
among_apart [] ys h a = tt
among_apart (x ∷ xs) [] h a = absurd h
among_apart (x ∷ xs) (y ∷ ys) (inl h) a = (subst (λ (s : Scenario Term). AllByRecursion (NamesApart (name_of s)) (map name_of xs)) (sym h.0) (among_named (NamesApart (name_of y)) xs ys h.1 a.0), among_apart xs ys h.1 a.1)
among_apart (x ∷ xs) (y ∷ ys) (inr h) a = among_apart (x ∷ xs) ys h a.1

-- scenarios keep their names when they close
closed_names : (net : Network) (t : ℕ) → IsNet net → (xs : List (Scenario Term)) → map name_of (map close xs) ≡ map name_of xs
closed_names net t fine [] = refl
closed_names net t fine (x ∷ xs) = rw (close_names net t fine x.nodes, closed_names net t fine xs) refl

-- so names are apart before the tick closes
pre_apart : (net : Network) (t : ℕ) → IsNet net → AllNamesApart (map name_of (pre terms net t))
pre_apart net t fine = subst AllNamesApart (ap (map name_of) (cob_after net t) ∙ closed_names net t fine (pre terms net t)) (distinct_names net (t + 1) fine)

-- ---- from the middle of a tick to its end

module _ (net : Network) (t : ℕ) (fine : IsNet net) where
  abbrev S : Type 0
  S = Scenario Term

  abbrev HasNodeWay : Node Term → Type 0
  HasNodeWay y = HasWay net.limits.conflicts y.state.own

  -- whole, and each node's own condition has a way to be met
  record Goes (s : S) : Type 0 where
    whole : Whole net s
    ways : AllByRecursion HasNodeWay s.nodes

  all_posted : (i : ℕ) (ps : List (Parcel Term)) (ys : List (Node Term)) → AllByRecursion HasNodeWay ys → AllByRecursion HasNodeWay (posted i ps ys)
  all_posted i ps [] h = tt
  all_posted i ps (y ∷ ys) h = (h.0, all_posted (i + 1) ps ys h.1)

  copied_goes : (s : S) (n : ℕ) (e : Event) (p : Path Term) → Goes s → HasWay net.limits.conflicts p.state.own → Goes (copied terms s n e p)
  copied_goes s n e p g w =
      let y = node_at terms s n in
      let after = node_after terms e y p in
      record { whole = copy_fits net t fine s n e p g.whole; ways = all_posted 0 (parcels terms y p) (set s.nodes n after) (all-set HasNodeWay s.nodes n after g.ways w) }

  -- it leads to one that goes
  abbrev Leads : (S → List S) → Type 0
  Leads f = (s : S) → Goes s → (u : S) × In u (f s) × Goes u

  copies_lead : (n : ℕ) → n < length net.nodes → Leads (copies terms net n t)
  copies_lead n inside s g = go (due net.limits.ticks t (node_at terms s n).state)
    where
      go : (o : Option Event) → (u : S) × In u (copies_of terms net n t s o) × Goes u
      go None = (s, inl refl, g)
      go (Some e) =
          let y = node_at terms s n in
          let whole = g.whole in
          let p = choose_live net n t fine e y.state (all_at HasNodeWay s.nodes n (opening_node terms no_plan) g.ways (omega (arith, inside, whole))) in
          (copied terms s n e p.0, map-in (copied terms s n e) p.0 (event_paths terms net n t e y.state) p.1, copied_goes s n e p.0 g p.2)

  turns_lead : (n m : ℕ) → n < length net.nodes → Leads (turns terms net n t m)
  turns_lead n zero inside s g = (s, inl refl, g)
  turns_lead n (suc m) inside s g =
      let u = copies_lead n inside s g in
      let v = turns_lead n m inside u.0 u.2 in
      (v.0, in-flat (turns terms net n t m) v.0 u.0 (copies terms net n t s) u.1 v.1, v.2)

  settled_lead : (n : ℕ) → n < length net.nodes → Leads (settled terms net t n)
  settled_lead n inside s g = turns_lead n (left net.limits.ticks t (node_at terms s n).state) inside s g

  -- more of a list go than `dstates` allows
  record Many (ys : List S) : Type 0 where
    taken : List S
    among : Among taken ys
    each : AllByRecursion Goes taken
    more : net.limits.dstates < length taken

  -- as many go of what comes of them
  record Onward (xs : List S) (ys : List S) : Type 0 where
    list : List S
    among : Among list ys
    each : AllByRecursion Goes list
    as_many : length list ≡ length xs

  all_on : (f : S → List S) → Leads f → (xs ys : List S) → Among xs ys → AllByRecursion Goes xs → Onward xs (flat_map f ys)
  all_on f lead [] ys h g = record { list = []; among = tt; each = tt; as_many = refl }
  all_on f lead (x ∷ xs) [] h g = absurd h
  all_on f lead (x ∷ xs) (y ∷ ys) (inl h) g =
      let u = lead x g.0 in
      let r = all_on f lead xs ys h.1 g.1 in
      record {
        list = u.0 ∷ r.list;
        among = among_one u.0 r.list (f y) (flat_map f ys) (subst (λ (s : S). In u.0 (f s)) h.0 u.1) r.among;
        each = (u.2, r.each);
        as_many = ap suc r.as_many;
      }
  all_on f lead (x ∷ xs) (y ∷ ys) (inr h) g =
      let r = all_on f lead (x ∷ xs) ys h g in
      record { list = r.list; among = among_behind r.list (f y) (flat_map f ys) r.among; each = r.each; as_many = r.as_many }

  many_on : (f : S → List S) → Leads f → (ys : List S) → Many ys → Many (flat_map f ys)
  many_on f lead ys m =
      let r = all_on f lead m.taken ys m.among m.each in
      let more = m.more in
      let same = r.as_many in
      record { taken = r.list; among = r.among; each = r.each; more = omega (arith, more, same) }

  many_front : (ys zs : List S) → Many ys → Many (ys ++ zs)
  many_front ys zs m = record { taken = m.taken; among = among_front m.taken ys zs m.among; each = m.each; more = m.more }

  many_of : (f : S → List S) (xs : List S) (x : S) → Contains xs x → Many (f x) → Many (flat_map f xs)
  many_of f xs x c m = go xs c.0 c.1 c.2
    where
      go : (ys : List S) (k : ℕ) → k < length ys → get_or ys k x ≡ x → Many (flat_map f ys)
      go [] k inside e = absurd (omega (arith, inside))
      go (y ∷ ys) zero inside e = many_front (f y) (flat_map f ys) (subst (λ (s : S). Many (f s)) (sym e) m)
      go (y ∷ ys) (suc k) inside e =
          let r = go ys k (omega (arith, inside)) e in
          record { taken = r.taken; among = among_behind r.taken (f y) (flat_map f ys) r.among; each = r.each; more = r.more }

  -- through the remaining turns of a node
  many_turns : (n k m last : ℕ) (s : S) → n < length net.nodes → m + k ≡ last → Many (turns terms net n t m s) → Many (turns terms net n t last s)
  many_turns n zero m last s inside e many = subst (λ (j : ℕ). Many (turns terms net n t j s)) (omega (arith, e)) many
  many_turns n (suc k) m last s inside e many =
      many_turns n k (suc m) last s inside (omega (arith, e)) (subst Many (sym (turns_last net n t m s)) (many_on (copies terms net n t) (copies_lead n inside) (turns terms net n t m s) many))

  -- through the remaining nodes
  many_nodes : (k n : ℕ) → n + k ≡ length net.nodes → Many (so_far net t n) → Many (pre terms net t)
  many_nodes zero n e many = subst (λ (j : ℕ). Many (so_far net t j)) (omega (arith, e)) many
  many_nodes (suc k) n e many = many_nodes k (n + 1) (omega (arith, e)) (subst Many (sym (so_far_next net t n)) (many_on (settled terms net t n) (settled_lead n (omega (arith, e))) (so_far net t n) many))

  many_over : Many (pre terms net t) → TooManyCopies net t
  many_over m = record {
    scenarios = m.taken;
    many = m.more;
    differ = apart_distinct (map name_of m.taken) (among_apart m.taken (pre terms net t) m.among (pre_apart net t fine));
    members = among_all (Contains (pre terms net t)) m.taken (pre terms net t) m.among (itself (pre terms net t));
    live = all-weaker Goes (AllLive net) (λ s g. all-weaker HasNodeWay (λ (y : Node Term). IsLive net.limits.conflicts (that y.state.own)) (λ y w. live_of_way net.limits.conflicts y.state.own w) s.nodes g.ways) m.taken m.each;
  }

  -- some live scenarios of a part of whole ones
  many_live : (part rest list taken : List S) → HaveNodes net list → list ≡ part ++ rest → Among taken part → AllByRecursion (AllLive net) taken → net.limits.dstates < length taken → Many list
  many_live part rest list taken whole is among live more =
      let among' : Among taken list = subst (Among taken) (sym is) (among_front taken part rest among) in
      record {
        taken = taken;
        among = among';
        each = all-weaker (λ (s : S). Whole net s × AllLive net s) Goes
            (λ s h. record { whole = h.0; ways = all-weaker (λ (y : Node Term). IsLive net.limits.conflicts (that y.state.own)) HasNodeWay (λ y l. way_of_live net.limits.conflicts y.state.own l) s.nodes h.1 })
            taken (all_two (Whole net) (AllLive net) taken (among_all (Whole net) taken list among' whole) live);
        more = more;
      }

-- Too many live scenarios after a turn of a node lead to too many at the tick's end.
pub over_turned : (net : Network) (t n count : ℕ) (s : Scenario Term) → IsNet net → IsTurning net t n count s → (part rest : List (Scenario Term)) → flat_map (copies terms net n t) (turns terms net n t count s) ≡ part ++ rest
    → (taken : List (Scenario Term)) → Among taken part → AllByRecursion (AllLive net) taken → net.limits.dstates < length taken → TooManyCopies net t
over_turned net t n count s fine is part rest e taken among live more =
    let all = left net.limits.ticks t (node_at terms s n).state in
    let most = is.more in
    let inside = is.inside in
    let many = many_live net t fine part rest (turns terms net n t (suc count) s) taken (whole_turning net t fine n count (suc count) s is) (turns_last net n t count s ∙ e) among live more in
    let last = many_turns net t fine n (all - suc count) (suc count) all s inside (omega (arith, most)) many in
    let after = subst (Many net t fine) (sym (so_far_next net t n)) (many_of net t fine (settled terms net t n) (so_far net t n) s is.from last) in
    many_over net t fine (many_nodes net t fine (length net.nodes - (n + 1)) (n + 1) (omega (arith, inside)) after)

-- So do too many once a node has run.
pub over_settled : (net : Network) (t n : ℕ) → IsNet net → n < length net.nodes → (part rest : List (Scenario Term)) → so_far net t (n + 1) ≡ part ++ rest
    → (taken : List (Scenario Term)) → Among taken part → AllByRecursion (AllLive net) taken → net.limits.dstates < length taken → TooManyCopies net t
over_settled net t n fine inside part rest e taken among live more =
    many_over net t fine (many_nodes net t fine (length net.nodes - (n + 1)) (n + 1) (omega (arith, inside)) (many_live net t fine part rest (so_far net t (n + 1)) taken (whole_so_far net t fine (n + 1)) e among live more))

-- ---- from copies

-- what is kept of nodes has standings, and so they are live
nodes_live : (net : Network) (t n : ℕ) (xs : List NodeView) (ys : List (Node Term)) → AreNodes net t n xs ys → AllByRecursion (λ (y : Node Term). IsLive net.limits.conflicts (that y.state.own)) ys
nodes_live net t n [] [] h = tt
nodes_live net t n [] (y ∷ ys) h = absurd h
nodes_live net t n (x ∷ xs) [] h = absurd h
nodes_live net t n (x ∷ xs) (y ∷ ys) h =
    let conflicts = net.limits.conflicts in
    let stands = (alike_standings conflicts (own_of x.config) y.state.own h.0.alike.own).2 x.config.standing h.0.standing in
    (live_of_standing conflicts (that y.state.own) x.config.standing stands, nodes_live net t (n + 1) xs ys h.1)

pub copy_live : (net : Network) (t : ℕ) (c : List NodeView) (s : Scenario Term) → IsCopy net t c s → AllLive net s
copy_live net t c s is = nodes_live net t 0 c s.nodes is.nodes

-- the scenarios that copies are of
pub record AreOf (net : Network) (cs : List (List NodeView)) (ss : List (Scenario Term)) : Type 0 where
  pub taken : List (Scenario Term)
  pub among : Among taken ss
  pub live : AllByRecursion (AllLive net) taken
  pub as_many : length taken ≡ length cs

pub scenarios_of : (net : Network) (t : ℕ) (cs : List (List NodeView)) (ss : List (Scenario Term)) → AreCopies net t cs ss → AreOf net cs ss
scenarios_of net t [] ss h = record { taken = []; among = tt; live = tt; as_many = refl }
scenarios_of net t (c ∷ cs) [] h = absurd h
scenarios_of net t (c ∷ cs) (s ∷ ss) (inl h) =
    let r = scenarios_of net t cs ss h.1 in
    record { taken = s ∷ r.taken; among = inl (refl, r.among); live = (copy_live net t c s h.0, r.live); as_many = ap suc r.as_many }
scenarios_of net t (c ∷ cs) (s ∷ ss) (inr h) =
    let r = scenarios_of net t (c ∷ cs) ss h.1 in
    record { taken = r.taken; among = skipped s r.taken ss r.among; live = r.live; as_many = r.as_many }
  where
    skipped : (s : Scenario Term) (xs ys : List (Scenario Term)) → Among xs ys → Among xs (s ∷ ys)
    skipped s [] ys a = tt
    skipped s (x ∷ xs) ys a = inr a

-- Too many copies after a turn of a node, and once a node has run.
pub turned_over : (net : Network) (t n count : ℕ) (s : Scenario Term) → IsNet net → IsTurning net t n count s → (part rest : List (Scenario Term)) → flat_map (copies terms net n t) (turns terms net n t count s) ≡ part ++ rest
    → (cs : List (List NodeView)) → AreCopies net t cs part → net.limits.dstates < length cs → TooManyCopies net t
turned_over net t n count s fine is part rest e cs given more =
    let of = scenarios_of net t cs part given in
    let same = of.as_many in
    over_turned net t n count s fine is part rest e of.taken of.among of.live (omega (arith, more, same))

pub settled_over : (net : Network) (t n : ℕ) → IsNet net → n < length net.nodes → (part rest : List (Scenario Term)) → so_far net t (n + 1) ≡ part ++ rest
    → (cs : List (List NodeView)) → AreCopies net t cs part → net.limits.dstates < length cs → TooManyCopies net t
settled_over net t n fine inside part rest e cs given more =
    let of = scenarios_of net t cs part given in
    let same = of.as_many in
    over_settled net t n fine inside part rest e of.taken of.among of.live (omega (arith, more, same))
