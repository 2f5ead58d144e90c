-- What a report tells of the scenarios that it is of: which member a pick names, and which node a state is of.
use Rattle.std.proofs.Common.{◌≡◌, inl, inr, ℕ, zero, suc, ◌+◌, ◌<◌, Bool, List, [], ◌∷◌, ◌++◌, length, map, Some, refl, sym, ap, subst, ◌∙◌, arith}
use Rattle.std.specs.Prelude.{Contains, slice_get, flat_map}
use Rattle.std.specs.List.{AllByRecursion}
use Rattle.std.proofs.lemmas.Bool.{cases_lt}
use Rattle.std.proofs.lemmas.List.Concat.{flat_map-cons}
use Rattle.kn_built.specs.Picks.{picks}
use Rattle.kn_node.specs.Views.{ConfigView}
use Rattle.kn_model.specs.Terms.{Term}
use Rattle.kn_model.specs.Nodes.{Node}
use Rattle.kn_model.specs.Nets.{Network}
use Rattle.kn_model.specs.Scenarios.{Scenario}
use Rattle.kn_model.specs.Laws.{IsNet}
use Rattle.kn_model.specs.Reports.{Report, StateLine, ends, IsLine, Shows, Names, IsPick, all_picks, trace_at, pick_name, NodeIn, AreRuns, singles}
use Rattle.kn_model.proofs.Named.{one_by_name, shown_name}
use Rattle.kn_model.proofs.Naming.{have_nodes}
use Rattle.kn_cob.specs.Runs.{IsEnd, AreEnds, IsMember, name_in, AreScenarios}
use Rattle.kn_cob.specs.Reports.{line_of, numbers, dstates_from, AreLong, IsReportOf}
use Rattle.kn_cob.proofs.Numbered.{some_one, get_less, get_some, all_at, all_contained, Matches, AllMatch, all_match, matches_at, first_of, firsts_apart, Row, row_of, row_at, numbers_at, at_numbers, picks_single, one_of, only, spot_of}

-- ---- what is kept of the nodes of a member

pub ends_long : (net : Network) (n : ℕ) (cs : List ConfigView) (ys : List (Node Term)) → AreEnds net n cs ys → length cs ≡ length ys
ends_long net n [] [] e = refl
ends_long net n [] (y ∷ ys) e = absurd e
ends_long net n (c ∷ cs) [] e = absurd e
ends_long net n (c ∷ cs) (y ∷ ys) e = ap suc (ends_long net (n + 1) cs ys e.1)

ends_named : (net : Network) (n : ℕ) (cs : List ConfigView) (ys : List (Node Term)) → AreEnds net n cs ys → name_in cs ≡ map (λ (y : Node Term). y.state.trace) ys
ends_named net n [] [] e = refl
ends_named net n [] (y ∷ ys) e = absurd e
ends_named net n (c ∷ cs) [] e = absurd e
ends_named net n (c ∷ cs) (y ∷ ys) e =
    ap (λ (t : List Bool). t ∷ name_in cs) e.0.alike.trace ∙ ap (λ (l : List (List Bool)). y.state.trace ∷ l) (ends_named net (n + 1) cs ys e.1)

-- the node that one of them is of
pub end_at : (net : Network) (n : ℕ) (cs : List ConfigView) (ys : List (Node Term)) (k : ℕ) (c : ConfigView) → AreEnds net n cs ys → slice_get cs k ≡ Some c → (y : Node Term) × (slice_get ys k ≡ Some y) × IsEnd net (n + k) c y
end_at net n [] ys k c e at = absurd cc
end_at net n (x ∷ cs) [] k c e at = absurd e
end_at net n (x ∷ cs) (y ∷ ys) zero c e at =
    let same : n ≡ n + 0 = omega arith in
    (y, refl, subst (λ (m : ℕ). IsEnd net m c y) same (subst (λ (z : ConfigView). IsEnd net n z y) (some_one x c at) e.0))
end_at net n (x ∷ cs) (y ∷ ys) (suc k) c e at =
    let rest = end_at net (n + 1) cs ys k c e.1 at in
    let same : (n + 1) + k ≡ n + suc k = omega arith in
    (rest.0, rest.1, subst (λ (m : ℕ). IsEnd net m c rest.0) same rest.2)

pub member_long : (net : Network) → IsNet net → (cs : List ConfigView) → IsMember net cs → length cs ≡ length net.nodes
member_long net good cs m =
    ends_long net 0 cs m.scenario.nodes m.nodes
    ∙ all_contained (λ (s : Scenario Term). length s.nodes ≡ length net.nodes) (ends net) m.scenario (have_nodes net net.limits.ticks good) m.member

pub all_long : (net : Network) → IsNet net → (list : List (List ConfigView)) → AllByRecursion (IsMember net) list → AreLong (length net.nodes) list
all_long net good [] h = tt
all_long net good (cs ∷ list) h = (member_long net good cs h.0, all_long net good list h.1)

-- ---- names

trace_is : (r : Report) (i n : ℕ) (c : ConfigView) → slice_get r.states i ≡ Some (line_of n c) → trace_at r i ≡ c.trace
trace_is r i n c e = rw e refl

traces_are : (r : Report) (i n : ℕ) (cs : List ConfigView) → Matches r.states i n cs → pick_name r (numbers (length cs) i) ≡ name_in cs
traces_are r i n [] m = refl
traces_are r i n (c ∷ cs) m = ap (λ (t : List Bool). t ∷ pick_name r (numbers (length cs) (i + 1))) (trace_is r i n c m.0) ∙ ap (λ (l : List (List Bool)). c.trace ∷ l) (traces_are r (i + 1) (n + 1) cs m.1)

picked_names : (r : Report) (nodes i : ℕ) (xs : List (List ConfigView)) → AllMatch nodes r.states i xs → AreLong nodes xs → map (pick_name r) (flat_map picks (dstates_from nodes i xs)) ≡ map name_in xs
picked_names r nodes i [] m long = refl
picked_names r nodes i (x ∷ xs) m long =
    let rest = flat_map picks (dstates_from nodes (i + nodes) xs) in
    ap (map (pick_name r)) (flat_map-cons picks (singles nodes i) (dstates_from nodes (i + nodes) xs) ∙ ap (λ (l : List (List ℕ)). l ++ rest) (picks_single nodes i))
    ∙ ap (λ (l : List (List Bool)). l ∷ map (pick_name r) rest) (ap (λ (k : ℕ). pick_name r (numbers k i)) (sym long.0) ∙ traces_are r i 0 x m.0)
    ∙ ap (λ (l : List (List (List Bool))). name_in x ∷ l) (picked_names r nodes (i + nodes) xs m.1 long.1)

shows_by : (net : Network) (r : Report) (i n : ℕ) (cs : List ConfigView) (ys : List (Node Term)) → Matches r.states i n cs → AreEnds net n cs ys → Shows r (numbers (length cs) i) ys
shows_by net r i n [] [] m e = tt
shows_by net r i n [] (y ∷ ys) m e = absurd e
shows_by net r i n (c ∷ cs) [] m e = absurd e
shows_by net r i n (c ∷ cs) (y ∷ ys) m e = ((line_of n c, m.0, e.0.alike.trace, e.0.alike.outcome), shows_by net r (i + 1) (n + 1) cs ys m.1 e.1)

pub rows_run : (nodes i : ℕ) (xs : List (List ConfigView)) → AreRuns nodes i (dstates_from nodes i xs)
rows_run nodes i [] = tt
rows_run nodes i (x ∷ xs) = (refl, rows_run nodes (i + nodes) xs)

-- ---- the scenarios of picks

module _ (net : Network) (good : IsNet net) (list : List (List ConfigView)) (h : AreScenarios net list) (r : Report) (made : IsReportOf net list r) where
  abbrev pub N : ℕ
  N = length net.nodes

  pub long : AreLong N list
  long = all_long net good list h.members

  pub matched : AllMatch N r.states 0 list
  matched = subst (λ (lines : List StateLine). AllMatch N lines 0 list) (sym made.states) (all_match N list long)

  pub all_names : map (pick_name r) (all_picks r) ≡ map name_in list
  all_names = ap (λ (ds : List (List (List ℕ))). map (pick_name r) (flat_map picks ds)) made.dstates ∙ picked_names r N 0 list matched long

  -- The scenario of a dstate, as it is kept.
  pub record Kept (d : ℕ) (columns : List (List ℕ)) : Type 0 where
    pub configs : List ConfigView
    pub listed : slice_get list d ≡ Some configs
    pub member : IsMember net configs
    pub there : slice_get r.dstates d ≡ Some columns
    pub columns_are : columns ≡ singles N (first_of N 0 d)
    pub matches : Matches r.states (first_of N 0 d) 0 configs
    pub whole : length configs ≡ N

  abbrev kept_row : (d : ℕ) (columns : List (List ℕ)) → slice_get (dstates_from N 0 list) d ≡ Some columns → Row N r.states 0 list d columns → Kept d columns
  kept_row d columns e row = record {
    configs = row.states;
    listed = row.member;
    member = all_at (IsMember net) list d row.states h.members row.member;
    there = ap (λ (ds : List (List (List ℕ))). slice_get ds d) made.dstates ∙ e;
    columns_are = row.columns_are;
    matches = row.matches;
    whole = row.long;
  }

  abbrev pub kept_at : (d : ℕ) (columns : List (List ℕ)) → slice_get r.dstates d ≡ Some columns → Kept d columns
  kept_at d columns e =
      let there = ap (λ (ds : List (List (List ℕ))). slice_get ds d) (sym made.dstates) ∙ e in
      kept_row d columns there (row_of N r.states 0 list d columns matched long there)

  abbrev pub kept_of : (d : ℕ) (cs : List ConfigView) → slice_get list d ≡ Some cs → Kept d (singles N (first_of N 0 d))
  kept_of d cs e =
      let both = row_at N r.states 0 list d cs matched long e in
      kept_row d (singles N (first_of N 0 d)) both.1 both.0

  -- its one pick
  pub pick_is : (d : ℕ) (columns : List (List ℕ)) (k : Kept d columns) (p : List ℕ) → Contains (picks columns) p → p ≡ numbers N (first_of N 0 d)
  pick_is d columns k p c =
      let e : picks columns ≡ numbers N (first_of N 0 d) ∷ [] = ap picks k.columns_are ∙ picks_single N (first_of N 0 d) in
      sym (one_of (numbers N (first_of N 0 d)) p (subst (λ (l : List (List ℕ)). Contains l p) e c))

  pub is_pick : (d : ℕ) (columns : List (List ℕ)) (k : Kept d columns) → IsPick r d (numbers N (first_of N 0 d))
  is_pick d columns k =
      let e : picks columns ≡ numbers N (first_of N 0 d) ∷ [] = ap picks k.columns_are ∙ picks_single N (first_of N 0 d) in
      (columns, k.there, subst (λ (l : List (List ℕ)). Contains l (numbers N (first_of N 0 d))) (sym e) (only (numbers N (first_of N 0 d))))

  pub shows_kept : (d : ℕ) (columns : List (List ℕ)) (k : Kept d columns) → Shows r (numbers N (first_of N 0 d)) k.member.scenario.nodes
  shows_kept d columns k =
      subst (λ (n : ℕ). Shows r (numbers n (first_of N 0 d)) k.member.scenario.nodes) k.whole (shows_by net r (first_of N 0 d) 0 k.configs k.member.scenario.nodes k.matches k.member.nodes)

  pub names_kept : (d : ℕ) (columns : List (List ℕ)) (k : Kept d columns) → Names net r (numbers N (first_of N 0 d)) k.member.scenario
  names_kept d columns k = record { member = k.member.member; shows = shows_kept d columns k }

  -- any member that its pick names is this scenario
  pub named_is : (d : ℕ) (columns : List (List ℕ)) (k : Kept d columns) (s : Scenario Term) → Names net r (numbers N (first_of N 0 d)) s → s ≡ k.member.scenario
  named_is d columns k s named =
      one_by_name net net.limits.ticks s k.member.scenario good named.member k.member.member
      (sym (shown_name r (numbers N (first_of N 0 d)) s.nodes named.shows) ∙ shown_name r (numbers N (first_of N 0 d)) k.member.scenario.nodes (shows_kept d columns k))

  pub line_at : (d n : ℕ) (columns : List (List ℕ)) (k : Kept d columns) (c : ConfigView) → slice_get k.configs n ≡ Some c → IsLine r (first_of N 0 d + n) (line_of n c)
  line_at d n columns k c e =
      let place : 0 + n ≡ n = omega arith in
      matches_at r.states (first_of N 0 d) 0 k.configs n c k.matches e ∙ ap (λ (m : ℕ). Some (line_of m c)) place

  -- ---- states

  -- A state is that of a node of a scenario, in one place alone.
  pub record Found (i : ℕ) : Type 0 where
    pub d : ℕ
    pub n : ℕ
    pub columns : List (List ℕ)
    pub kept : Kept d columns
    pub config : ConfigView
    pub at : slice_get kept.configs n ≡ Some config
    pub node : Node Term
    pub there : slice_get kept.member.scenario.nodes n ≡ Some node
    pub ended : IsEnd net n config node
    pub is : i ≡ first_of N 0 d + n

  abbrev pub found_at : (i d n : ℕ) (columns : List (List ℕ)) (k : Kept d columns) (c : ConfigView) → slice_get k.configs n ≡ Some c → i ≡ first_of N 0 d + n → Found i
  found_at i d n columns k c e same =
      let y = end_at net 0 k.configs k.member.scenario.nodes n c k.member.nodes e in
      let place : 0 + n ≡ n = omega arith in
      record { d = d; n = n; columns = columns; kept = k; config = c; at = e; node = y.0; there = y.1; ended = subst (λ (m : ℕ). IsEnd net m c y.0) place y.2; is = same }

  -- the state of node n of a scenario
  pub found_in : (d n : ℕ) (columns : List (List ℕ)) (k : Kept d columns) → n < N → (y : Node Term) → slice_get k.member.scenario.nodes n ≡ Some y → (f : Found (first_of N 0 d + n)) × (f.node ≡ y)
  found_in d n columns k less y e =
      let c = get_some k.configs n (omega (arith, less, k.whole)) in
      let f = found_at (first_of N 0 d + n) d n columns k c.0 c.1 refl in
      (f, some_one f.node y (sym f.there ∙ e))

  pub found : (i : ℕ) → i < length r.states → Found i
  found i less =
      let spot = spot_of N 0 list i long (subst (λ (lines : List StateLine). i < length lines) made.states less) in
      let k = kept_of spot.d spot.states spot.member in
      let same : spot.states ≡ k.configs = some_one spot.states k.configs (sym spot.member ∙ k.listed) in
      let sum : i ≡ 0 + i = omega arith in
      found_at i spot.d spot.n (singles N (first_of N 0 spot.d)) k spot.state (ap (λ (l : List ConfigView). slice_get l spot.n) (sym same) ∙ spot.there) (sum ∙ spot.is)

  -- the line of a state that was found
  pub line_there : (i : ℕ) (f : Found i) → IsLine r i (line_of f.n f.config)
  line_there i f = ap (slice_get r.states) f.is ∙ line_at f.d f.n f.columns f.kept f.config f.at

  pub line_is : (i : ℕ) (f : Found i) (line : StateLine) → IsLine r i line → line ≡ line_of f.n f.config
  line_is i f line e = some_one line (line_of f.n f.config) (sym e ∙ line_there i f)

  pub less_nodes : (i : ℕ) (f : Found i) → f.n < N
  less_nodes i f = let less = get_less f.kept.configs f.n f.config f.at in omega (arith, less, f.kept.whole)

  -- two places of one number are one
  apart : (d e n m : ℕ) → n < N → m < N → first_of N 0 d + n ≡ first_of N 0 e + m → d ≡ e
  apart d e n m p q same =
      elim (cases_lt d e) [
        | inl less ↦ absurd (let far = firsts_apart N 0 d e less in omega (arith, far, same, p, q))
        | inr more ↦ elim (cases_lt e d) [
          | inl less ↦ absurd (let far = firsts_apart N 0 e d less in omega (arith, far, same, p, q))
          | inr back ↦ omega (arith, more, back)
        ]
      ]

  pub same_place : (i : ℕ) (f g : Found i) → (f.d ≡ g.d) × (f.n ≡ g.n)
  same_place i f g =
      let sum : first_of N 0 f.d + f.n ≡ first_of N 0 g.d + g.n = sym f.is ∙ g.is in
      let d : f.d ≡ g.d = apart f.d g.d f.n g.n (less_nodes i f) (less_nodes i g) sum in
      let first : first_of N 0 f.d ≡ first_of N 0 g.d = ap (first_of N 0) d in
      (d, omega (arith, sum, first))

  -- a scenario that is kept in one place is one
  pub same_scenario : (d e : ℕ) (columns columns' : List (List ℕ)) (k : Kept d columns) (l : Kept e columns') → d ≡ e → k.member.scenario ≡ l.member.scenario
  same_scenario d e columns columns' k l same =
      let configs : k.configs ≡ l.configs = some_one k.configs l.configs (sym k.listed ∙ ap (slice_get list) same ∙ l.listed) in
      one_by_name net net.limits.ticks k.member.scenario l.member.scenario good k.member.member l.member.member
      (sym (ends_named net 0 k.configs k.member.scenario.nodes k.member.nodes) ∙ (ap name_in configs ∙ ends_named net 0 l.configs l.member.scenario.nodes l.member.nodes))

  pub same_node : (i : ℕ) (f g : Found i) → f.node ≡ g.node
  same_node i f g =
      let place = same_place i f g in
      let scenario = same_scenario f.d g.d f.columns g.columns f.kept g.kept place.0 in
      some_one f.node g.node (sym f.there ∙ ap (λ (s : Scenario Term). slice_get s.nodes f.n) scenario ∙ ap (slice_get g.kept.member.scenario.nodes) place.1 ∙ g.there)

  -- a node that picks with a state name is the state's node
  pub node_found : (i : ℕ) (y : Node Term) → NodeIn net r i y → (f : Found i) × (f.node ≡ y)
  node_found i y node =
      let columns = node.picked.0 in
      let k = kept_at node.dstate columns node.picked.1 in
      let pick = pick_is node.dstate columns k node.pick node.picked.2 in
      let scenario : node.scenario ≡ k.member.scenario = named_is node.dstate columns k node.scenario (subst (λ (p : List ℕ). Names net r p node.scenario) pick node.named) in
      let number = numbers_at N (first_of N 0 node.dstate) node.line.node i (ap (λ (p : List ℕ). slice_get p node.line.node) (sym pick) ∙ node.with) in
      let there : slice_get k.member.scenario.nodes node.line.node ≡ Some y = ap (λ (s : Scenario Term). slice_get s.nodes node.line.node) (sym scenario) ∙ node.there in
      let c = get_some k.configs node.line.node (omega (arith, number.0, k.whole)) in
      let f = found_at i node.dstate node.line.node columns k c.0 c.1 number.1 in
      (f, some_one f.node y (sym f.there ∙ there))

  pub one_node : (i : ℕ) (x y : Node Term) → NodeIn net r i x → NodeIn net r i y → x ≡ y
  one_node i x y p q =
      let f = node_found i x p in
      let g = node_found i y q in
      sym f.1 ∙ (same_node i f.0 g.0 ∙ g.1)

  -- a state that was found is in the pick of its scenario
  pub node_in : (i : ℕ) (f : Found i) → NodeIn net r i f.node
  node_in i f = record {
    line = line_of f.n f.config;
    is = line_there i f;
    dstate = f.d;
    pick = numbers N (first_of N 0 f.d);
    picked = is_pick f.d f.columns f.kept;
    with = at_numbers N (first_of N 0 f.d) f.n (less_nodes i f) ∙ ap (λ (j : ℕ). Some j) (sym f.is);
    scenario = f.kept.member.scenario;
    named = names_kept f.d f.columns f.kept;
    there = f.there;
  }
