-- The report of scenarios under copy on branch gives the network.
use Rattle.std.proofs.Common.{◌≡◌, ◌⊎◌, inl, inr, ℕ, zero, suc, ◌+◌, ◌*◌, ◌<◌, ◌≤◌, Bool, true, false, cond, List, [], ◌∷◌, length, map, Some, refl, sym, ap, subst, ◌∙◌, arith}
use Rattle.std.specs.Prelude.{Contains, slice_get, flat_map}
use Rattle.std.specs.List.{AllByRecursion}
use Rattle.std.specs.declared.cmp.Ordering.{Ordering}
use Rattle.std.specs.declared.cmp.Ordering.TheVariants.{Less, Equal}
use Rattle.std.specs.Ordering.{nat_cmp, bool_cmp}
use Rattle.std.specs.Cmp.{nat_cmp_is}
use Rattle.std.specs.Cmp.Lexicographic.{slice_cmp}
use Rattle.std.proofs.lemmas.Bool.{cases_lt}
use Rattle.std.proofs.lemmas.List.Concat.{flat_map-cons}
use Rattle.std.proofs.lemmas.List.Elements.{Contains-append_cases}
use Rattle.kn_built.specs.Picks.{picks}
use Rattle.kn_cond.specs.declared.standing.Standing.TheVariants.{Inputs}
use Rattle.kn_node.specs.Views.{ConfigView}
use Rattle.kn_model.specs.Terms.{Term, Valuation}
use Rattle.kn_model.specs.Nodes.{Node, Outcome, Running, Halted, Failed}
use Rattle.kn_model.specs.Nets.{Network}
use Rattle.kn_model.specs.Scenarios.{Scenario, name_of}
use Rattle.kn_model.specs.Conditions.{that, holds, AreDistinct, StandsFor, IsLeast}
use Rattle.kn_model.specs.Alikes.{ConditionAlike}
use Rattle.kn_model.specs.Concrete.{scenario_under}
use Rattle.kn_model.specs.Laws.{IsNet}
use Rattle.kn_model.specs.Reports.{Report, StateLine, FailureLine, Reach, At, Undecided, Nowhere, Names, all_picks, pick_name, trace_cmp, Gives, IsFailure, IsFailedState, Rises, MeetsPick, pick_condition, IsReached, ReachIs, HasNoPick, HasFarQuery, AreNumbered, AreRuns, singles}
use Rattle.kn_model.proofs.AlikeStandings.{alike_standings}
use Rattle.kn_model.proofs.FirstInputs.{least_is_first}
use Rattle.kn_model.proofs.Implied.{run_ends_as_member, run_shows}
use Rattle.kn_model.proofs.Lists.{all-weaker}
use Rattle.kn_machine.specs.Views.{own_of}
use Rattle.kn_cob.specs.Runs.{AreScenarios, name_in}
use Rattle.kn_cob.specs.Reports.{numbers, dstates_from, is_failed, failed_from, joint_of, IsJoint, IsOfScenario, IsReportOf}
use Rattle.kn_cob.proofs.Numbered.{some_one, none_some, get_some, contained_at, contains_at, all_contained, first_of, first_is, numbers_at, singles_at, at_numbers, at_singles, one_of, only}
use Rattle.kn_cob.proofs.Told.{kept_at, kept_of, pick_is, is_pick, named_is, names_kept, shows_kept, all_names, rows_run, Found, found, found_at, line_is, less_nodes, same_place, same_scenario, node_found}
use Rattle.kn_cob.proofs.Joint.{joint_alike, has_far}

-- ---- the numbers of failed states

failed_is : (o : Outcome) → is_failed o ≡ true → IsFailure o
failed_is Running e = absurd cc
failed_is Halted e = absurd cc
failed_is (Failed kind pc tick) e = tt

is_failure : (o : Outcome) → IsFailure o → is_failed o ≡ true
is_failure Running w = absurd w
is_failure Halted w = absurd w
is_failure (Failed kind pc tick) w = refl

-- one of the numbers of failed states is that of one
record Failure (lines : List StateLine) (i j : ℕ) : Type 0 where
  pub place : ℕ
  pub line : StateLine
  pub there : slice_get lines place ≡ Some line
  pub failed : IsFailure line.outcome
  pub is : j ≡ i + place

failed_has : (lines : List StateLine) (i j k : ℕ) → slice_get (failed_from i lines) k ≡ Some j → Failure lines i j
failed_has [] i j k e = none_some j e
failed_has (line ∷ lines) i j k e = go (is_failed line.outcome) refl (failed_has lines (i + 1) j) k e
  where
    further : Failure lines (i + 1) j → Failure (line ∷ lines) i j
    further rest = let same = rest.is in record { place = suc rest.place; line = rest.line; there = rest.there; failed = rest.failed; is = omega (arith, same) }

    go : (b : Bool) → is_failed line.outcome ≡ b → ((k : ℕ) → slice_get (failed_from (i + 1) lines) k ≡ Some j → Failure lines (i + 1) j)
        → (k : ℕ) → slice_get (cond b (i ∷ failed_from (i + 1) lines) (failed_from (i + 1) lines)) k ≡ Some j → Failure (line ∷ lines) i j
    go false is more k e = further (more k e)
    go true is more zero e = let same = some_one i j e in record { place = 0; line = line; there = refl; failed = failed_is line.outcome is; is = omega (arith, same) }
    go true is more (suc k) e = further (more k e)

failed_there : (lines : List StateLine) (i place : ℕ) (line : StateLine) → slice_get lines place ≡ Some line → IsFailure line.outcome → (k : ℕ) × (slice_get (failed_from i lines) k ≡ Some (i + place))
failed_there [] i place line e w = none_some line e
failed_there (x ∷ lines) i zero line e w =
    let is : is_failed x.outcome ≡ true = ap (λ (l : StateLine). is_failed l.outcome) (some_one x line e) ∙ is_failure line.outcome w in
    let same : i ≡ i + 0 = omega arith in
    (0, ap (λ (b : Bool). slice_get (cond b (i ∷ failed_from (i + 1) lines) (failed_from (i + 1) lines)) 0) is ∙ ap (λ (j : ℕ). Some j) same)
failed_there (x ∷ lines) i (suc place) line e w = go (is_failed x.outcome) (failed_there lines (i + 1) place line e w)
  where
    go : (b : Bool) → (k : ℕ) × (slice_get (failed_from (i + 1) lines) k ≡ Some ((i + 1) + place)) → (k : ℕ) × (slice_get (cond b (i ∷ failed_from (i + 1) lines) (failed_from (i + 1) lines)) k ≡ Some (i + suc place))
    go b rest =
        let same : (i + 1) + place ≡ i + suc place = omega arith in
        let there = rest.1 ∙ ap (λ (j : ℕ). Some j) same in
        elim (b) as (λ (b : Bool). (k : ℕ) × (slice_get (cond b (i ∷ failed_from (i + 1) lines) (failed_from (i + 1) lines)) k ≡ Some (i + suc place))) [ true ↦ (suc rest.0, there) | false ↦ (rest.0, there) ]

less_is : (x y : ℕ) → x < y → nat_cmp x y ≡ Less
less_is x y less = sym (nat_cmp_is x y Less less)

all_less : (i : ℕ) (js : List ℕ) → AllByRecursion (λ (j : ℕ). i + 1 ≤ j) js → AllByRecursion (λ (j : ℕ). nat_cmp i j ≡ Less) js
all_less i js h = all-weaker (λ (j : ℕ). i + 1 ≤ j) (λ (j : ℕ). nat_cmp i j ≡ Less) (λ j low. less_is i j (omega (arith, low))) js h

-- they rise
failed_rise : (lines : List StateLine) (i : ℕ) → Rises nat_cmp (failed_from i lines) × AllByRecursion (λ (j : ℕ). i ≤ j) (failed_from i lines)
failed_rise [] i = (tt, tt)
failed_rise (line ∷ lines) i = go (is_failed line.outcome) (failed_rise lines (i + 1))
  where
    low : (js : List ℕ) → AllByRecursion (λ (j : ℕ). i + 1 ≤ j) js → AllByRecursion (λ (j : ℕ). i ≤ j) js
    low js h = all-weaker (λ (j : ℕ). i + 1 ≤ j) (λ (j : ℕ). i ≤ j) (λ j low. omega (arith, low)) js h

    go : (b : Bool) → Rises nat_cmp (failed_from (i + 1) lines) × AllByRecursion (λ (j : ℕ). i + 1 ≤ j) (failed_from (i + 1) lines)
        → Rises nat_cmp (cond b (i ∷ failed_from (i + 1) lines) (failed_from (i + 1) lines)) × AllByRecursion (λ (j : ℕ). i ≤ j) (cond b (i ∷ failed_from (i + 1) lines) (failed_from (i + 1) lines))
    go true rest = ((all_less i (failed_from (i + 1) lines) rest.1, rest.0), (omega arith, low (failed_from (i + 1) lines) rest.1))
    go false rest = (rest.0, low (failed_from (i + 1) lines) rest.1)

-- ---- names that rise differ

cmp_same : {A : Type 0} (cmp : A → A → Ordering) → ((x : A) → cmp x x ≡ Equal) → (xs : List A) → slice_cmp cmp xs xs ≡ Equal
cmp_same cmp same [] = refl
cmp_same cmp same (x ∷ xs) = rw (same x) (cmp_same cmp same xs)

bool_same : (b : Bool) → bool_cmp b b ≡ Equal
bool_same true = refl
bool_same false = refl

rises_distinct : (xs : List (List (List Bool))) → Rises (slice_cmp trace_cmp) xs → AreDistinct xs
rises_distinct [] u = tt
rises_distinct (x ∷ xs) u = ((λ c. never x (all_contained (λ y. slice_cmp trace_cmp x y ≡ Less) xs x u.0 c)), rises_distinct xs u.1)
  where
    never : (x : List (List Bool)) → slice_cmp trace_cmp x x ≡ Less → ⊥
    never x e = let same : Less ≡ Equal = sym e ∙ cmp_same trace_cmp (cmp_same bool_cmp bool_same) x in cc

-- a pick is that of a dstate
pick_place : (nodes i : ℕ) (xs : List (List ConfigView)) (p : List ℕ) → Contains (flat_map picks (dstates_from nodes i xs)) p → (d : ℕ) × (columns : List (List ℕ)) × (slice_get (dstates_from nodes i xs) d ≡ Some columns) × Contains (picks columns) p
pick_place nodes i [] p c = absurd (let less = c.1 in omega (arith, less))
pick_place nodes i (x ∷ xs) p c =
    elim (Contains-append_cases (picks (singles nodes i)) (flat_map picks (dstates_from nodes (i + nodes) xs)) p (subst (λ (l : List (List ℕ)). Contains l p) (flat_map-cons picks (singles nodes i) (dstates_from nodes (i + nodes) xs)) c)) [
      | inl here ↦ (0, singles nodes i, refl, here)
      | inr rest ↦ let d = pick_place nodes (i + nodes) xs p rest in (suc d.0, d.1, d.2, d.3)
    ]

abbrev number : FailureLine → ℕ
number w = w.state

module _ (net : Network) (good : IsNet net) (list : List (List ConfigView)) (h : AreScenarios net list) (r : Report) (made : IsReportOf net list r) where
  abbrev M : ℕ
  M = length net.nodes

  -- ---- how a state is reached

  module _ (i : ℕ) (f : Found net good list h r made i) where
    abbrev first : ℕ
    first = first_of M 0 f.d

    abbrev nodes : List (Node Term)
    nodes = f.kept.member.scenario.nodes

    alike : ConditionAlike (joint_of f.kept.configs) (pick_condition nodes)
    alike = joint_alike net 0 f.kept.configs nodes f.kept.member.nodes

    -- what meets a pick with it meets the joined condition of its scenario, and the pick is that of its dstate
    meets_joined : (e : ℕ) (a : Valuation) → MeetsPick net r e i a → (e ≡ f.d) × (holds a (pick_condition nodes) ≡ true)
    meets_joined e a m =
        let k = kept_at net good list h r made e m.picked.0 m.picked.1 in
        let pick = pick_is net good list h r made e m.picked.0 k m.pick m.picked.2 in
        let scenario : m.scenario ≡ k.member.scenario = named_is net good list h r made e m.picked.0 k m.scenario (subst (λ (p : List ℕ). Names net r p m.scenario) pick m.named) in
        let at = contained_at (numbers M (first_of M 0 e)) i (subst (λ (p : List ℕ). Contains p i) pick m.with) in
        let number = numbers_at M (first_of M 0 e) at.0 i at.1 in
        let c = get_some k.configs at.0 (omega (arith, number.0, k.whole)) in
        let g = found_at net good list h r made i e at.0 m.picked.0 k c.0 c.1 number.1 in
        let same = same_place net good list h r made i g f in
        let one = same_scenario net good list h r made e f.d m.picked.0 f.columns k f.kept same.0 in
        (same.0, ap (λ (s : Scenario Term). holds a (pick_condition s.nodes)) (sym (scenario ∙ one)) ∙ m.meets)

    reached : (a : Valuation) → IsLeast (that (joint_of f.kept.configs)) a → IsReached net r i f.d (numbers M first) a
    reached a l =
        let least = (alike_standings net.limits.conflicts (joint_of f.kept.configs) (pick_condition nodes) alike).2 (Inputs a) l in
        let meets : holds a (pick_condition nodes) ≡ true = ap (λ (b : Valuation). holds b (pick_condition nodes)) least.is ∙ least.meet.1 in
        let picked = is_pick net good list h r made f.d f.columns f.kept in
        let with : Contains (numbers M first) i =
        subst (λ (j : ℕ). Contains (numbers M first) j) (sym f.is) (contains_at (numbers M first) f.n (first + f.n) (at_numbers M first f.n (less_nodes net good list h r made i f))) in
        let named = names_kept net good list h r made f.d f.columns f.kept in
        let only_least = least_is_first (pick_condition nodes) a least in
        record {
          picked = picked;
          with = with;
          scenario = f.kept.member.scenario;
          named = named;
          meets = meets;
          least = record {
            entries = only_least.entries;
            has = record { pick = numbers M first; picked = picked; with = with; scenario = f.kept.member.scenario; named = named; meets = meets };
            first = λ b before m. only_least.first b before (meets_joined f.d b m).1;
          };
          run = scenario_under a f.kept.member.scenario;
          concrete_run = run_ends_as_member net a net.limits.ticks f.kept.member.scenario good f.kept.member.member meets;
          shows = run_shows a r (numbers M first) nodes (shows_kept net good list h r made f.d f.columns f.kept);
          earlier = λ e less. inl (λ b m. let same = (meets_joined e b m).0 in omega (arith, same, less));
        }

    -- it is in no pick of another dstate
    elsewhere : (e : ℕ) → (e ≡ f.d → ⊥) → HasNoPick net r e i
    elsewhere e other a m = other (meets_joined e a m).0

    far_or_none : HasFarQuery net r f.d i → (e : ℕ) → HasFarQuery net r e i ⊎ HasNoPick net r e i
    far_or_none far e =
        elim (cases_lt e f.d) [
          | inl less ↦ inr (elsewhere e (λ same. omega (arith, less, same)))
          | inr more ↦ elim (cases_lt f.d e) [
            | inl less ↦ inr (elsewhere e (λ same. omega (arith, less, same)))
            | inr back ↦ let same : f.d ≡ e = omega (arith, more, back) in inl (subst (λ (d : ℕ). HasFarQuery net r d i) same far)
          ]
        ]

    pub reach_is : (x : Reach) → IsJoint net.limits.conflicts (joint_of f.kept.configs) f.d (numbers M first) x → ReachIs net r i x
    reach_is (At e q a) j = subst (λ (d : ℕ). IsReached net r i d q a) (sym j.0) (subst (λ (p : List ℕ). IsReached net r i f.d p a) (sym j.1) (reached a j.2))
    reach_is Undecided far = let here = has_far net good list h r made i f far in ((f.d, here), far_or_none here)
    reach_is Nowhere none = λ e a m. let wrong : true ≡ false = sym (alike.holds a ∙ (meets_joined e a m).1) ∙ none a in cc

  of_scenario : (w : FailureLine) → IsOfScenario net list w → ReachIs net r w.state w.reach
  of_scenario w o =
      let d = o.dstate in
      let k = kept_of net good list h r made d o.configs o.there in
      let c = get_some k.configs o.node (let less = o.inside in omega (arith, less, k.whole)) in
      let first : d * M ≡ first_of M 0 d = first_is M d in
      let f = found_at net good list h r made w.state d o.node (singles M (first_of M 0 d)) k c.0 c.1 (o.state ∙ ap (λ (j : ℕ). j + o.node) first) in
      let configs : o.configs ≡ f.kept.configs = some_one o.configs f.kept.configs (sym o.there ∙ f.kept.listed) in
      reach_is w.state f w.reach
      (subst (λ (cs : List ConfigView). IsJoint net.limits.conflicts (joint_of cs) d (numbers M (first_of M 0 d)) w.reach) configs
      (subst (λ (j : ℕ). IsJoint net.limits.conflicts (joint_of o.configs) d (numbers M j) w.reach) first o.joint))

  numbered : AreRuns r.nodes 0 r.dstates × Rises (slice_cmp trace_cmp) (map (pick_name r) (all_picks r))
  numbered = (
    subst (λ (n : ℕ). AreRuns n 0 r.dstates) (sym made.nodes) (subst (AreRuns M 0) (sym made.dstates) (rows_run M 0 list)),
    subst (Rises (slice_cmp trace_cmp)) (sym (all_names net good list h r made)) h.in_order,
  )

  -- ---- the failure lines

  listed_failed : (i : ℕ) → Contains (map number r.failures) i → IsFailedState r i
  listed_failed i c =
      let at = contained_at (failed_from 0 r.states) i (subst (λ (js : List ℕ). Contains js i) made.failures c) in
      let w = failed_has r.states 0 i at.0 at.1 in
      let place : w.place ≡ i = (let same = w.is in omega (arith, same)) in
      (w.line, ap (slice_get r.states) (sym place) ∙ w.there, w.failed)

  failed_listed : (i : ℕ) → IsFailedState r i → Contains (map number r.failures) i
  failed_listed i w =
      let at = failed_there r.states 0 i w.0 w.1 w.2 in
      let place : 0 + i ≡ i = omega arith in
      subst (λ (js : List ℕ). Contains js i) (sym made.failures) (contains_at (failed_from 0 r.states) at.0 i (at.1 ∙ ap (λ (j : ℕ). Some j) place))

  -- The report gives the network.
  pub report_of_gives : Gives r net
  report_of_gives = record {
    ticks = made.ticks;
    nodes = made.nodes;
    numbered = subst (λ m. AreNumbered m r) (sym made.mapping) numbered;
    of_node = λ d n i columns column line e f c g.
        let k = kept_at net good list h r made d columns e in
        let at = singles_at M (first_of M 0 d) n column (ap (λ (l : List (List ℕ)). slice_get l n) (sym k.columns_are) ∙ f) in
        let number_is : i ≡ first_of M 0 d + n = sym (one_of (first_of M 0 d + n) i (subst (λ (l : List ℕ). Contains l i) at.1 c)) in
        let x = get_some k.configs n (omega (arith, at.0, k.whole)) in
        let spot = found_at net good list h r made i d n columns k x.0 x.1 number_is in
        ap (λ (l : StateLine). l.node) (line_is net good list h r made i spot line g);
    named = λ p c.
        let d = pick_place M 0 list p (subst (λ (ds : List (List (List ℕ))). Contains (flat_map picks ds) p) made.dstates c) in
        let there : slice_get r.dstates d.0 ≡ Some d.1 = ap (λ (ds : List (List (List ℕ))). slice_get ds d.0) made.dstates ∙ d.2 in
        let k = kept_at net good list h r made d.0 d.1 there in
        let pick = pick_is net good list h r made d.0 d.1 k p d.3 in
        (k.member.scenario, subst (λ (q : List ℕ). Names net r q k.member.scenario) (sym pick) (names_kept net good list h r made d.0 d.1 k));
    once = subst AreDistinct (sym (all_names net good list h r made)) (rises_distinct (map name_in list) h.in_order);
    others = λ s c none. h.others s c (λ there. none (subst (λ (l : List (List (List Bool))). Contains l (name_of s)) (sym (all_names net good list h r made)) there));
    placed = λ i less.
        let f = found net good list h r made i less in
        let here = less_nodes net good list h r made i f in (
          f.d,
          (
            f.columns,
            f.kept.there,
            (
              (first_of M 0 f.d + f.n) ∷ [],
              contains_at f.columns f.n ((first_of M 0 f.d + f.n) ∷ []) (ap (λ (l : List (List ℕ)). slice_get l f.n) f.kept.columns_are ∙ at_singles M (first_of M 0 f.d) f.n here),
              subst (λ (j : ℕ). Contains ((first_of M 0 f.d + f.n) ∷ []) j) (sym f.is) (only (first_of M 0 f.d + f.n)),
            ),
          ),
        );
    standings = λ i line y e node.
        let found_y = node_found net good list h r made i y node in
        let f = found_y.0 in
        let right = (alike_standings net.limits.conflicts (own_of f.config) f.node.state.own f.ended.alike.own).2 f.config.standing f.ended.standing in
        subst (λ (l : StateLine). StandsFor net.limits.conflicts (that y.state.own) l.standing) (sym (line_is net good list h r made i f line e))
        (subst (λ (z : Node Term). StandsFor net.limits.conflicts (that z.state.own) f.config.standing) found_y.1 right);
    failures = λ i. (listed_failed i, failed_listed i);
    in_order = subst (Rises nat_cmp) (sym made.failures) (failed_rise r.states 0).0;
    reaches = all-weaker (IsOfScenario net list) (λ (w : FailureLine). ReachIs net r w.state w.reach) of_scenario r.failures made.reaches;
  }

-- A report of what an exploration gives, under copy on branch, gives the network.
pub report_gives : (net : Network) → IsNet net → (list : List (List ConfigView)) → AreScenarios net list → (r : Report) → IsReportOf net list r → Gives r net
report_gives net good list h r made = report_of_gives net good list h r made
