-- One node that branches once: its two places and the two prefixes of its event pass a limit of one state, and keep one of two.
use Rattle.std.proofs.Common.{◌≡◌, ◌⊎◌, inl, inr, ℕ, zero, suc, ◌+◌, ◌<◌, Bool, true, false, List, [], ◌∷◌, ◌++◌, length, map, set, Some, None, Option, refl, sym, ap, subst, ◌∙◌, arith}
use Rattle.std.specs.Prelude.{Contains, slice_get, slice_index_or, flat_map, not}
use Rattle.std.specs.List.{AllByRecursion}
use Rattle.std.proofs.lemmas.List.{length-set}
use Rattle.kn_model.specs.Terms.{Term, Input, terms}
use Rattle.kn_model.specs.Histories.{History, Done, AndRan}
use Rattle.kn_packet.specs.declared.packet.Event.{Event}
use Rattle.kn_packet.specs.declared.packet.Event.TheVariants.{Boot}
use Rattle.kn_model.specs.Nodes.{Node}
use Rattle.kn_model.specs.Nets.{Network, opening_node, no_plan}
use Rattle.kn_model.specs.Due.{due, left}
use Rattle.kn_model.specs.Paths.{Path, paths, paths_of, parcels, node_after, event_paths}
use Rattle.kn_model.specs.Scenarios.{Scenario, opening, pre, cob, node_at, copies, copies_of, copied, turns, settled_from, settled}
use Rattle.kn_model.specs.Conditions.{that, AreDistinct}
use Rattle.kn_model.specs.Alikes.{MetAt}
use Rattle.kn_model.specs.Limits.{Place, StandsIn, TooManyPlaces, TooManyPaths, IsPrefix, Begins, NoneBegins}
use Rattle.kn_worked.specs.Networks.{is, is_not, i, o}
use Rattle.kn_worked.specs.OneTick.{first_of}
use Rattle.kn_worked.specs.Limits.{one_half, PlacesOver, PrefixesOver, PlacesKept}
use Rattle.kn_model.proofs.Counting.{at_most}
use Rattle.kn_model.proofs.Implied.{all-contains}
use Rattle.kn_model.proofs.Lists.{all-weaker, all-flat}
use Rattle.kn_model.proofs.LeastInputs.{live_by}
use Rattle.kn_model.proofs.Settling.{length-posted}

abbrev after_bit : Bool → History
after_bit b = AndRan Boot (b ∷ []) Done

abbrev place_of : Bool → Place
place_of b = record { node = 0; history = after_bit b }

abbrev two_places : List Place
two_places = place_of o ∷ place_of i ∷ []

two_distinct : AreDistinct two_places
two_distinct = ((λ c. go c.0 c.1 c.2), ((λ c. let none = c.1 in omega (arith, none)), tt))
  where
    go : (k : ℕ) → k < 1 → slice_index_or (place_of i ∷ []) k (place_of o) ≡ place_of o → ⊥
    go zero h e = let f : after_bit i ≡ after_bit o = ap (λ (p : Place). p.history) e in cc
    go (suc k) h e = omega (arith, h)

pub places_over : PlacesOver
places_over = inl (record {
  places = two_places;
  many = omega arith;
  distinct = two_distinct;
  each = (
    record {
      scenario = slice_index_or (pre terms (one_half 1) 0) 0 (opening terms (one_half 1));
      member = (0, omega arith, refl);
      node = node_at terms (slice_index_or (pre terms (one_half 1) 0) 0 (opening terms (one_half 1))) 0;
      there = refl;
      with_history = refl;
      live = live_by 65536 (that (is (Input 0 0 1) ∷ [])) (first_of 0 ∷ []) refl;
    },
    (
      record {
        scenario = slice_index_or (pre terms (one_half 1) 0) 1 (opening terms (one_half 1));
        member = (1, omega arith, refl);
        node = node_at terms (slice_index_or (pre terms (one_half 1) 0) 1 (opening terms (one_half 1))) 0;
        there = refl;
        with_history = refl;
        live = live_by 65536 (that (is_not (Input 0 0 1) ∷ [])) [] refl;
      },
      tt,
    ),
  );
})

abbrev begin : ℕ → Scenario Term
begin states = opening terms (one_half states)

abbrev both_paths : ℕ → List (Path Term)
both_paths states = paths terms (one_half states) 0 0 (node_at terms (begin states) 0).state

abbrev no_path : Path Term
no_path = record { bits = []; literals = []; state = (opening_node terms no_plan).state; sends = [] }

pub prefixes_over : PrefixesOver
prefixes_over = record {
  number = 0;
  scenario = begin 1;
  met = record { inside = omega arith; start = begin 1; member = (0, omega arith, refl); before = begin 1; reached = (0, omega arith, refl); count = 0; turned = (0, omega arith, refl) };
  node = node_at terms (begin 1) 0;
  there = refl;
  prefixes = (o ∷ []) ∷ (i ∷ []) ∷ [];
  many = omega arith;
  apart = ((λ h. elim h [ inl b ↦ cc_of b.1 | inr b ↦ cc_of (sym b.1) ], tt), (tt, tt));
  each = (
    record { path = slice_index_or (both_paths 1) 0 no_path; member = (0, omega arith, refl); rest = []; begins = refl; live = live_by 65536 (that (is (Input 0 0 1) ∷ [])) (first_of 0 ∷ []) refl },
    (record { path = slice_index_or (both_paths 1) 1 no_path; member = (1, omega arith, refl); rest = []; begins = refl; live = live_by 65536 (that (is_not (Input 0 0 1) ∷ [])) [] refl }, tt),
  );
}
  where
    cc_of : {xs ys : List Bool} → (i ∷ xs) ≡ (o ∷ ys) → ⊥
    cc_of e = cc

-- ---- two are kept

-- the scenarios have one node, at one of the two places
abbrev OnePlace : Scenario Term → Type 0
OnePlace s = (y : Node Term) × (s.nodes ≡ y ∷ []) × Contains two_places (record { node = 0; history = y.history })

only_place : (s : Scenario Term) (p : Place) (y : Node Term) → OnePlace s → slice_get s.nodes p.node ≡ Some y → y.history ≡ p.history → Contains two_places p
only_place s p y one there e = go p.node refl (sym (ap (λ (ys : List (Node Term)). slice_get ys p.node) one.1) ∙ there)
  where
    go : (n : ℕ) → p.node ≡ n → slice_get (one.0 ∷ []) n ≡ Some y → Contains two_places p
    go zero m h =
        let f : one.0 ≡ y = cc in
        subst (Contains two_places) (cong_place f m) one.2
      where
        cong_place : one.0 ≡ y → p.node ≡ 0 → record { node = 0; history = one.0.history } ≡ p
        cong_place f m = ap (λ (h : History). record { node = 0; history = h }) (ap (λ (z : Node Term). z.history) f ∙ e) ∙ ap (λ (n : ℕ). record { node = n; history = p.history }) (sym m)
    go (suc n) m h = absurd cc

few_places : (list : List (Scenario Term)) → AllByRecursion OnePlace list → TooManyPlaces (one_half 2) list → ⊥
few_places list h over =
    let each = all-weaker (StandsIn (one_half 2) list) (Contains two_places) (λ p s. only_place s.scenario p s.node (all-contains OnePlace list s.scenario h s.member) s.there s.with_history) over.places over.each in
    let few = at_most two_places over.places each over.distinct in
    let many = over.many in
    omega (arith, few, many)

before_close : AllByRecursion OnePlace (pre terms (one_half 2) 0)
before_close = (
  (node_at terms (slice_index_or (pre terms (one_half 2) 0) 0 (begin 2)) 0, refl, (0, omega arith, refl)),
  ((node_at terms (slice_index_or (pre terms (one_half 2) 0) 1 (begin 2)) 0, refl, (1, omega arith, refl)), tt),
)

after_close : AllByRecursion OnePlace (cob terms (one_half 2) 1)
after_close = (
  (node_at terms (slice_index_or (cob terms (one_half 2) 1) 0 (begin 2)) 0, refl, (0, omega arith, refl)),
  ((node_at terms (slice_index_or (cob terms (one_half 2) 1) 1 (begin 2)) 0, refl, (1, omega arith, refl)), tt),
)

-- ---- what is met in the tick

-- events keep the number of nodes
module _ (net : Network) (t : ℕ) (count : ℕ) where
  abbrev Fits : Scenario Term → Type 0
  Fits s = length s.nodes ≡ count

  copies_fit : (n : ℕ) (s : Scenario Term) → Fits s → AllByRecursion Fits (copies terms net n t s)
  copies_fit n s f = go (due net.limits.ticks t (node_at terms s n).state)
    where
      copy_fits : (e : Event) (p : Path Term) → Fits (copied terms s n e p)
      copy_fits e p = length-posted 0 (parcels terms (node_at terms s n) p) (set s.nodes n (node_after terms e (node_at terms s n) p)) ∙ (length-set s.nodes n (node_after terms e (node_at terms s n) p) ∙ f)

      each : (e : Event) (ps : List (Path Term)) → AllByRecursion Fits (map (copied terms s n e) ps)
      each e [] = tt
      each e (p ∷ ps) = (copy_fits e p, each e ps)

      go : (e : Option Event) → AllByRecursion Fits (copies_of terms net n t s e)
      go None = (f, tt)
      go (Some e) = each e (event_paths terms net n t e (node_at terms s n).state)

  then_fit : (f : Scenario Term → List (Scenario Term)) → ((s : Scenario Term) → Fits s → AllByRecursion Fits (f s)) → (ss : List (Scenario Term)) → AllByRecursion Fits ss → AllByRecursion Fits (flat_map f ss)
  then_fit f h ss all = all-flat Fits f ss (all-weaker Fits (λ s. AllByRecursion Fits (f s)) h ss all)

  turns_fit : (n fuel : ℕ) (s : Scenario Term) → Fits s → AllByRecursion Fits (turns terms net n t fuel s)
  turns_fit n zero s f = (f, tt)
  turns_fit n (suc fuel) s f = then_fit (turns terms net n t fuel) (turns_fit n fuel) (copies terms net n t s) (copies_fit n s f)

  from_fit : (n more : ℕ) (s : Scenario Term) → Fits s → AllByRecursion Fits (settled_from terms net t n more s)
  from_fit n zero s f = (f, tt)
  from_fit n (suc more) s f = then_fit (settled_from terms net t (n + 1) more) (from_fit (n + 1) more) (settled terms net t n s) (turns_fit n (left net.limits.ticks t (node_at terms s n).state) s f)

-- where nothing is due, nothing comes
pub stays : (net : Network) (n t fuel : ℕ) (s : Scenario Term) → due net.limits.ticks t (node_at terms s n).state ≡ None → turns terms net n t fuel s ≡ s ∷ []
stays net n t zero s e = refl
stays net n t (suc fuel) s e = ap (λ (x : Option Event). flat_map (turns terms net n t fuel) (copies_of terms net n t s x)) e ∙ ap (λ (ss : List (Scenario Term)). ss ++ []) (stays net n t fuel s e)

pub the_only : {A : Type 0} (x y : A) → Contains (x ∷ []) y → x ≡ y
the_only {A} x y c = go c.0 c.1 c.2
  where
    go : (k : ℕ) → k < 1 → slice_index_or (x ∷ []) k y ≡ y → x ≡ y
    go zero h e = e
    go (suc k) h e = absurd (omega (arith, h))

-- the scenario at the start of the tick, or one in which no event of the node is due
abbrev Bare : Scenario Term → Type 0
Bare s = (begin 2 ≡ s) ⊎ (due 1 0 (node_at terms s 0).state ≡ None)

all_bare : (count : ℕ) → AllByRecursion Bare (turns terms (one_half 2) 0 0 count (begin 2))
all_bare zero = (inl refl, tt)
all_bare (suc count) =
    let a = slice_index_or (pre terms (one_half 2) 0) 0 (begin 2) in
    let b = slice_index_or (pre terms (one_half 2) 0) 1 (begin 2) in
    subst (AllByRecursion Bare) (sym (ap (λ (ss : List (Scenario Term)). ss ++ (turns terms (one_half 2) 0 0 count b ++ [])) (stays (one_half 2) 0 0 count a refl) ∙ ap (λ (ss : List (Scenario Term)). a ∷ (ss ++ [])) (stays (one_half 2) 0 0 count b refl))) (inr refl, (inr refl, tt))

met_bare : (s : Scenario Term) → MetAt terms (one_half 2) 0 0 s → Bare s
met_bare s m =
    let e : begin 2 ≡ m.start = the_only (begin 2) m.start m.member in
    let f : m.start ≡ m.before = the_only m.start m.before m.reached in
    all-contains Bare (turns terms (one_half 2) 0 0 m.count (begin 2)) s (all_bare m.count) (subst (λ (u : Scenario Term). Contains (turns terms (one_half 2) 0 0 m.count u) s) (sym (e ∙ f)) m.turned)

met_one : (n : ℕ) (s : Scenario Term) → MetAt terms (one_half 2) 0 n s → length s.nodes ≡ 1
met_one n s m =
    let e : begin 2 ≡ m.start = the_only (begin 2) m.start m.member in
    let f : length m.start.nodes ≡ 1 = ap (λ (u : Scenario Term). length u.nodes) (sym e) in
    let g : length m.before.nodes ≡ 1 = all-contains (Fits (one_half 2) 0 1) (settled_from terms (one_half 2) 0 0 n m.start) m.before (from_fit (one_half 2) 0 1 0 n m.start f) m.reached in
    all-contains (Fits (one_half 2) 0 1) (turns terms (one_half 2) n 0 m.count m.before) s (turns_fit (one_half 2) 0 1 n m.count m.before g) m.turned

-- ---- prefixes

-- at most one bit
abbrev IsShort : List Bool → Type 0
IsShort [] = Unit {0}
IsShort (b ∷ []) = Unit {0}
IsShort (b ∷ (c ∷ rest)) = ⊥

short_by : (bits rest : List Bool) → length (bits ++ rest) ≡ 1 → IsShort bits
short_by [] rest e = tt
short_by (b ∷ []) rest e = tt
short_by (b ∷ (c ∷ bits)) rest e = let f : suc (suc (length (bits ++ rest))) ≡ 1 = e in absurd (omega (arith, f))

flipped : List Bool → List Bool
flipped [] = []
flipped (b ∷ bits) = not b ∷ []

other : (xs ys : List Bool) → IsShort xs → IsShort ys → ((Begins xs ys ⊎ Begins ys xs) → ⊥) → ys ≡ flipped xs
unfolding flipped
other [] ys s t n = absurd (n (inl (ys, refl)))
other (b ∷ bits) [] s t n = absurd (n (inr (b ∷ bits, refl)))
other (false ∷ []) (false ∷ []) s t n = absurd (n (inl ([], refl)))
other (false ∷ []) (true ∷ []) s t n = refl
other (true ∷ []) (false ∷ []) s t n = refl
other (true ∷ []) (true ∷ []) s t n = absurd (n (inl ([], refl)))
other (b ∷ []) (c ∷ (d ∷ ys)) s t n = absurd t
other (b ∷ (d ∷ xs)) ys s t n = absurd s

two_apart : (ps : List (List Bool)) → AllByRecursion IsShort ps → NoneBegins ps → 2 < length ps → ⊥
two_apart [] s n h = omega (arith, h)
two_apart (x ∷ []) s n h = omega (arith, h)
two_apart (x ∷ (y ∷ [])) s n h = omega (arith, h)
two_apart (x ∷ (y ∷ (z ∷ ps))) s n h =
    let e : y ≡ flipped x = other x y s.0 s.1.0 n.0.0 in
    let f : z ≡ flipped x = other x z s.0 s.1.1.0 n.0.1.0 in
    n.1.0.0 (inl ([], f ∙ (sym e ∙ sym (append_nil y))))
  where
    append_nil : (bs : List Bool) → bs ++ [] ≡ bs
    append_nil [] = refl
    append_nil (b ∷ bs) = ap (λ (cs : List Bool). b ∷ cs) (append_nil bs)

-- the paths have one bit
abbrev OneBit : Path Term → Type 0
OneBit p = length p.bits ≡ 1

few_paths : TooManyPaths (one_half 2) 0 → ⊥
few_paths over = go over.number refl
  where
    kept : (n : ℕ) (s : Scenario Term) (y : Node Term) (ps : List (List Bool)) → AllByRecursion OneBit (paths terms (one_half 2) n 0 y.state)
        → AllByRecursion (IsPrefix 65536 y.state (paths terms (one_half 2) n 0 y.state)) ps → NoneBegins ps → 2 < length ps → ⊥
    kept n s y ps one each apart many =
        two_apart ps (all-weaker (IsPrefix 65536 y.state (paths terms (one_half 2) n 0 y.state)) IsShort
        (λ bits p. short_by bits p.rest (ap length (sym p.begins) ∙ all-contains OneBit (paths terms (one_half 2) n 0 y.state) p.path one p.member)) ps each) apart many

    one_bit : (y : Node Term) → (node_at terms over.scenario 0 ≡ y) → Bare over.scenario → AllByRecursion OneBit (paths terms (one_half 2) 0 0 y.state)
    one_bit y e (inl b) = subst (λ (z : Node Term). AllByRecursion OneBit (paths terms (one_half 2) 0 0 z.state)) (ap (λ (u : Scenario Term). node_at terms u 0) b ∙ e) (refl, (refl, tt))
    one_bit y e (inr d) = subst (λ (z : Node Term). AllByRecursion OneBit (paths terms (one_half 2) 0 0 z.state)) e (subst (λ (x : Option Event). AllByRecursion OneBit (paths_of terms (one_half 2) 0 0 (node_at terms over.scenario 0).state x)) (sym d) tt)

    at_zero : (ys : List (Node Term)) (y : Node Term) → slice_get ys 0 ≡ Some y → slice_index_or ys 0 (opening_node terms no_plan) ≡ y
    at_zero [] y e = absurd cc
    at_zero (z ∷ ys) y e = cc

    past : (ys : List (Node Term)) (n : ℕ) (y : Node Term) → length ys ≡ 1 → slice_get ys (suc n) ≡ Some y → ⊥
    past [] n y l e = absurd cc
    past (z ∷ []) n y l e = cc
    past (z ∷ (u ∷ ys)) n y l e = let f : suc (suc (length ys)) ≡ 1 = l in omega (arith, f)

    go : (n : ℕ) → over.number ≡ n → ⊥
    go zero e =
        let m = subst (λ (n : ℕ). MetAt terms (one_half 2) 0 n over.scenario) e over.met in
        let there = subst (λ (n : ℕ). slice_get over.scenario.nodes n ≡ Some over.node) e over.there in
        let each = subst (λ (n : ℕ). AllByRecursion (IsPrefix 65536 over.node.state (paths terms (one_half 2) n 0 over.node.state)) over.prefixes) e over.each in
        kept 0 over.scenario over.node over.prefixes (one_bit over.node (at_zero over.scenario.nodes over.node there) (met_bare over.scenario m)) each over.apart over.many
    go (suc n) e =
        past over.scenario.nodes n over.node (met_one over.number over.scenario over.met) (subst (λ (m : ℕ). slice_get over.scenario.nodes m ≡ Some over.node) e over.there)

pub places_kept : PlacesKept
places_kept (inl over) = few_places (pre terms (one_half 2) 0) before_close over
places_kept (inr (inl over)) = few_places (cob terms (one_half 2) 1) after_close over
places_kept (inr (inr over)) = few_paths over
