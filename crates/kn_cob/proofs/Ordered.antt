-- Scenarios at the last tick that are sorted by their names are those of a run.
use Rattle.std.proofs.Common.{◌≡◌, ◌≢◌, ◌⊎◌, inl, inr, ℕ, zero, suc, ◌+◌, ◌<◌, ◌≤◌, Bool, true, false, List, [], ◌∷◌, length, map, take, get_or, refl, sym, ap, subst, ◌∙◌, arith}
use Rattle.std.specs.Prelude.{Contains}
use Rattle.std.specs.List.{AllByRecursion}
use Rattle.std.specs.List.Sorted.{IsPermutation, IsSortedByKey}
use Rattle.std.specs.declared.cmp.Ordering.TheVariants.{Equal}
use Rattle.std.specs.Ordering.{is_lt}
use Rattle.std.specs.Cmp.{IsTotalOrder, bool_cmp_total}
use Rattle.std.specs.Cmp.Lexicographic.{lists_total}
use Rattle.std.proofs.lemmas.List.{length-map, take_all}
use Rattle.std.proofs.lemmas.List.Elements.{All-from_recursion}
use Rattle.std.proofs.lemmas.List.Sorted.{Contains-permutation, length_permutation}
use Rattle.kn_node.specs.Views.{ConfigView}
use Rattle.kn_model.specs.Terms.{Term}
use Rattle.kn_model.specs.Nodes.{Node}
use Rattle.kn_model.specs.Nets.{Network}
use Rattle.kn_model.specs.Scenarios.{Scenario, name_of}
use Rattle.kn_model.specs.Reports.{trace_cmp, ends}
use Rattle.kn_model.specs.Shapes.{IsLost}
use Rattle.kn_model.specs.Laws.{IsNet, Apart, NamesApart, AllNamesApart}
use Rattle.kn_model.proofs.Lists.{itself, of_map}
use Rattle.kn_model.proofs.Implied.{all-contains}
use Rattle.kn_model.proofs.Naming.{Name, HaveNodes, have_nodes, distinct_names}
use Rattle.kn_cob.specs.Orders.{name_cmp, AreLong}
use Rattle.kn_cob.specs.Runs.{AreEnds, EndsGiven, IsMember, name_in, AreScenarios}
use Rattle.kn_cob.proofs.Sorting.{then_equal, all_moved, AllDiffer, once_where_differ, once_of_moved, rises_where_sorted}

pub names_total : IsTotalOrder name_cmp
names_total = lists_total (lists_total bool_cmp_total)

-- where no scenario has more nodes, the names of so many nodes are the names
pub sorted_whole : (nodes : ℕ) (xs : List (List ConfigView)) → AreLong nodes xs → IsSortedByKey (λ cs. take nodes (name_in cs)) name_cmp xs → IsSortedByKey name_in name_cmp xs
sorted_whole nodes xs long sorted k d low inside =
    let whole : (j : ℕ) → j < length xs → take nodes (name_in (get_or xs j d)) ≡ name_in (get_or xs j d) = λ j less.
    take_all nodes (name_in (get_or xs j d)) (omega (arith, All-from_recursion (λ (cs : List ConfigView). length cs ≡ nodes) xs long j d less, length-map (get_or xs j d) (λ (c : ConfigView). c.trace))) in
    ap (λ n. is_lt (name_cmp n (name_in (get_or xs k d)))) (sym (whole (k + 1) inside))
    ∙ (ap (λ n. is_lt (name_cmp (take nodes (name_in (get_or xs (k + 1) d))) n)) (sym (whole k (omega (arith, inside)))) ∙ sorted k d low inside)

-- names that are apart differ
traces_differ : (x y : List Bool) → Apart x y → trace_cmp x y ≢ Equal
traces_differ [] y a = absurd a
traces_differ (b ∷ x) [] a = absurd a
traces_differ (false ∷ x) (false ∷ y) a = traces_differ x y a
traces_differ (false ∷ x) (true ∷ y) a = λ e. cc
traces_differ (true ∷ x) (false ∷ y) a = λ e. cc
traces_differ (true ∷ x) (true ∷ y) a = traces_differ x y a

names_differ : (x y : Name) → NamesApart x y → name_cmp x y ≢ Equal
names_differ [] y a = absurd a
names_differ (t ∷ x) [] a = absurd a
names_differ (t ∷ x) (u ∷ y) (inl a) = λ e. traces_differ t u a (then_equal (trace_cmp t u) (name_cmp x y) e).0
names_differ (t ∷ x) (u ∷ y) (inr a) = λ e. names_differ x y a (then_equal (trace_cmp t u) (name_cmp x y) e).1

one_differs : (x : Name) (ys : List Name) → AllByRecursion (NamesApart x) ys → AllByRecursion (λ (y : Name). name_cmp x y ≢ Equal) ys
one_differs x [] h = tt
one_differs x (y ∷ ys) h = (names_differ x y h.0, one_differs x ys h.1)

all_differ : (xs : List Name) → AllNamesApart xs → AllDiffer name_cmp xs
all_differ [] h = tt
all_differ (x ∷ xs) h = (one_differs x xs h.0, all_differ xs h.1)

module _ (net : Network) where
  abbrev S : Type 0
  S = Scenario Term

  abbrev Nodes : Type 0
  Nodes = List ConfigView

  -- what is kept has the nodes' names, and as many nodes
  traces_kept : (n : ℕ) (cs : Nodes) (ys : List (Node Term)) → AreEnds net n cs ys → name_in cs ≡ map (λ (y : Node Term). y.state.trace) ys
  traces_kept n [] [] h = refl
  traces_kept n [] (y ∷ ys) h = absurd h
  traces_kept n (c ∷ cs) [] h = absurd h
  traces_kept n (c ∷ cs) (y ∷ ys) h =
      let first : c.trace ≡ y.state.trace = h.0.alike.trace in
      ap (λ (x : List Bool). x ∷ name_in cs) first ∙ ap (λ (xs : Name). y.state.trace ∷ xs) (traces_kept (n + 1) cs ys h.1)

  name_kept : (c : Nodes) (s : S) → AreEnds net 0 c s.nodes → name_in c ≡ name_of s
  name_kept c s h = traces_kept 0 c s.nodes h

  as_long : (n : ℕ) (cs : Nodes) (ys : List (Node Term)) → AreEnds net n cs ys → length cs ≡ length ys
  as_long n [] [] h = refl
  as_long n [] (y ∷ ys) h = absurd h
  as_long n (c ∷ cs) [] h = absurd h
  as_long n (c ∷ cs) (y ∷ ys) h = ap suc (as_long (n + 1) cs ys h.1)

  -- what holds of each scenario's name holds of each that is kept
  given_named : (P : Name → Type 0) (cs : List Nodes) (ss : List S) → EndsGiven net cs ss → AllByRecursion P (map name_of ss) → AllByRecursion P (map name_in cs)
  given_named P [] ss h p = tt
  given_named P (c ∷ cs) [] h p = absurd h
  given_named P (c ∷ cs) (s ∷ ss) (inl h) p = (subst P (sym (name_kept c s h.0)) p.0, given_named P cs ss h.1 p.1)
  given_named P (c ∷ cs) (s ∷ ss) (inr h) p = given_named P (c ∷ cs) ss h.1 p.1

  given_apart : (cs : List Nodes) (ss : List S) → EndsGiven net cs ss → AllNamesApart (map name_of ss) → AllNamesApart (map name_in cs)
  given_apart [] ss h a = tt
  given_apart (c ∷ cs) [] h a = absurd h
  given_apart (c ∷ cs) (s ∷ ss) (inl h) a = (subst (λ (x : Name). AllByRecursion (NamesApart x) (map name_in cs)) (sym (name_kept c s h.0)) (given_named (NamesApart (name_of s)) cs ss h.1 a.0), given_apart cs ss h.1 a.1)
  given_apart (c ∷ cs) (s ∷ ss) (inr h) a = given_apart (c ∷ cs) ss h.1 a.1

  given_members : (cs : List Nodes) (ss : List S) → EndsGiven net cs ss → AllByRecursion (Contains (ends net)) ss → AllByRecursion (IsMember net) cs
  given_members [] ss h m = tt
  given_members (c ∷ cs) [] h m = absurd h
  given_members (c ∷ cs) (s ∷ ss) (inl h) m = (record { scenario = s; member = m.0; nodes = h.0 }, given_members cs ss h.1 m.1)
  given_members (c ∷ cs) (s ∷ ss) (inr h) m = given_members (c ∷ cs) ss h.1 m.1

  long_given : (cs : List Nodes) (ss : List S) → EndsGiven net cs ss → HaveNodes net ss → AreLong (length net.nodes) cs
  long_given [] ss h m = tt
  long_given (c ∷ cs) [] h m = absurd h
  long_given (c ∷ cs) (s ∷ ss) (inl h) m = (as_long 0 c s.nodes h.0 ∙ m.0, long_given cs ss h.1 m.1)
  long_given (c ∷ cs) (s ∷ ss) (inr h) m = long_given (c ∷ cs) ss h.1 m.1

  -- a scenario is kept under its name, or lost
  abbrev IsKeptOrLost : List Nodes → S → Type 0
  IsKeptOrLost cs s = Contains (map name_in cs) (name_of s) ⊎ IsLost net s

  further : (c : Nodes) (cs : List Nodes) (ss : List S) → AllByRecursion (IsKeptOrLost cs) ss → AllByRecursion (IsKeptOrLost (c ∷ cs)) ss
  further c cs [] h = tt
  further c cs (s ∷ ss) h = (one h.0, further c cs ss h.1)
    where
      one : IsKeptOrLost cs s → IsKeptOrLost (c ∷ cs) s
      one (inl k) = let i = k.1 in inl (suc k.0, omega (arith, i), k.2)
      one (inr l) = inr l

  kept_or_lost : (cs : List Nodes) (ss : List S) → EndsGiven net cs ss → AllByRecursion (IsKeptOrLost cs) ss
  kept_or_lost [] [] h = tt
  kept_or_lost (c ∷ cs) [] h = absurd h
  kept_or_lost [] (s ∷ ss) h = (inr h.0, kept_or_lost [] ss h.1)
  kept_or_lost (c ∷ cs) (s ∷ ss) (inl h) = (inl (0, omega arith, name_kept c s h.0), further c cs ss (kept_or_lost cs ss h.1))
  kept_or_lost (c ∷ cs) (s ∷ ss) (inr h) = (inr h.0, kept_or_lost (c ∷ cs) ss h.1)

  -- the same in another order
  named_moved : (cs list : List Nodes) → IsPermutation cs list → (ns : List Nodes) → AllByRecursion (Contains cs) ns → (x : Name) → Contains (map name_in ns) x → Contains (map name_in list) x
  named_moved cs list same [] h x k = let i = k.1 in absurd (omega (arith, i))
  named_moved cs list same (n ∷ ns) h x (zero, i, e) =
      subst (Contains (map name_in list)) e (of_map name_in list n (Contains-permutation cs list n same h.0))
  named_moved cs list same (n ∷ ns) h x (suc k, i, e) = named_moved cs list same ns h.1 x (k, omega (arith, i), e)

-- as many nodes as the network has
pub given_long : (net : Network) → IsNet net → (cs : List (List ConfigView)) → EndsGiven net cs (ends net) → AreLong (length net.nodes) cs
given_long net good cs given = long_given net cs (ends net) given (have_nodes net net.limits.ticks good)

-- Scenarios that are given of those at the last tick and sorted by their names are those of a run.
pub scenarios_are : (net : Network) → IsNet net → (cs : List (List ConfigView)) → EndsGiven net cs (ends net) → length cs ≤ net.limits.dstates
    → (list : List (List ConfigView)) → IsPermutation cs list → IsSortedByKey name_in name_cmp list → AreScenarios net list
scenarios_are net good cs given few list same sorted =
    let differ = all_differ (map name_in cs) (given_apart net cs (ends net) given (distinct_names net net.limits.ticks good)) in
    let once = once_where_differ name_cmp names_total name_in cs differ in
    let long = length_permutation cs list same in
    record {
      members = all_moved (IsMember net) cs list same (given_members net cs (ends net) given (itself (ends net)));
      in_order = rises_where_sorted name_cmp names_total name_in list sorted (once_of_moved name_cmp names_total name_in cs list same once);
      others = λ s there absent. elim (all-contains (IsKeptOrLost net cs) (ends net) s (kept_or_lost net cs (ends net) given) there) [
        | inl k ↦ absurd (absent (named_moved net cs list same cs (itself cs) (name_of s) k))
        | inr l ↦ l.impossible
      ];
      few = omega (arith, few, long);
    }
