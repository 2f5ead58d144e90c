-- The scenarios in the middle of a tick: node by node and turn by turn, each with a node for each number.
use Rattle.std.proofs.Common.{◌≡◌, ◌⊎◌, inl, inr, ℕ, zero, suc, ◌+◌, ◌<◌, List, [], ◌∷◌, ◌++◌, length, map, flat_map, get_or, Option, Some, None, refl, sym, ap, ◌∙◌, arith, add-one}
use Rattle.std.specs.Prelude.{Contains}
use Rattle.std.specs.List.{AllByRecursion}
use Rattle.std.proofs.lemmas.List.{map-append, append-nil}
use Rattle.std.proofs.lemmas.Grind.{flat_map-append}
use Rattle.kn_packet.specs.declared.packet.Event.{Event}
use Rattle.kn_model.specs.Terms.{Term, terms}
use Rattle.kn_model.specs.Nets.{Network}
use Rattle.kn_model.specs.Due.{due, left}
use Rattle.kn_model.specs.Paths.{Path, event_paths}
use Rattle.kn_model.specs.Scenarios.{Scenario, node_at, copied, copies, copies_of, turns, settled, settled_from, close, cob, pre}
use Rattle.kn_model.specs.Laws.{IsNet}
use Rattle.kn_model.specs.Alikes.{MetAt}
use Rattle.kn_model.proofs.Lists.{all-flat, all-weaker}
use Rattle.kn_model.proofs.Naming.{HaveNodes, have_nodes, copy_fits}
use Rattle.kn_model.proofs.Implied.{all-contains}
use Rattle.kn_cob.specs.Ticks.{so_far, IsTurning}

-- ---- what comes of each of a list

-- a list of each element alone
pub flat_ones : {A : Type 0} (xs : List A) → flat_map (λ x. x ∷ []) xs ≡ xs
flat_ones [] = refl
flat_ones (x ∷ xs) = ap (λ l. x ∷ l) (flat_ones xs)

-- one after another
pub flat_flat : {A B C : Type 0} (f : A → List B) (g : B → List C) (h : A → List C) → ((x : A) → h x ≡ flat_map g (f x)) → (xs : List A) → flat_map h xs ≡ flat_map g (flat_map f xs)
flat_flat f g h same [] = refl
flat_flat f g h same (x ∷ xs) = ap (λ l. l ++ flat_map h xs) (same x) ∙ (ap (λ l. flat_map g (f x) ++ l) (flat_flat f g h same xs) ∙ sym (flat_map-append g (f x) (flat_map f xs)))

-- an element further on
pub behind : {A : Type 0} (x : A) (xs ys : List A) → Contains ys x → Contains (xs ++ ys) x
behind x [] ys c = c
behind x (z ∷ xs) ys c = let r = behind x xs ys c in let k = r.1 in (suc r.0, omega (arith, k), r.2)

-- an element is of one of two lists
pub of_either : {A : Type 0} (x : A) (xs ys : List A) → Contains (xs ++ ys) x → Contains xs x ⊎ Contains ys x
of_either {A} x xs ys c = go xs c.0 c.1 c.2
  where
    go : (zs : List A) (k : ℕ) → k < length (zs ++ ys) → get_or (zs ++ ys) k x ≡ x → Contains zs x ⊎ Contains ys x
    go [] k inside e = inr (k, inside, e)
    go (z ∷ zs) zero inside e = inl (0, omega arith, e)
    go (z ∷ zs) (suc k) inside e = elim (go zs k (omega (arith, inside)) e) [
      | inl a ↦ let i = a.1 in inl (suc a.0, omega (arith, i), a.2)
      | inr b ↦ inr b
    ]

-- and what comes of a list comes of one of its elements
pub of_flat : {A B : Type 0} (f : A → List B) (y : B) (xs : List A) → Contains (flat_map f xs) y → (x : A) × Contains xs x × Contains (f x) y
of_flat f y [] c = let i = c.1 in absurd (omega (arith, i))
of_flat f y (x ∷ xs) c = elim (of_either y (f x) (flat_map f xs) c) [
  | inl a ↦ (x, (0, omega arith, refl), a)
  | inr b ↦ let r = of_flat f y xs b in let i = r.1.1 in (r.0, (suc r.1.0, omega (arith, i), r.1.2), r.2)
]

-- what comes of each closes, or all that comes of them does
flat_closed : (f : Scenario Term → List (Scenario Term)) (xs : List (Scenario Term)) → flat_map (λ s. map close (f s)) xs ≡ map close (flat_map f xs)
flat_closed f [] = refl
flat_closed f (x ∷ xs) = ap (λ (l : List (Scenario Term)). map close (f x) ++ l) (flat_closed f xs) ∙ sym (map-append close (f x) (flat_map f xs))

-- ---- turns and nodes, the last one split off

-- the last of so many turns
pub turns_last : (net : Network) (n t m : ℕ) (s : Scenario Term) → turns terms net n t (suc m) s ≡ flat_map (copies terms net n t) (turns terms net n t m s)
turns_last net n t zero s = flat_ones (copies terms net n t s) ∙ sym (append-nil (copies terms net n t s))
turns_last net n t (suc m) s = flat_flat (turns terms net n t m) (copies terms net n t) (turns terms net n t (suc m)) (turns_last net n t m) (copies terms net n t s)

-- the last node of those that run
settled_last : (net : Network) (t m k : ℕ) (s : Scenario Term) → settled_from terms net t m (suc k) s ≡ flat_map (settled terms net t (m + k)) (settled_from terms net t m k s)
settled_last net t m zero s =
    let same : m ≡ m + 0 = omega arith in
    flat_ones (settled terms net t m s) ∙ (sym (append-nil (settled terms net t m s)) ∙ ap (λ (n : ℕ). settled terms net t n s ++ []) same)
settled_last net t m (suc k) s =
    let same : m + 1 + k ≡ m + suc k = omega arith in
    flat_flat (settled_from terms net t (m + 1) k) (settled terms net t (m + 1 + k)) (settled_from terms net t (m + 1) (suc k)) (settled_last net t (m + 1) k) (settled terms net t m s)
    ∙ ap (λ (n : ℕ). flat_map (settled terms net t n) (settled_from terms net t m (suc k) s)) same

-- Before the first node has run, they are those of the tick.
pub so_far_none : (net : Network) (t : ℕ) → so_far net t 0 ≡ cob terms net t
so_far_none net t = flat_ones (cob terms net t)

-- Node n runs last of the nodes up to it.
so_far_suc : (net : Network) (t n : ℕ) → so_far net t (suc n) ≡ flat_map (settled terms net t n) (so_far net t n)
so_far_suc net t n =
    let same : 0 + n ≡ n = omega arith in
    flat_flat (settled_from terms net t 0 n) (settled terms net t n) (settled_from terms net t 0 (suc n)) (λ s. settled_last net t 0 n s ∙ ap (λ (m : ℕ). flat_map (settled terms net t m) (settled_from terms net t 0 n s)) same) (cob terms net t)

pub so_far_next : (net : Network) (t n : ℕ) → so_far net t (n + 1) ≡ flat_map (settled terms net t n) (so_far net t n)
so_far_next net t n = ap (so_far net t) (add-one n) ∙ so_far_suc net t n

-- Once all nodes have run, they are those before the tick closes,
pub so_far_all : (net : Network) (t : ℕ) → pre terms net t ≡ so_far net t (length net.nodes)
so_far_all net t = refl

-- and closed they are those of the next tick.
pub cob_next : (net : Network) (t : ℕ) → cob terms net (suc t) ≡ map close (pre terms net t)
cob_next net t = flat_closed (settled_from terms net t 0 (length net.nodes)) (cob terms net t)

pub cob_after : (net : Network) (t : ℕ) → cob terms net (t + 1) ≡ map close (pre terms net t)
cob_after net t = ap (cob terms net) (add-one t) ∙ cob_next net t

-- ---- a node for each number, all along

abbrev pub Whole : Network → Scenario Term → Type 0
Whole net s = length s.nodes ≡ length net.nodes

module _ (net : Network) (t : ℕ) (fine : IsNet net) where
  -- along one event of a node
  pub whole_copies : (n : ℕ) (s : Scenario Term) → Whole net s → AllByRecursion (Whole net) (copies terms net n t s)
  whole_copies n s h = go (due net.limits.ticks t (node_at terms s n).state)
    where
      every : (e : Event) (ps : List (Path Term)) → AllByRecursion (Whole net) (map (copied terms s n e) ps)
      every e [] = tt
      every e (p ∷ ps) = (copy_fits net t fine s n e p h, every e ps)

      go : (o : Option Event) → AllByRecursion (Whole net) (copies_of terms net n t s o)
      go None = (h, tt)
      go (Some e) = every e (event_paths terms net n t e (node_at terms s n).state)

  -- along each step of a list
  pub flat_whole : (f : Scenario Term → List (Scenario Term)) → ((s : Scenario Term) → Whole net s → AllByRecursion (Whole net) (f s)) → (xs : List (Scenario Term)) → AllByRecursion (Whole net) xs → AllByRecursion (Whole net) (flat_map f xs)
  flat_whole f keeps xs h = all-flat (Whole net) f xs (all-weaker (Whole net) (λ (s : Scenario Term). AllByRecursion (Whole net) (f s)) keeps xs h)

  -- along more events, all events of a node, and all nodes
  pub whole_turns : (n m : ℕ) (s : Scenario Term) → Whole net s → AllByRecursion (Whole net) (turns terms net n t m s)
  whole_turns n zero s h = (h, tt)
  whole_turns n (suc m) s h = flat_whole (turns terms net n t m) (whole_turns n m) (copies terms net n t s) (whole_copies n s h)

  pub whole_settled : (n : ℕ) (s : Scenario Term) → Whole net s → AllByRecursion (Whole net) (settled terms net t n s)
  whole_settled n s h = whole_turns n (left net.limits.ticks t (node_at terms s n).state) s h

  whole_from : (k n : ℕ) (s : Scenario Term) → Whole net s → AllByRecursion (Whole net) (settled_from terms net t n k s)
  whole_from zero n s h = (h, tt)
  whole_from (suc k) n s h = flat_whole (settled_from terms net t (n + 1) k) (whole_from k (n + 1)) (settled terms net t n s) (whole_settled n s h)

  -- once the nodes before n have run
  pub whole_so_far : (n : ℕ) → HaveNodes net (so_far net t n)
  whole_so_far n = flat_whole (settled_from terms net t 0 n) (whole_from n 0) (cob terms net t) (have_nodes net t fine)

  -- and while node n runs
  pub whole_turning : (n m count : ℕ) (s : Scenario Term) → IsTurning net t n m s → HaveNodes net (turns terms net n t count s)
  whole_turning n m count s is = whole_turns n count s (all-contains (Whole net) (so_far net t n) s (whole_so_far n) is.from)

-- Such a scenario is met in the tick.
pub met_at : (net : Network) (t n count : ℕ) (s u : Scenario Term) → IsTurning net t n count s → Contains (turns terms net n t count s) u → MetAt terms net t n u
met_at net t n count s u is there =
    let start = of_flat (settled_from terms net t 0 n) s (cob terms net t) is.from in
    record { inside = is.inside; start = start.0; member = start.1; before = s; reached = start.2; count = count; turned = there }
