-- Nodes as they are kept and the definition's nodes, one by one.
use Rattle.std.proofs.Common.{◌≡◌, ℕ, zero, suc, ◌+◌, ◌<◌, List, [], ◌∷◌, length, get_or, set, refl, subst, arith}
use Rattle.kn_term.specs.Terms.{Term}
use Rattle.kn_model.specs.Terms.{terms}
use Rattle.kn_model.specs.Nodes.{Node}
use Rattle.kn_model.specs.Nets.{Network, no_plan, opening_node}
use Rattle.kn_model.specs.Scenarios.{Scenario, node_at}
use Rattle.kn_cob.specs.Nodes.{NodeView, IsNode}
use Rattle.kn_cob.specs.Copies.{AreNodes, IsCopy, node_in, no_node}

module _ (net : Network) (t : ℕ) where
  node_by : (i : ℕ) (xs : List NodeView) (ys : List (Node Term)) (n : ℕ) (d : NodeView) (e : Node Term) → AreNodes net t i xs ys → n < length ys → IsNode net t (i + n) (get_or xs n d) (get_or ys n e)
  node_by i [] [] n d e h inside = absurd (omega (arith, inside))
  node_by i [] (y ∷ ys) n d e h inside = absurd h
  node_by i (x ∷ xs) [] n d e h inside = absurd h
  node_by i (x ∷ xs) (y ∷ ys) zero d e h inside = let same : i ≡ i + 0 = omega arith in subst (λ (k : ℕ). IsNode net t k x y) same h.0
  node_by i (x ∷ xs) (y ∷ ys) (suc n) d e h inside =
      let same : (i + 1) + n ≡ i + suc n = omega arith in
      subst (λ (k : ℕ). IsNode net t k (get_or xs n d) (get_or ys n e)) same (node_by (i + 1) xs ys n d e h.1 (omega (arith, inside)))

  -- node n of a copy is a node of the scenario
  pub in_copy : (n : ℕ) (xs : List NodeView) (s : Scenario Term) → n < length net.nodes → IsCopy net t xs s → IsNode net t n (node_in xs n) (node_at terms s n)
  in_copy n xs s inside c =
      let whole = c.whole in
      let same : 0 + n ≡ n = omega arith in
      subst (λ (k : ℕ). IsNode net t k (node_in xs n) (node_at terms s n)) same (node_by 0 xs s.nodes n no_node (opening_node terms no_plan) c.nodes (omega (arith, inside, whole)))

  -- as many are kept as the scenario has
  pub as_many : (i : ℕ) (xs : List NodeView) (ys : List (Node Term)) → AreNodes net t i xs ys → length xs ≡ length ys
  as_many i [] [] h = refl
  as_many i [] (y ∷ ys) h = absurd h
  as_many i (x ∷ xs) [] h = absurd h
  as_many i (x ∷ xs) (y ∷ ys) h = let rest = as_many (i + 1) xs ys h.1 in omega (arith, rest)

  -- one node is another one
  pub nodes_set : (i n : ℕ) (xs : List NodeView) (ys : List (Node Term)) (x : NodeView) (y : Node Term) → AreNodes net t i xs ys → IsNode net t (i + n) x y → AreNodes net t i (set xs n x) (set ys n y)
  nodes_set i n [] [] x y h one = tt
  nodes_set i n [] (v ∷ ys) x y h one = absurd h
  nodes_set i n (u ∷ xs) [] x y h one = absurd h
  nodes_set i zero (u ∷ xs) (v ∷ ys) x y h one = let same : i + 0 ≡ i = omega arith in (subst (λ (k : ℕ). IsNode net t k x y) same one, h.1)
  nodes_set i (suc n) (u ∷ xs) (v ∷ ys) x y h one = let same : i + suc n ≡ (i + 1) + n = omega arith in (h.0, nodes_set (i + 1) n xs ys x y h.1 (subst (λ (k : ℕ). IsNode net t k x y) same one))

  -- nodes that are so at each place are so one by one
  pub nodes_from : (i : ℕ) (xs : List NodeView) (ys : List (Node Term)) (d : NodeView) (e : Node Term) → length xs ≡ length ys → ((n : ℕ) → n < length ys → IsNode net t (i + n) (get_or xs n d) (get_or ys n e)) → AreNodes net t i xs ys
  nodes_from i [] [] d e same each = tt
  nodes_from i [] (y ∷ ys) d e same each = absurd (omega (arith, same))
  nodes_from i (x ∷ xs) [] d e same each = absurd (omega (arith, same))
  nodes_from i (x ∷ xs) (y ∷ ys) d e same each =
      let first : i + 0 ≡ i = omega arith in (
        subst (λ (k : ℕ). IsNode net t k x y) first (each 0 (omega arith)),
        nodes_from (i + 1) xs ys d e (omega (arith, same)) (λ n inside. let next : i + suc n ≡ (i + 1) + n = omega arith in subst (λ (k : ℕ). IsNode net t k (get_or xs n d) (get_or ys n e)) next (each (suc n) (omega (arith, inside)))),
      )
