-- Nodes and links one by one.
use Rattle.std.proofs.Common.{◌≡◌, ℕ, zero, suc, ◌+◌, ◌-◌, ◌%◌, false, List, [], ◌∷◌, ◌++◌, map, eqb, refl, ap, sym, ◌∙◌, arith}
use Rattle.std.specs.List.{range_with_len, flat_map}
use Rattle.std.proofs.lemmas.Bool.Decides.{nat_tests}
use Rattle.std.proofs.lemmas.List.{flat_map_more}
use Rattle.std.proofs.lemmas.List.FromFn.{map-range_with_len_more}
use Rattle.kn_plan.specs.Nets.{Plan, Link}
use Rattle.kn_make.specs.Making.{plan_of, links_from}

-- one number more
last : (a n j : ℕ) → a + n ≡ j → range_with_len a (suc n) ≡ range_with_len a n ++ j ∷ []
last a zero j e = let same : a ≡ j = omega arith in ap (λ k. k ∷ []) same
last a (suc n) j e = ap (λ l. a ∷ l) (last (a + 1) n j (omega arith))

range_more : (n : ℕ) → range_with_len 0 (n + 1) ≡ range_with_len 0 n ++ n ∷ []
range_more n = let on : n + 1 ≡ suc n = omega arith in ap (range_with_len 0) on ∙ last 0 n n (omega arith)

-- one node more
pub node_more : (length node : ℕ) (ns more : List Plan) → ns ≡ map (plan_of length) (range_with_len 0 node) → more ≡ ns ++ plan_of length node ∷ [] → more ≡ map (plan_of length) (range_with_len 0 (node + 1))
node_more length node ns more so_far pushed =
    pushed ∙ (ap (λ (l : List Plan). l ++ plan_of length node ∷ []) so_far ∙ sym (map-range_with_len_more (plan_of length) 0 node node (omega arith)))

-- the links of one node more
pub links_more : (length node : ℕ) (ls more : List Link) → ls ≡ flat_map (links_from length) (range_with_len 0 node) → more ≡ ls ++ links_from length node → more ≡ flat_map (links_from length) (range_with_len 0 (node + 1))
links_more length node ls more so_far pushed =
    pushed ∙ (ap (λ (l : List Link). l ++ links_from length node) so_far ∙ (flat_map_more (links_from length) [] (range_with_len 0 node) node ∙ ap (flat_map (links_from length)) (sym (range_more node))))

-- a node that has a link
pub with_link : (length node : ℕ) → (node % length ≡ 0 → ⊥) → links_from length node ≡ record { from = node; to = node - 1; delay = 1 } ∷ []
with_link length node some =
    let e : eqb (node % length) 0 ≡ false = grind (arith, nat_tests) in
    rw e refl

-- a sink has none
pub without_link : (length node : ℕ) → node % length ≡ 0 → links_from length node ≡ []
without_link length node first = rw first refl
