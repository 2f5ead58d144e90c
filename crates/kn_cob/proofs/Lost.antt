-- A scenario with a node whose own condition no inputs meet leads to such scenarios alone.
use Rattle.std.proofs.Common.{◌≡◌, inl, inr, ℕ, zero, suc, ◌+◌, ◌<◌, Bool, false, List, [], ◌∷◌, ◌++◌, length, get_or, set, Option, Some, None, refl, ap, ◌∙◌, arith}
use Rattle.std.specs.Prelude.{◌⊎◌, ◌&&◌, Contains}
use Rattle.std.specs.List.{AllByRecursion}
use Rattle.kn_packet.specs.declared.packet.Event.{Event}
use Rattle.kn_model.specs.Terms.{Term, Valuation, terms}
use Rattle.kn_model.specs.Conditions.{Condition, holds}
use Rattle.kn_model.specs.Packets.{Parcel}
use Rattle.kn_model.specs.Nodes.{Node}
use Rattle.kn_model.specs.Nets.{Network, opening_node, no_plan}
use Rattle.kn_model.specs.Due.{due, left}
use Rattle.kn_model.specs.Paths.{Path, event_paths, parcels, node_after}
use Rattle.kn_model.specs.Scenarios.{Scenario, posted, node_at, copied, copies, copies_of, turns, settled}
use Rattle.kn_model.specs.Shapes.{IsLost}
use Rattle.kn_model.specs.Laws.{IsNet}
use Rattle.kn_model.proofs.Lists.{all-map, all-flat, all-weaker}
use Rattle.kn_model.proofs.Beginning.{paths_add, Adds}
use Rattle.kn_model.proofs.Under.{holds-append}
use Rattle.kn_model.proofs.Naming.{copy_fits}

-- no inputs meet a node's own condition
abbrev IsOut : Node Term → Type 0
IsOut y = (a : Valuation) → holds a y.state.own ≡ false

-- some node is so
abbrev HasOut : List (Node Term) → Type 0
HasOut [] = ⊥
HasOut (y ∷ ys) = IsOut y ⊎ HasOut ys

out_from : (ys : List (Node Term)) (y : Node Term) → Contains ys y → IsOut y → HasOut ys
out_from ys y c h = go ys c.0 c.1 c.2
  where
    go : (zs : List (Node Term)) (k : ℕ) → k < length zs → get_or zs k y ≡ y → HasOut zs
    go [] k inside e = absurd (omega (arith, inside))
    go (z ∷ zs) zero inside e = inl (λ a. ap (λ (x : Node Term). holds a x.state.own) e ∙ h a)
    go (z ∷ zs) (suc k) inside e = inr (go zs k (omega (arith, inside)) e)

out_node : (ys : List (Node Term)) → HasOut ys → (y : Node Term) × Contains ys y × IsOut y
out_node [] h = absurd h
out_node (y ∷ ys) (inl h) = (y, (0, omega arith, refl), h)
out_node (y ∷ ys) (inr h) = let r = out_node ys h in let c = r.1 in let k = c.1 in (r.0, (suc c.0, omega (arith, k), c.2), r.2)

-- packets that are sent leave own conditions
out_posted : (i : ℕ) (ps : List (Parcel Term)) (ys : List (Node Term)) → HasOut ys → HasOut (posted i ps ys)
out_posted i ps [] h = absurd h
out_posted i ps (y ∷ ys) (inl h) = inl h
out_posted i ps (y ∷ ys) (inr h) = inr (out_posted (i + 1) ps ys h)

-- and a node's own condition becomes more
out_set : (ys : List (Node Term)) (n : ℕ) (after d : Node Term) → (IsOut (get_or ys n d) → IsOut after) → HasOut ys → HasOut (set ys n after)
out_set [] n after d more h = absurd h
out_set (y ∷ ys) zero after d more (inl h) = inl (more h)
out_set (y ∷ ys) zero after d more (inr h) = inr h
out_set (y ∷ ys) (suc n) after d more (inl h) = inl h
out_set (y ∷ ys) (suc n) after d more (inr h) = inr (out_set ys n after d more h)

longer_out : (a : Valuation) (c d : Condition) → holds a c ≡ false → holds a (c ++ d) ≡ false
longer_out a c d h = holds-append a c d ∙ ap (λ (b : Bool). b && holds a d) h

module _ (net : Network) (n t : ℕ) (good : IsNet net) where
  copied_lost : (s : Scenario Term) (e : Event) (p : Path Term) → Adds (node_at terms s n).state.own p → IsLost net s → IsLost net (copied terms s n e p)
  copied_lost s e p adds h =
      let y = node_at terms s n in
      let after = node_after terms e y p in
      let more : IsOut y → IsOut after = λ out a. ap (holds a) adds ∙ longer_out a y.state.own p.literals (out a) in
      let has = out_from s.nodes h.impossible.node h.impossible.there h.impossible.impossible in
      let found = out_node (copied terms s n e p).nodes (out_posted 0 (parcels terms y p) (set s.nodes n after) (out_set s.nodes n after (opening_node terms no_plan) more has)) in
      record {
        fits = copy_fits net t good s n e p h.fits;
        impossible = record { node = found.0; there = found.1; impossible = found.2 };
      }

  one_lost : (s : Scenario Term) → IsLost net s → AllByRecursion (IsLost net) (copies terms net n t s)
  one_lost s h = go (due net.limits.ticks t (node_at terms s n).state)
    where
      go : (o : Option Event) → AllByRecursion (IsLost net) (copies_of terms net n t s o)
      go None = (h, tt)
      go (Some e) =
          let y = node_at terms s n in
          all-map (Adds y.state.own) (IsLost net) (copied terms s n e) (λ p adds. copied_lost s e p adds h) (event_paths terms net n t e y.state) (paths_add terms net n t e y.state)

  more_lost : (m : ℕ) (s : Scenario Term) → IsLost net s → AllByRecursion (IsLost net) (turns terms net n t m s)
  more_lost zero s h = (h, tt)
  more_lost (suc m) s h =
      let list = copies terms net n t s in
      all-flat (IsLost net) (turns terms net n t m) list (all-weaker (IsLost net) (λ (u : Scenario Term). AllByRecursion (IsLost net) (turns terms net n t m u)) (more_lost m) list (one_lost s h))

-- What is lost stays lost: along one event of a node,
pub copies_lost : (net : Network) (n t : ℕ) → IsNet net → (s : Scenario Term) → IsLost net s → AllByRecursion (IsLost net) (copies terms net n t s)
copies_lost net n t good s h = one_lost net n t good s h

-- along several,
pub turns_lost : (net : Network) (n t m : ℕ) → IsNet net → (s : Scenario Term) → IsLost net s → AllByRecursion (IsLost net) (turns terms net n t m s)
turns_lost net n t m good s h = more_lost net n t good m s h

-- and along all of them.
pub settled_lost : (net : Network) (t n : ℕ) → IsNet net → (s : Scenario Term) → IsLost net s → AllByRecursion (IsLost net) (settled terms net t n s)
settled_lost net t n good s h = more_lost net n t good (left net.limits.ticks t (node_at terms s n).state) s h
