-- Ticks in which nothing is due, of a node or of all.
use Rattle.std.proofs.Common.{◌≡◌, inl, inr, ℕ, zero, suc, ◌+◌, ◌<◌, ◌≤◌, Bool, true, false, List, [], ◌∷◌, length, flat_map, None, refl, sym, ap, subst, ◌∙◌, arith, append-nil, add-one}
use Rattle.std.specs.Prelude.{◌||◌, is_some}
use Rattle.std.specs.List.{AllByRecursion}
use Rattle.kn_packet.specs.Packets.{PacketView}
use Rattle.kn_node.specs.Due as kept
use Rattle.kn_model.specs.Terms.{Term, terms}
use Rattle.kn_model.specs.Nets.{Network}
use Rattle.kn_model.specs.Scenarios.{Scenario, settled, close, cob, pre}
use Rattle.kn_model.specs.Alikes.{OneByOne}
use Rattle.kn_model.specs.Shapes.{IsLost}
use Rattle.kn_model.specs.Laws.{IsNet}
use Rattle.kn_cob.specs.Nodes.{NodeView}
use Rattle.kn_cob.specs.Copies.{IsCopy, AreCopies, node_in, mailed, sent_to}
use Rattle.kn_cob.specs.Closing.{AreShut, IsClosed}
use Rattle.kn_cob.specs.Ticks.{so_far, some_due, IsIdle}
use Rattle.kn_cob.proofs.Given.{copies_append, copies_none}
use Rattle.kn_cob.proofs.Lost.{settled_lost}
use Rattle.kn_cob.proofs.Ticks.{so_far_none, so_far_next, cob_after}
use Rattle.kn_cob.proofs.Closing.{closed_copy}
use Rattle.kn_cob.proofs.Turning.{node_inside, idle, idle_settled, closed_dead, closed_each}

-- where nothing comes of lost scenarios but lost ones
module _ (net : Network) (t u : ℕ) (g : Scenario Term → List (Scenario Term)) (dead : (s : Scenario Term) → IsLost net s → AllByRecursion (IsLost net) (g s)) where
  -- a copy is of what comes of its scenario
  abbrev pub Stays : List NodeView → Type 0
  Stays c = (s : Scenario Term) → IsCopy net t c s → AreCopies net u (c ∷ []) (g s)

  -- copies that stay are of what comes of all
  pub all_stay : (cs : List (List NodeView)) (ss : List (Scenario Term)) → AllByRecursion Stays cs → AreCopies net t cs ss → AreCopies net u cs (flat_map g ss)
  all_stay [] [] h are = tt
  all_stay (c ∷ cs) [] h are = absurd are
  all_stay [] (s ∷ ss) h are = copies_append net u [] [] (g s) (flat_map g ss) (copies_none net u (g s) (dead s are.0)) (all_stay [] ss h are.1)
  all_stay (c ∷ cs) (s ∷ ss) h (inl are) = copies_append net u (c ∷ []) cs (g s) (flat_map g ss) (h.0 s are.0) (all_stay cs ss h.1 are.1)
  all_stay (c ∷ cs) (s ∷ ss) h (inr are) = copies_append net u [] (c ∷ cs) (g s) (flat_map g ss) (copies_none net u (g s) (dead s are.0)) (all_stay (c ∷ cs) ss h are.1)

-- nothing is due of a node of an idle copy
idle_at : (t : ℕ) (xs : List NodeView) (n : ℕ) → n < length xs → IsIdle t xs → kept.due t (node_in xs n).config.machine ≡ None
idle_at t [] n inside h = absurd (omega (arith, inside))
idle_at t (x ∷ xs) zero inside h = h.0
idle_at t (x ∷ xs) (suc n) inside h = idle_at t xs n (omega (arith, inside)) h.1

-- none of two is true
none_of : (a b : Bool) → (a || b) ≡ false → (a ≡ false) × (b ≡ false)
none_of true b e = absurd cc
none_of false b e = (refl, e)

-- each copy is closed as it is where nothing was sent
pub same_closed : (net : Network) (xs : List NodeView) → AreShut xs → OneByOne (IsClosed net) xs xs
same_closed net [] h = tt
same_closed net (x ∷ xs) h = (inr (h.0, refl), same_closed net xs h.1)

module _ (net : Network) (t : ℕ) (fine : IsNet net) (early : t < net.limits.ticks) where
  module _ (n : ℕ) (inside : n < length net.nodes) where
    -- a copy in which nothing is due of a node stays as its events run
    stays : (c : List NodeView) → ((s : Scenario Term) → IsCopy net t c s → is_some (kept.due t (node_in c n).config.machine) ≡ false) → Stays net t t (settled terms net t n) (settled_lost net t n fine) c
    stays c none s is = subst (AreCopies net t (c ∷ [])) (sym (idle_settled net t n s (idle net t n c s early inside is (none s is)))) (inl (is, tt))

    none_stay : (cs : List (List NodeView)) → some_due t n cs ≡ false → AllByRecursion (Stays net t t (settled terms net t n) (settled_lost net t n fine)) cs
    none_stay [] e = tt
    none_stay (c ∷ cs) e =
        let both = none_of (is_some (kept.due t (node_in c n).config.machine)) (some_due t n cs) e in
        (stays c (λ s is. both.0), none_stay cs both.1)

    -- nothing is due of a node in any copy
    pub idle_node : (cs : List (List NodeView)) → some_due t n cs ≡ false → AreCopies net t cs (so_far net t n) → AreCopies net t cs (so_far net t (n + 1))
    idle_node cs e h = subst (AreCopies net t cs) (sym (so_far_next net t n)) (all_stay net t t (settled terms net t n) (settled_lost net t n fine) cs (so_far net t n) (none_stay cs e) h)

    idle_stay : (cs : List (List NodeView)) → AllByRecursion (IsIdle t) cs → AllByRecursion (Stays net t t (settled terms net t n) (settled_lost net t n fine)) cs
    idle_stay [] h = tt
    idle_stay (c ∷ cs) h = (stays c (λ s is. ap is_some (idle_at t c n (node_inside net t n c s inside is) h.0)), idle_stay cs h.1)

    one_idle : (cs : List (List NodeView)) → AllByRecursion (IsIdle t) cs → AreCopies net t cs (so_far net t n) → AreCopies net t cs (so_far net t (n + 1))
    one_idle cs none h = subst (AreCopies net t cs) (sym (so_far_next net t n)) (all_stay net t t (settled terms net t n) (settled_lost net t n fine) cs (so_far net t n) (idle_stay cs none) h)

  -- nothing is due of the first nodes
  idle_upto : (cs : List (List NodeView)) → AllByRecursion (IsIdle t) cs → AreCopies net t cs (cob terms net t) → (n : ℕ) → n ≤ length net.nodes → AreCopies net t cs (so_far net t n)
  idle_upto cs none h zero within = subst (AreCopies net t cs) (sym (so_far_none net t)) h
  idle_upto cs none h (suc n) within = subst (λ (m : ℕ). AreCopies net t cs (so_far net t m)) (add-one n) (one_idle n (omega (arith, within)) cs none (idle_upto cs none h n (omega (arith, within))))

  close_stay : (cs : List (List NodeView)) → AllByRecursion AreShut cs → AllByRecursion (Stays net t (t + 1) (λ (s : Scenario Term). close s ∷ []) (closed_dead net t fine)) cs
  close_stay [] h = tt
  close_stay (c ∷ cs) h = ((λ s is. inl (closed_copy net t c c s is (same_closed net c h.0), tt)), close_stay cs h.1)

  -- A tick in which nothing is due changes nothing.
  pub idle_tick : (cs : List (List NodeView)) → AllByRecursion AreShut cs → AllByRecursion (IsIdle t) cs → AreCopies net t cs (cob terms net t) → AreCopies net (t + 1) cs (cob terms net (t + 1))
  idle_tick cs shut none h =
      subst (AreCopies net (t + 1) cs) (closed_each (pre terms net t) ∙ sym (cob_after net t))
      (all_stay net t (t + 1) (λ (s : Scenario Term). close s ∷ []) (closed_dead net t fine) cs (pre terms net t) (close_stay cs shut) (idle_upto cs none h (length net.nodes) (omega arith)))

-- what no packets are sent for stays
mailed_none_from : (i : ℕ) (xs : List NodeView) → mailed i [] xs ≡ xs
mailed_none_from i [] = refl
mailed_none_from i (x ∷ xs) =
    let same : sent_to i [] x ≡ x = ap (λ (b : List PacketView). record x { inbox = b }) (append-nil x.inbox) in
    ap (λ (y : NodeView). y ∷ mailed (i + 1) [] xs) same ∙ ap (λ (l : List NodeView). x ∷ l) (mailed_none_from (i + 1) xs)

pub mailed_none : (ps : List PacketView) (xs : List NodeView) → ps ≡ [] → mailed 0 ps xs ≡ xs
mailed_none ps xs none = ap (λ (l : List PacketView). mailed 0 l xs) none ∙ mailed_none_from 0 xs

-- a tick before one that is not the first is not the first where that is so of the first
pub after_first : (t quiet : ℕ) → (t ≡ 0 → quiet ≡ 0) → t < quiet → 0 < t
after_first zero quiet start before =
    let none = start refl in
    absurd (omega (arith, none, before))
after_first (suc t) quiet start before = omega arith
