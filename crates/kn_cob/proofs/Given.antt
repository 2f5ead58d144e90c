-- Lists of copies and the scenarios that they are of, one after another.
use Rattle.std.proofs.Common.{◌≡◌, inl, inr, List, [], ◌∷◌, ◌++◌, refl, ap}
use Rattle.std.specs.List.{AllByRecursion}
use Rattle.kn_model.specs.Terms.{Term}
use Rattle.kn_model.specs.Nets.{Network}
use Rattle.kn_model.specs.Scenarios.{Scenario}
use Rattle.kn_model.specs.Shapes.{IsLost}
use Rattle.kn_cob.specs.Nodes.{NodeView}
use Rattle.kn_cob.specs.Copies.{IsCopy, AreCopies}
use Rattle.std.specs.Prelude.{ℕ}

-- lists with one beginning and one end have one rest
pub same_rest : {A : Type 0} (xs ys zs : List A) → xs ++ ys ≡ xs ++ zs → ys ≡ zs
same_rest [] ys zs e = e
same_rest (x ∷ xs) ys zs e = same_rest xs ys zs (cc)

module _ (net : Network) (t : ℕ) where
  abbrev S : Type 0
  S = Scenario Term

  abbrev Copy : Type 0
  Copy = List NodeView

  -- no copies are of lost scenarios
  pub copies_none : (ss : List S) → AllByRecursion (IsLost net) ss → AreCopies net t [] ss
  copies_none [] h = tt
  copies_none (s ∷ ss) h = (h.0, copies_none ss h.1)

  pub all_lost : (ss : List S) → AreCopies net t [] ss → AllByRecursion (IsLost net) ss
  all_lost [] h = tt
  all_lost (s ∷ ss) h = (h.0, all_lost ss h.1)

  -- lost scenarios in front
  pub copies_after : (cs : List Copy) (ss us : List S) → AllByRecursion (IsLost net) ss → AreCopies net t cs us → AreCopies net t cs (ss ++ us)
  copies_after cs [] us h i = i
  copies_after [] (s ∷ ss) us h i = (h.0, copies_after [] ss us h.1 i)
  copies_after (c ∷ cs) (s ∷ ss) us h i = inr (h.0, copies_after (c ∷ cs) ss us h.1 i)

  -- one list after another
  pub copies_append : (cs ds : List Copy) (ss us : List S) → AreCopies net t cs ss → AreCopies net t ds us → AreCopies net t (cs ++ ds) (ss ++ us)
  copies_append [] ds ss us h i = copies_after ds ss us (all_lost ss h) i
  copies_append (c ∷ cs) ds [] us h i = absurd h
  copies_append (c ∷ cs) ds (s ∷ ss) us (inl h) i = inl (h.0, copies_append cs ds ss us h.1 i)
  copies_append (c ∷ cs) ds (s ∷ ss) us (inr h) i = inr (h.0, copies_append (c ∷ cs) ds ss us h.1 i)

  -- the scenario of the first copy
  pub record FirstOf (c : Copy) (cs : List Copy) (ss : List S) : Type 0 where
    pub before : List S
    pub scenario : S
    pub after : List S
    pub parts : ss ≡ before ++ (scenario ∷ after)
    pub lost : AllByRecursion (IsLost net) before
    pub copy : IsCopy net t c scenario
    pub others : AreCopies net t cs after

  pub first_copy : (c : Copy) (cs : List Copy) (ss : List S) → AreCopies net t (c ∷ cs) ss → FirstOf c cs ss
  first_copy c cs [] h = absurd h
  first_copy c cs (s ∷ ss) (inl h) = record { before = []; scenario = s; after = ss; parts = refl; lost = tt; copy = h.0; others = h.1 }
  first_copy c cs (s ∷ ss) (inr h) =
      let r = first_copy c cs ss h.1 in
      record { before = s ∷ r.before; scenario = r.scenario; after = r.after; parts = ap (λ l. s ∷ l) r.parts; lost = (h.0, r.lost); copy = r.copy; others = r.others }
