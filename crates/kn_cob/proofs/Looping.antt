-- A loop over a list of copies, in tick t, that makes copies, in tick u, of what comes of each scenario.
use Rattle.std.proofs.Common.{◌≡◌, ℕ, List, [], ◌∷◌, ◌++◌, flat_map, refl, sym, ap, subst, ◌∙◌, append_assoc, append-nil}
use Rattle.std.specs.List.{AllByRecursion}
use Rattle.std.proofs.lemmas.Grind.{flat_map-append}
use Rattle.kn_model.specs.Terms.{Term}
use Rattle.kn_model.specs.Nets.{Network}
use Rattle.kn_model.specs.Scenarios.{Scenario}
use Rattle.kn_model.specs.Shapes.{IsLost}
use Rattle.kn_model.proofs.Lists.{all-flat, all-weaker}
use Rattle.kn_cob.specs.Nodes.{NodeView}
use Rattle.kn_cob.specs.Copies.{IsCopy, AreCopies}
use Rattle.kn_cob.proofs.Given.{same_rest, copies_none, copies_append, all_lost, first_copy}

module _ (net : Network) (t u : ℕ) (g : Scenario Term → List (Scenario Term)) where
  -- so far: of the list some copies were yielded, and copies of what comes of their scenarios are out
  pub record Halfway (out list yielded : List (List NodeView)) (ss : List (Scenario Term)) : Type 0 where
    pub rest : List (List NodeView)
    pub split : list ≡ yielded ++ rest
    pub done : List (Scenario Term)
    pub left : List (Scenario Term)
    pub parts : ss ≡ done ++ left
    pub made : AreCopies net u out (flat_map g done)
    pub others : AreCopies net t rest left

  -- at the next copy
  pub record AtNext (out : List (List NodeView)) (c : List NodeView) (list yielded : List (List NodeView)) (ss : List (Scenario Term)) : Type 0 where
    pub rest : List (List NodeView)
    pub split : list ≡ yielded ++ (c ∷ rest)
    pub done : List (Scenario Term)
    pub scenario : Scenario Term
    pub left : List (Scenario Term)
    pub parts : ss ≡ done ++ (scenario ∷ left)
    pub copy : IsCopy net t c scenario
    pub made : AreCopies net u out (flat_map g done)
    pub others : AreCopies net t rest left

  -- before the first copy
  pub at_start : (list : List (List NodeView)) (ss : List (Scenario Term)) → AreCopies net t list ss → Halfway [] list [] ss
  at_start list ss h = record { rest = list; split = refl; done = []; left = ss; parts = refl; made = tt; others = h }

  -- what comes of those up to the next copy and of its own scenario
  pub with_next : (done : List (Scenario Term)) (s : Scenario Term) → flat_map g (done ++ (s ∷ [])) ≡ flat_map g done ++ g s
  with_next done s = flat_map-append g done (s ∷ []) ∙ ap (λ (l : List (Scenario Term)). flat_map g done ++ l) (append-nil (g s))

  -- copies of what comes of its scenario are out
  pub stepped : (out : List (List NodeView)) (c : List NodeView) (list yielded : List (List NodeView)) (ss : List (Scenario Term)) (m : AtNext out c list yielded ss) (new : List (List NodeView)) → AreCopies net u new (flat_map g m.done ++ g m.scenario)
      → Halfway new list (yielded ++ (c ∷ [])) ss
  stepped out c list yielded ss m new h = record {
    rest = m.rest;
    split = m.split ∙ sym (append_assoc yielded (c ∷ []) m.rest);
    done = m.done ++ (m.scenario ∷ []);
    left = m.left;
    parts = m.parts ∙ sym (append_assoc m.done (m.scenario ∷ []) m.left);
    made = subst (AreCopies net u new) (sym (with_next m.done m.scenario)) h;
    others = m.others;
  }

  -- where nothing comes of lost scenarios but lost ones
  module _ (dead : (s : Scenario Term) → IsLost net s → AllByRecursion (IsLost net) (g s)) where
    after_lost : (out : List (List NodeView)) (done lost : List (Scenario Term)) → AllByRecursion (IsLost net) lost → AreCopies net u out (flat_map g done) → AreCopies net u out (flat_map g (done ++ lost))
    after_lost out done lost h made =
        let gone = all-flat (IsLost net) g lost (all-weaker (IsLost net) (λ (s : Scenario Term). AllByRecursion (IsLost net) (g s)) dead lost h) in
        subst (λ (l : List (List NodeView)). AreCopies net u l (flat_map g (done ++ lost))) (append-nil out)
        (subst (AreCopies net u (out ++ [])) (sym (flat_map-append g done lost)) (copies_append net u out [] (flat_map g done) (flat_map g lost) made (copies_none net u (flat_map g lost) gone)))

    pub at_next : (out list yielded : List (List NodeView)) (c : List NodeView) (rest : List (List NodeView)) (ss : List (Scenario Term)) → Halfway out list yielded ss → list ≡ yielded ++ (c ∷ rest) → AtNext out c list yielded ss
    at_next out list yielded c rest ss m e =
        let same : m.rest ≡ c ∷ rest = same_rest yielded m.rest (c ∷ rest) (sym m.split ∙ e) in
        let r = first_copy net t c rest m.left (subst (λ (l : List (List NodeView)). AreCopies net t l m.left) same m.others) in
        record {
          rest = rest;
          split = e;
          done = m.done ++ r.before;
          scenario = r.scenario;
          left = r.after;
          parts = m.parts ∙ (ap (λ (l : List (Scenario Term)). m.done ++ l) r.parts ∙ sym (append_assoc m.done r.before (r.scenario ∷ r.after)));
          copy = r.copy;
          made = after_lost out m.done r.before r.lost m.made;
          others = r.others;
        }

    -- once all were yielded
    pub at_end : (out list yielded : List (List NodeView)) (ss : List (Scenario Term)) → Halfway out list yielded ss → list ≡ yielded → AreCopies net u out (flat_map g ss)
    at_end out list yielded ss m e =
        let none : m.rest ≡ [] = same_rest yielded m.rest [] (sym m.split ∙ (e ∙ sym (append-nil yielded))) in
        let lost = all_lost net t m.left (subst (λ (l : List (List NodeView)). AreCopies net t l m.left) none m.others) in
        subst (λ (l : List (Scenario Term)). AreCopies net u out (flat_map g l)) (sym m.parts) (after_lost out m.done m.left lost m.made)
