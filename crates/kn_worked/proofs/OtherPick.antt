-- A failure that two picks of a dstate can reach is reached on the first inputs of both.
use Rattle.std.proofs.Common.{◌≡◌, ℕ, zero, suc, ◌<◌, Bool, true, false, cond, List, [], ◌∷◌, refl, sym, ap, subst, ◌∙◌, arith}
use Rattle.std.specs.Prelude.{Contains, slice_index_or, nat_eq, ◌&&◌}
use Rattle.kn_model.specs.Terms.{Term, Word, Input, Valuation, listed}
use Rattle.kn_model.specs.Scenarios.{Scenario}
use Rattle.kn_model.specs.Conditions.{Condition, holds, literal_holds}
use Rattle.kn_model.specs.Concrete.{concrete}
use Rattle.kn_model.specs.Laws.{IsNet}
use Rattle.kn_model.specs.Least.{IsBefore}
use Rattle.kn_built.specs.Picks.{picks}
use Rattle.kn_model.specs.Reports.{Report, ends, Names, MeetsPick, pick_condition}
use Rattle.kn_worked.specs.Networks.{is, is_not, i, o}
use Rattle.kn_worked.specs.Reports.{two_ways, two_told, only_input, chose, either_way, FirstPickReached, LaterPickNotGiven}
use Rattle.kn_term.specs.Valuations.{precedes}
use Rattle.std.proofs.lemmas.Bool.{eqb-true}
use Rattle.kn_model.proofs.Clashing.{both}
use Rattle.kn_model.proofs.Named.{one_by_name, shown_name}
use Rattle.kn_worked.proofs.ChoosyReports.{none_first}
use Rattle.kn_worked.proofs.Pointing.{some_is}

good : IsNet two_ways
good = record { delays = (omega arith, tt); timers = ((tt, (tt, (tt, (tt, (tt, (tt, (tt, tt))))))), ((omega arith, (tt, (tt, (tt, (tt, tt))))), tt)) }

abbrev member : ℕ → Scenario Term
member k = slice_index_or (ends two_ways) k (record { nodes = []; condition = [] })

abbrev columns : List (List ℕ)
columns = (1 ∷ 2 ∷ []) ∷ (4 ∷ []) ∷ []

-- the conditions of the two picks ask for one of the inputs each
input_is_0 : (b : Valuation) (k : ℕ) → listed b 0 k ≡ 0 → literal_holds b (is (Input 0 k 1)) ≡ false
input_is_0 b k h = rw h refl

without_input : (b : Valuation) → listed b 0 1 ≡ 0 → holds b (pick_condition (member 3).nodes) ≡ true → ⊥
without_input b h met =
    let rest : Condition = is_not (Input 0 0 1) ∷ is_not (Word 0) ∷ [] in
    let wrong : false ≡ true = sym (input_is_0 b 1 h) ∙ (both (literal_holds b (is (Input 0 1 1))) (holds b rest) met).0 in
    cc

with_input : (b : Valuation) → listed b 0 0 ≡ 0 → holds b (pick_condition (member 5).nodes) ≡ true → ⊥
with_input b h met =
    let last : Condition = is_not (Input 0 1 1) ∷ is_not (Word 0) ∷ [] in
    let rest : Condition = is (Input 0 0 1) ∷ last in
    let behind = (both (literal_holds b (is_not (Input 0 1 1))) (holds b rest) met).1 in
    let wrong : false ≡ true = sym (input_is_0 b 0 h) ∙ (both (literal_holds b (is (Input 0 0 1))) (holds b last) behind).0 in
    cc

module _ (pick : List ℕ) (inputs : Valuation) where
  abbrev report : Report
  report = two_told pick inputs

  without_named : Names two_ways report (1 ∷ 4 ∷ []) (member 3)
  without_named = record { member = (3, omega arith, refl); shows = ((chose o i (only_input 1), refl, refl, refl), ((either_way, refl, refl, refl), tt)) }

  with_named : Names two_ways report (2 ∷ 4 ∷ []) (member 5)
  with_named = record { member = (5, omega arith, refl); shows = ((chose i o (only_input 0), refl, refl, refl), ((either_way, refl, refl, refl), tt)) }

  pub without_met : MeetsPick two_ways report 0 4 (only_input 1)
  without_met = record { pick = 1 ∷ 4 ∷ []; picked = (columns, refl, (0, omega arith, refl)); with = (1, omega arith, refl); scenario = member 3; named = without_named; meets = refl }

  -- a scenario that a pick names is the one with that name
  named_is : (p : List ℕ) (k : ℕ) (s : Scenario Term) → Names two_ways report p (member k) → Names two_ways report p s → member k ≡ s
  named_is p k s a b = one_by_name two_ways 3 (member k) s good a.member b.member (sym (shown_name report p (member k).nodes a.shows) ∙ shown_name report p s.nodes b.shows)

  -- what meets a pick of dstate 0 has one of the two inputs
  pub some_input : (b : Valuation) → MeetsPick two_ways report 0 4 b → (listed b 0 1 ≡ 0) → (listed b 0 0 ≡ 0) → ⊥
  some_input b m second first = by c.0 c.1 c.2
    where
      c : Contains ((1 ∷ 4 ∷ []) ∷ (2 ∷ 4 ∷ []) ∷ []) m.pick
      c = subst (λ (cs : List (List ℕ)). Contains (picks cs) m.pick) (sym (some_is columns m.picked.0 m.picked.1)) m.picked.2

      met : (p : List ℕ) (k : ℕ) → p ≡ m.pick → Names two_ways report p (member k) → holds b (pick_condition (member k).nodes) ≡ true
      met p k e named =
          subst (λ (s : Scenario Term). holds b (pick_condition s.nodes) ≡ true) (sym (named_is p k m.scenario named (subst (λ (q : List ℕ). Names two_ways report q m.scenario) (sym e) m.named))) m.meets

      by : (k : ℕ) → k < 2 → slice_index_or ((1 ∷ 4 ∷ []) ∷ (2 ∷ 4 ∷ []) ∷ []) k m.pick ≡ m.pick → ⊥
      by zero h e = without_input b second (met (1 ∷ 4 ∷ []) 3 e without_named)
      by (suc zero) h e = with_input b first (met (2 ∷ 4 ∷ []) 5 e with_named)
      by (suc (suc k)) h e = absurd (omega (arith, h))

-- what comes before the second input alone has neither of the two
before_second : (b : Valuation) → IsBefore b (only_input 1) → (listed b 0 1 ≡ 0) × (listed b 0 0 ≡ 0)
before_second b before = go (nat_eq 0 before.node) refl (nat_eq 1 before.index) refl before.lower
  where
    go : (x : Bool) → nat_eq 0 before.node ≡ x → (y : Bool) → nat_eq 1 before.index ≡ y → listed b before.node before.index < cond (x && y) 1 0 → (listed b 0 1 ≡ 0) × (listed b 0 0 ≡ 0)
    go true e true f less =
        let node = eqb-true 0 before.node e in
        let index = eqb-true 1 before.index f in
        let here : listed b 0 1 ≡ listed b before.node before.index = ap (λ n. listed b n 1) node ∙ ap (λ k. listed b before.node k) index in
        let earlier : precedes 0 0 before.node before.index ≡ true = subst (λ n. precedes 0 0 n before.index ≡ true) node (subst (λ k. precedes 0 0 0 k ≡ true) index refl) in
        (omega (arith, here, less), before.same 0 0 earlier)
    go true e false f less = absurd (omega (arith, less))
    go false e y f less = absurd (omega (arith, less))

pub first_pick_reached : FirstPickReached
first_pick_reached = record {
  picked = (columns, refl, (0, omega arith, refl));
  with = (1, omega arith, refl);
  scenario = member 3;
  named = without_named (1 ∷ 4 ∷ []) (only_input 1);
  meets = refl;
  least = record {
    entries = (omega arith, tt, tt);
    has = without_met (1 ∷ 4 ∷ []) (only_input 1);
    first = λ b before m. let none = before_second b before in some_input (1 ∷ 4 ∷ []) (only_input 1) b m none.0 none.1;
  };
  run = slice_index_or (concrete two_ways (only_input 1) 3) 0 (record { nodes = []; condition = [] });
  concrete_run = refl;
  shows = ((chose o i (only_input 1), refl, refl, refl), ((either_way, refl, refl, refl), tt));
  earlier = λ e less. absurd (omega (arith, less));
}

pub later_pick_not_given : LaterPickNotGiven
later_pick_not_given gives =
    gives.reaches.0.least.first (only_input 1) (record { node = 0; index = 0; lower = omega arith; same = λ m j first. absurd (none_first m j first) }) (without_met (2 ∷ 4 ∷ []) (only_input 0))
