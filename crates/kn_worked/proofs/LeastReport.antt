-- The report of the least network is given.
use Rattle.std.proofs.Common.{◌≡◌, ℕ, zero, suc, ◌<◌, List, [], ◌∷◌, map, Some, refl, sym, ap, subst, ◌∙◌, arith}
use Rattle.std.specs.Prelude.{Contains, slice_get, slice_index_or}
use Rattle.kn_model.specs.Terms.{Term, terms}
use Rattle.kn_model.specs.Nodes.{Node}
use Rattle.kn_model.specs.Nets.{opening_node, no_plan}
use Rattle.kn_model.specs.Scenarios.{Scenario, name_of}
use Rattle.kn_model.specs.Conditions.{that, IsLeast, MeetsWith, ComesBefore, StandsFor}
use Rattle.kn_model.specs.Reports.{StateLine, ends, IsLine, IsFailure, Shows, pick_name, all_picks}
use Rattle.kn_worked.specs.Report.{least_net, least_line, least_report, LeastGiven}

abbrev the_end : Scenario Term
the_end = slice_index_or (ends least_net) 0 (record { nodes = []; condition = [] })

one_of : {A : Type 0} (x y : A) → Contains (x ∷ []) y → x ≡ y
one_of {A} x y c = go c.0 c.1 c.2
  where
    go : (k : ℕ) → k < 1 → slice_index_or (x ∷ []) k y ≡ y → x ≡ y
    go zero h e = e
    go (suc k) h e = absurd (omega (arith, h))

only : {A : Type 0} (x : A) → Contains (x ∷ []) x
only x = (0, omega arith, refl)

one_line : (i : ℕ) (x : StateLine) → IsLine least_report i x → (i ≡ 0) × (least_line ≡ x)
one_line zero x e = (refl, cc)
one_line (suc i) x e = absurd cc

no_words : (ws : List ℕ) → MeetsWith (that []) ws → ComesBefore ws [] → ⊥
no_words [] m c = absurd cc
no_words (w ∷ ws) m c = m.0

pub least_inputs : IsLeast (that []) []
least_inputs = record { given_words = []; is = refl; meet = (tt, refl); least = no_words }

abbrev the_node : Node Term
the_node = slice_index_or the_end.nodes 0 (opening_node terms no_plan)

some_one : {A : Type 0} (x y : A) → Some x ≡ Some y → x ≡ y
some_one x y e = cc

one_node_here : (d n : ℕ) (columns : List (List ℕ)) (column : List ℕ) (line : StateLine) → least_line ≡ line → slice_get least_report.dstates d ≡ Some columns → slice_get columns n ≡ Some column → line.node ≡ n
one_node_here zero n columns column line g e f = sym (ap (λ (x : StateLine). x.node) g) ∙ at n (ap (λ (cs : List (List ℕ)). slice_get cs n) (some_one ((0 ∷ []) ∷ []) columns e) ∙ f)
  where
    at : (m : ℕ) → slice_get ((0 ∷ []) ∷ []) m ≡ Some column → 0 ≡ m
    at zero h = refl
    at (suc m) h = absurd cc
one_node_here (suc d) n columns column line g e f = absurd cc

pub least_given : LeastGiven
least_given = record {
  ticks = refl;
  nodes = refl;
  numbered = ((tt, tt), (tt, tt), (((tt, tt), tt), tt), ((refl, (omega arith, tt)), tt));
  of_node = λ d n i columns column line e f h g. one_node_here d n columns column line (one_line i line g).1 e f;
  named = λ p h. let e : (0 ∷ []) ≡ p = one_of (0 ∷ []) p h in (the_end, record { member = only the_end; shows = subst (λ q. Shows least_report q the_end.nodes) e ((least_line, refl, refl, refl), tt) });
  once = ((λ h. let less = h.1 in absurd (omega (arith, less))), tt);
  others = λ s h none. let e : the_end ≡ s = one_of the_end s h in absurd (none (subst (λ (u : Scenario Term). Contains (map (pick_name least_report) (all_picks least_report)) (name_of u)) e (0, omega arith, refl)));
  placed = λ i h. let e : 0 ≡ i = omega (arith, h) in (0, ((0 ∷ []) ∷ [], refl, (0 ∷ [], only (0 ∷ []), subst (λ (j : ℕ). Contains (0 ∷ []) j) e (only 0))));
  standings = λ i line y is node.
      let e : the_end ≡ node.scenario = one_of the_end node.scenario node.named.member in
      let f : least_line ≡ node.line = (one_line i node.line node.is).1 in
      let there : slice_get the_end.nodes 0 ≡ Some y = ap (λ (u : Scenario Term). slice_get u.nodes 0) e ∙ (ap (λ (x : StateLine). slice_get node.scenario.nodes x.node) f ∙ node.there) in
      let same : the_node ≡ y = some_one the_node y there in
      subst (λ (x : StateLine). StandsFor 65536 (that y.state.own) x.standing) (one_line i line is).1 (subst (λ (z : Node Term). StandsFor 65536 (that z.state.own) least_line.standing) same least_inputs);
  failures = λ i. (λ h. let less = h.1 in absurd (omega (arith, less)), λ f. absurd (subst (λ (x : StateLine). IsFailure x.outcome) (sym (one_line i f.0 f.1).1) f.2));
  in_order = tt;
  reaches = tt;
}
