-- A report of scenarios has the form of a report.
use Rattle.std.proofs.Common.{◌≡◌, ℕ, zero, suc, ◌+◌, ◌*◌, ◌≤◌, Bool, true, List, [], ◌∷◌, length, Some, refl, sym, ap, subst, ◌∙◌, arith}
use Rattle.std.specs.Prelude.{◌&&◌, flat_map, slice_get, nat_eq, nat_lt}
use Rattle.std.specs.List.{AllByRecursion}
use Rattle.std.proofs.lemmas.Bool.{eq-eqb, lt-ltb, le-leb}
use Rattle.std.proofs.lemmas.List.{length-append}
use Rattle.std.proofs.lemmas.List.Concat.{flat_map-cons}
use Rattle.kn_node.specs.Views.{ConfigView}
use Rattle.kn_model.specs.Nets.{Network}
use Rattle.kn_model.specs.Reports.{Report, FailureLine, Reach, At, Undecided, Nowhere, singles}
use Rattle.kn_model.proofs.Lists.{all-weaker}
use Rattle.kn_report.specs.Forms.{is_column, all_columns, are_columns, takes, takes_of, is_reach, IsReport}
use Rattle.kn_cob.specs.Reports.{lines_from, numbers, dstates_from, joint_of, IsJoint, IsOfScenario, IsReportOf, AreLong}
use Rattle.kn_cob.proofs.Numbered.{none_some, length-lines_from, first_of, first_is}

both_true : (a b : Bool) → a ≡ true → b ≡ true → (a && b) ≡ true
both_true a b p q = rw p q

columns_fit : (states nodes i : ℕ) → i + nodes ≤ states → all_columns states (singles nodes i) ≡ true
columns_fit states zero i h = refl
columns_fit states (suc more) i h =
    let inside : nat_lt i states ≡ true = lt-ltb i states (omega (arith, h)) in
    both_true (is_column states (i ∷ [])) (all_columns states (singles more (i + 1))) (rw (le-leb 0 i (omega arith), inside) refl) (columns_fit states more (i + 1) (omega (arith, h)))

length_singles : (nodes i : ℕ) → length (singles nodes i) ≡ nodes
length_singles zero i = refl
length_singles (suc more) i = ap suc (length_singles more (i + 1))

dstate_fits : (states nodes i : ℕ) → i + nodes ≤ states → are_columns states nodes (singles nodes i) ≡ true
dstate_fits states nodes i h = both_true (nat_eq (length (singles nodes i)) nodes) (all_columns states (singles nodes i)) (eq-eqb (length (singles nodes i)) nodes (length_singles nodes i)) (columns_fit states nodes i h)

dstates_fit : (states nodes i : ℕ) (list : List (List ConfigView)) → AreLong nodes list → i + length (flat_map (lines_from 0) list) ≤ states
    → AllByRecursion (λ (columns : List (List ℕ)). are_columns states nodes columns ≡ true) (dstates_from nodes i list)
dstates_fit states nodes i [] long h = tt
dstates_fit states nodes i (cs ∷ list) long h =
    let both : length (flat_map (lines_from 0) (cs ∷ list)) ≡ nodes + length (flat_map (lines_from 0) list) =
    ap length (flat_map-cons (lines_from 0) cs list) ∙ (length-append (lines_from 0 cs) (flat_map (lines_from 0) list) ∙ ap (λ (n : ℕ). n + length (flat_map (lines_from 0) list)) (length-lines_from 0 cs ∙ long.0)) in
    (dstate_fits states nodes i (omega (arith, h, both)), dstates_fit states nodes (i + nodes) list long.1 (omega (arith, h, both)))

dstate_at : (nodes i : ℕ) (list : List (List ConfigView)) (d : ℕ) (cs : List ConfigView) → slice_get list d ≡ Some cs → slice_get (dstates_from nodes i list) d ≡ Some (singles nodes (first_of nodes i d))
dstate_at nodes i [] d cs e = none_some cs e
dstate_at nodes i (x ∷ list) zero cs e = refl
dstate_at nodes i (x ∷ list) (suc d) cs e = dstate_at nodes (i + nodes) list d cs e

-- the one pick of columns of one state each
taken : (nodes i : ℕ) → takes (singles nodes i) (numbers nodes i) ≡ true
taken zero i = refl
taken (suc more) i = let same : nat_eq i i ≡ true = eq-eqb i i refl in rw same (taken more (i + 1))

reach_fits : (net : Network) (list : List (List ConfigView)) (r : Report) → IsReportOf net list r → (w : FailureLine) → IsOfScenario net list w → is_reach r.dstates w.reach ≡ true
reach_fits net list r is w o = go w.reach o.joint
  where
    at : (slice_get r.dstates o.dstate ≡ Some (singles (length net.nodes) (first_of (length net.nodes) 0 o.dstate)))
    at = ap (λ (ds : List (List (List ℕ))). slice_get ds o.dstate) is.dstates ∙ dstate_at (length net.nodes) 0 list o.dstate o.configs o.there

    go : (x : Reach) → IsJoint net.limits.conflicts (joint_of o.configs) o.dstate (numbers (length net.nodes) (o.dstate * length net.nodes)) x → is_reach r.dstates x ≡ true
    go Undecided j = refl
    go Nowhere j = refl
    go (At e q a) j =
        ap (λ (d : ℕ). takes_of (slice_get r.dstates d) q) j.0
        ∙ (ap (takes_of (slice_get r.dstates o.dstate)) (j.1 ∙ ap (numbers (length net.nodes)) (first_is (length net.nodes) o.dstate))
        ∙ (ap (λ x. takes_of x (numbers (length net.nodes) (first_of (length net.nodes) 0 o.dstate))) at ∙ taken (length net.nodes) (first_of (length net.nodes) 0 o.dstate)))

pub is_report : (net : Network) (list : List (List ConfigView)) (r : Report) → AreLong (length net.nodes) list → IsReportOf net list r → IsReport r
is_report net list r long is = record {
  lines = record {
    dstates = subst (λ (n : ℕ). AllByRecursion (λ (columns : List (List ℕ)). are_columns (length r.states) n columns ≡ true) r.dstates) (sym is.nodes)
        (subst (AllByRecursion (λ (columns : List (List ℕ)). are_columns (length r.states) (length net.nodes) columns ≡ true)) (sym is.dstates)
        (let most : 0 + length (flat_map (lines_from 0) list) ≤ length r.states = (let same = ap length is.states in omega (arith, same)) in dstates_fit (length r.states) (length net.nodes) 0 list long most));
    reaches = all-weaker (IsOfScenario net list) (λ (w : FailureLine). is_reach r.dstates w.reach ≡ true) (reach_fits net list r is) r.failures is.reaches;
  };
  failures = is.failures;
}
