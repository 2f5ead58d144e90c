-- What is asked of a scenario's nodes together.
use Rattle.std.proofs.Common.{◌≡◌, inl, inr, ℕ, zero, suc, ◌+◌, Bool, List, [], ◌∷◌, ◌++◌, length, map, take, drop, Some, refl, sym, ap, subst, ◌∙◌, arith}
use Rattle.std.specs.Prelude.{Contains, slice_get, slice_index_or, flat_map, ◌&&◌}
use Rattle.std.proofs.lemmas.List.{map-append, take-map, drop-map}
use Rattle.std.proofs.lemmas.List.Elements.{Contains-append_left, Contains-append_right, Contains-append_cases}
use Rattle.kn_node.specs.Views.{ConfigView}
use Rattle.kn_model.specs.Terms.{Term}
use Rattle.kn_model.specs.Nodes.{Node}
use Rattle.kn_model.specs.Nets.{Network}
use Rattle.kn_model.specs.Conditions.{Condition, Read, Query, reads_of, holds, that, that_with, IsFar}
use Rattle.kn_model.specs.Alikes.{OneByOne, ConditionAlike}
use Rattle.kn_model.specs.Laws.{IsNet}
use Rattle.kn_model.specs.Reports.{Report, StateLine, pick_condition, NodeIn, AllOwnsOf, IsQuery, HasFarQuery, singles}
use Rattle.kn_model.proofs.Under.{holds-append}
use Rattle.kn_model.proofs.JoinedQuery.{reads_append}
use Rattle.kn_model.proofs.OneByOne.{pairs-append}
use Rattle.kn_model.proofs.AlikeStandings.{alike_standings}
use Rattle.kn_model.proofs.Swapping.{one_and_others}
use Rattle.kn_machine.specs.Views.{own_of}
use Rattle.kn_cob.specs.Runs.{AreEnds, AreScenarios}
use Rattle.kn_cob.specs.Reports.{line_of, numbers, joint_of, IsReportOf}
use Rattle.kn_cob.proofs.Numbered.{some_one, none_some, get_less, first_of, at_singles, only}
use Rattle.kn_cob.proofs.Told.{ends_long, Found, found_in, line_there, line_is, less_nodes, node_in, one_node}

-- ---- joined conditions are alike where their parts are

joined_two : (c d e f : Condition) → ConditionAlike c d → ConditionAlike e f → ConditionAlike (c ++ e) (d ++ f)
joined_two c d e f p q = record {
  holds = λ a. holds-append a c e ∙ (ap (λ (b : Bool). b && holds a e) (p.holds a) ∙ (ap (λ (b : Bool). holds a d && b) (q.holds a) ∙ sym (holds-append a d f)));
  reads = λ x w.
      let there : Contains (reads_of d ++ reads_of f) x → Contains (reads_of (d ++ f)) x = subst (λ (l : List Read). Contains l x) (sym (reads_append d f)) in
      elim (Contains-append_cases (reads_of c) (reads_of e) x (subst (λ (l : List Read). Contains l x) (reads_append c e) w)) [
        | inl first ↦ there (Contains-append_left (reads_of d) (reads_of f) x (p.reads x first))
        | inr second ↦ there (Contains-append_right (reads_of d) (reads_of f) x (q.reads x second))
      ];
}

pub joint_alike : (net : Network) (n : ℕ) (cs : List ConfigView) (ys : List (Node Term)) → AreEnds net n cs ys → ConditionAlike (joint_of cs) (pick_condition ys)
joint_alike net n [] [] e = record { holds = λ a. refl; reads = λ x w. w }
joint_alike net n [] (y ∷ ys) e = absurd e
joint_alike net n (c ∷ cs) [] e = absurd e
joint_alike net n (c ∷ cs) (y ∷ ys) e = joined_two (own_of c) y.state.own (joint_of cs) (pick_condition ys) e.0.alike.own (joint_alike net (n + 1) cs ys e.1)

-- ---- one node's condition with those of the others

abbrev node_own : Node Term → Condition
node_own y = y.state.own

-- as a column of one alternative
abbrev own_alone : Node Term → List Condition
own_alone y = y.state.own ∷ []

alone_each : (ys : List (Node Term)) → map own_alone ys ≡ map (λ (d : Condition). d ∷ []) (map node_own ys)
alone_each [] = refl
alone_each (y ∷ ys) = ap (λ (l : List (List Condition)). own_alone y ∷ l) (alone_each ys)

own_in : (ys : List (Node Term)) (n : ℕ) (y : Node Term) → slice_get ys n ≡ Some y → slice_index_or (map node_own ys) n [] ≡ y.state.own
own_in [] n y e = none_some y e
own_in (x ∷ ys) zero y e = ap node_own (some_one x y e)
own_in (x ∷ ys) (suc n) y e = own_in ys n y e

all_joined : (ys : List (Node Term)) → flat_map (λ (d : Condition). d) (map node_own ys) ≡ pick_condition ys
all_joined [] = refl
all_joined (y ∷ ys) = ap (λ (c : Condition). y.state.own ++ c) (all_joined ys)

length_owns : (ys : List (Node Term)) → length (map node_own ys) ≡ length ys
length_owns [] = refl
length_owns (y ∷ ys) = ap suc (length_owns ys)

other_owns : (ys : List (Node Term)) (n : ℕ) → map node_own (take n ys ++ drop (n + 1) ys) ≡ take n (map node_own ys) ++ drop (n + 1) (map node_own ys)
other_owns ys n =
    map-append node_own (take n ys) (drop (n + 1) ys)
    ∙ (ap (λ (l : List Condition). l ++ map node_own (drop (n + 1) ys)) (sym (take-map node_own n ys)) ∙ ap (λ (l : List Condition). take n (map node_own ys) ++ l) (sym (drop-map node_own (n + 1) ys)))

-- asks what all nodes together ask
whole_query : (ys : List (Node Term)) (n : ℕ) (y : Node Term) → slice_get ys n ≡ Some y → that_with y.state.own (map own_alone (take n ys ++ drop (n + 1) ys)) ≡ that (pick_condition ys)
whole_query ys n y e =
    let owns = map node_own ys in
    let here = get_less ys n y e in
    ap (λ (c : Condition). that_with c (map own_alone (take n ys ++ drop (n + 1) ys))) (sym (own_in ys n y e))
    ∙ (ap (that_with (slice_index_or owns n [])) (alone_each (take n ys ++ drop (n + 1) ys) ∙ ap (map (λ (d : Condition). d ∷ [])) (other_owns ys n))
    ∙ (one_and_others owns n (omega (arith, here, length_owns ys)) ∙ ap that (all_joined ys)))

-- ---- lists in pairs

pairs_take : {A B : Type 0} (R : A → B → Type 0) (n : ℕ) (xs : List A) (ys : List B) → OneByOne R xs ys → OneByOne R (take n xs) (take n ys)
pairs_take R zero xs ys h = tt
pairs_take R (suc n) [] [] h = tt
pairs_take R (suc n) [] (y ∷ ys) h = absurd h
pairs_take R (suc n) (x ∷ xs) [] h = absurd h
pairs_take R (suc n) (x ∷ xs) (y ∷ ys) h = (h.0, pairs_take R n xs ys h.1)

pairs_drop : {A B : Type 0} (R : A → B → Type 0) (n : ℕ) (xs : List A) (ys : List B) → OneByOne R xs ys → OneByOne R (drop n xs) (drop n ys)
pairs_drop R zero xs ys h = h
pairs_drop R (suc n) [] [] h = tt
pairs_drop R (suc n) [] (y ∷ ys) h = absurd h
pairs_drop R (suc n) (x ∷ xs) [] h = absurd h
pairs_drop R (suc n) (x ∷ xs) (y ∷ ys) h = pairs_drop R n xs ys h.1

-- numbers from i on, and what stands at each place
pairs_numbers : {B : Type 0} (R : ℕ → B → Type 0) (ys : List B) (i : ℕ) → ((n : ℕ) (y : B) → slice_get ys n ≡ Some y → R (i + n) y) → OneByOne R (numbers (length ys) i) ys
pairs_numbers R [] i each = tt
pairs_numbers {B} R (y ∷ ys) i each =
    let here : i + 0 ≡ i = omega arith in
    let next : (n : ℕ) → i + suc n ≡ (i + 1) + n = λ n. omega arith in
    (subst (λ (j : ℕ). R j y) here (each 0 y refl), pairs_numbers R ys (i + 1) (λ n z e. subst (λ (j : ℕ). R j z) (next n) (each (suc n) z e)))

-- a number as a column
abbrev column : ℕ → List ℕ
column j = j ∷ []

singles_each : (nodes i : ℕ) → singles nodes i ≡ map column (numbers nodes i)
singles_each zero i = refl
singles_each (suc more) i = ap (λ (l : List (List ℕ)). column i ∷ l) (singles_each more (i + 1))

other_columns : (js : List ℕ) (n : ℕ) → take n (map column js) ++ drop (n + 1) (map column js) ≡ map column (take n js ++ drop (n + 1) js)
other_columns js n =
    ap (λ (l : List (List ℕ)). l ++ drop (n + 1) (map column js)) (take-map column n js)
    ∙ (ap (λ (l : List (List ℕ)). map column (take n js) ++ l) (drop-map column (n + 1) js) ∙ sym (map-append column (take n js) (drop (n + 1) js)))

module _ (net : Network) (good : IsNet net) (list : List (List ConfigView)) (h : AreScenarios net list) (r : Report) (made : IsReportOf net list r) where
  abbrev M : ℕ
  M = length net.nodes

  abbrev In : ℕ → Node Term → Type 0
  In = NodeIn net r

  -- the own conditions of states in columns of one state each
  owns_are : (js : List ℕ) (ys : List (Node Term)) → OneByOne In js ys → AllOwnsOf net r (map column js) (map own_alone ys)
  owns_are [] [] w = tt
  owns_are [] (y ∷ ys) w = absurd w
  owns_are (j ∷ js) [] w = absurd w
  owns_are (j ∷ js) (y ∷ ys) w = (((y, w.0, refl), tt), owns_are js ys w.1)

  owns_only : (js : List ℕ) (ys : List (Node Term)) → OneByOne In js ys → (others : List (List Condition)) → AllOwnsOf net r (map column js) others → others ≡ map own_alone ys
  owns_only [] [] w [] o = refl
  owns_only [] [] w (cs ∷ css) o = absurd o
  owns_only [] (y ∷ ys) w others o = absurd w
  owns_only (j ∷ js) [] w others o = absurd w
  owns_only (j ∷ js) (y ∷ ys) w [] o = absurd o
  owns_only (j ∷ js) (y ∷ ys) w ([] ∷ css) o = absurd o.0
  owns_only (j ∷ js) (y ∷ ys) w ((c ∷ d ∷ cs) ∷ css) o = absurd o.0.1
  owns_only (j ∷ js) (y ∷ ys) w ((c ∷ []) ∷ css) o =
      let at = o.0.0 in
      let same : c ≡ y.state.own = sym at.2 ∙ ap node_own (one_node net good list h r made j at.0 y at.1 w.0) in
      ap (λ (x : Condition). (x ∷ []) ∷ css) same ∙ ap (λ (l : List (List Condition)). own_alone y ∷ l) (owns_only js ys w.1 css o.1)

  -- ---- the query of a state in the dstate of its scenario

  module _ (i : ℕ) (f : Found net good list h r made i) where
    abbrev nodes : List (Node Term)
    nodes = f.kept.member.scenario.nodes

    abbrev first : ℕ
    first = first_of M 0 f.d

    length_nodes : length nodes ≡ M
    length_nodes = sym (ends_long net 0 f.kept.configs nodes f.kept.member.nodes) ∙ f.kept.whole

    all_in : OneByOne In (numbers M first) nodes
    all_in =
        subst (λ (n : ℕ). OneByOne In (numbers n first) nodes) length_nodes
        (pairs_numbers In nodes first
        (λ n y e.
        let less = get_less nodes n y e in
        let g = found_in net good list h r made f.d n f.columns f.kept (omega (arith, less, length_nodes)) y e in
        subst (In (first + n)) g.1 (node_in net good list h r made (first + n) g.0)))

    -- the states of the other nodes
    abbrev other_states : List ℕ
    other_states = take f.n (numbers M first) ++ drop (f.n + 1) (numbers M first)

    abbrev other_nodes : List (Node Term)
    other_nodes = take f.n nodes ++ drop (f.n + 1) nodes

    others_in : OneByOne In other_states other_nodes
    others_in =
        pairs-append In (take f.n (numbers M first)) (take f.n nodes) (drop (f.n + 1) (numbers M first)) (drop (f.n + 1) nodes)
        (pairs_take In f.n (numbers M first) nodes all_in) (pairs_drop In (f.n + 1) (numbers M first) nodes all_in)

    other_columns_are : take f.n f.columns ++ drop (f.n + 1) f.columns ≡ map column other_states
    other_columns_are = ap (λ (l : List (List ℕ)). take f.n l ++ drop (f.n + 1) l) (f.kept.columns_are ∙ singles_each M first) ∙ other_columns (numbers M first) f.n

    abbrev own : Condition
    own = f.node.state.own

    abbrev others : List (List Condition)
    others = map own_alone other_nodes

    asks : IsQuery net r f.d i (that_with own others)
    asks = record {
      line = line_of f.n f.config;
      is = line_there net good list h r made i f;
      columns = f.columns;
      dstate = f.kept.there;
      column = (first + f.n) ∷ [];
      of = ap (λ (l : List (List ℕ)). slice_get l f.n) f.kept.columns_are ∙ at_singles M first f.n (less_nodes net good list h r made i f);
      in_column = subst (λ (j : ℕ). Contains ((first + f.n) ∷ []) j) (sym f.is) (only (first + f.n));
      own = own;
      own_is = (f.node, node_in net good list h r made i f, refl);
      others = others;
      others_are = subst (λ (l : List (List ℕ)). AllOwnsOf net r l others) (sym other_columns_are) (owns_are other_states other_nodes others_in);
      query = refl;
    }

    query_is : (q : Query) → IsQuery net r f.d i q → q ≡ that (pick_condition nodes)
    query_is q w =
        let n : w.line.node ≡ f.n = ap (λ (l : StateLine). l.node) (line_is net good list h r made i f w.line w.is) in
        let columns : w.columns ≡ f.columns = some_one w.columns f.columns (sym w.dstate ∙ f.kept.there) in
        let behind : take w.line.node w.columns ++ drop (w.line.node + 1) w.columns ≡ map column other_states =
        ap (λ (m : ℕ). take m w.columns ++ drop (m + 1) w.columns) n ∙ (ap (λ (l : List (List ℕ)). take f.n l ++ drop (f.n + 1) l) columns ∙ other_columns_are) in
        let here : w.own ≡ own = sym w.own_is.2 ∙ ap node_own (one_node net good list h r made i w.own_is.0 f.node w.own_is.1 (node_in net good list h r made i f)) in
        let there : w.others ≡ others = owns_only other_states other_nodes others_in w.others (subst (λ (l : List (List ℕ)). AllOwnsOf net r l w.others) behind w.others_are) in
        w.query ∙ (ap (λ (c : Condition). that_with c w.others) here ∙ (ap (that_with own) there ∙ whole_query nodes f.n f.node f.there))

    pub has_far : IsFar net.limits.conflicts (that (joint_of f.kept.configs)) → HasFarQuery net r f.d i
    has_far far =
        let alike = joint_alike net 0 f.kept.configs nodes f.kept.member.nodes in
        let whole = (alike_standings net.limits.conflicts (joint_of f.kept.configs) (pick_condition nodes) alike).1 far in
        ((that_with own others, asks), λ q w. subst (IsFar net.limits.conflicts) (sym (query_is q w)) whole)
