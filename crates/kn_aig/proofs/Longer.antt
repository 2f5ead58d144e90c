-- How a node more leaves the nodes before it, and what it means.
use Rattle.std.proofs.Common.{◌≡◌, ℕ, zero, suc, ◌+◌, ◌<◌, ◌≤◌, ◌^◌, Bool, true, false, cond, List, [], ◌∷◌, ◌++◌, length, refl, ap, sym, subst, ◌∙◌, inl, inr, arith, length-append}
use Rattle.std.specs.Prelude.{slice_get, Some, None, ◌⊎◌}
use Rattle.std.specs.declared.option.Option.{Option}
use Rattle.std.specs.declared.result.Result.{Result}
use Rattle.std.specs.Prelude.{Ok, Err, OnOk, IsOk, ◌==◌}
use Rattle.std.specs.Bool.{beq}
use Rattle.std.specs.Cmp.{booleans_Decides}
use Rattle.std.proofs.lemmas.Bool.{cases_Bool, and_parts, eqb-true, eq-eqb}
use Rattle.std.proofs.lemmas.List.{take-append-le, take_all}
use Rattle.kn_aig.specs.declared.gates.Edge.{Edge}
use Rattle.kn_aig.specs.declared.gates.Pair.{Pair}
use Rattle.kn_aig.specs.declared.gates.AigNode.{AigNode}
use Rattle.kn_aig.specs.declared.gates.AigNode.TheVariants as nodes
use Rattle.kn_aig.specs.Circuits.{flip, node_of, values_of, value_of, inputs_of, Fits, AllFit, Extends, Stands, IsIndex, IsKept, same_edge, same_pair}
use Rattle.kn_aig.proofs.Values.{value_at-extends, value_at-push}

-- where an element of a list with one more stands
get_push : {X : Type 0} (xs : List X) (y : X) (k : ℕ) (n : X) → slice_get (xs ++ y ∷ []) k ≡ Some n → ((k < length xs) × (slice_get xs k ≡ Some n)) ⊎ ((k ≡ length xs) × (y ≡ n))
get_push [] y zero n e = inr (refl, cc)
get_push [] y (suc k) n e = absurd cc
get_push (x ∷ xs) y zero n e = inl (omega arith, e)
get_push (x ∷ xs) y (suc k) n e = elim (get_push xs y k n e) [ inl h ↦ inl (omega (arith, h.0), h.1) | inr h ↦ inr (ap suc h.0, h.1) ]

-- an element stays where more follow
get_more : {X : Type 0} (xs ys : List X) (k : ℕ) (n : X) → slice_get xs k ≡ Some n → slice_get (xs ++ ys) k ≡ Some n
get_more [] ys k n e = absurd cc
get_more (x ∷ xs) ys zero n e = e
get_more (x ∷ xs) ys (suc k) n e = get_more xs ys k n e

-- the element at the end
get_end : {X : Type 0} (xs : List X) (y : X) → slice_get (xs ++ y ∷ []) (length xs) ≡ Some y
get_end [] y = refl
get_end (x ∷ xs) y = get_end xs y

-- the inputs of a circuit and of what follows it
pub inputs_of-append : (xs ys : List AigNode) → inputs_of (xs ++ ys) ≡ inputs_of xs + inputs_of ys
inputs_of-append [] ys = omega arith
inputs_of-append (x ∷ xs) ys = omega (arith, inputs_of-append xs ys)

-- a node fits in a list by the nodes before it
fits_along : (xs ys : List AigNode) (k : ℕ) (n : AigNode) → k ≤ length xs → Fits xs k n → Fits (xs ++ ys) k n
fits_along xs ys k nodes.Constant h f = f
fits_along xs ys k (nodes.Input i) h f = f ∙ ap inputs_of (sym (take-append-le k xs ys h))
fits_along xs ys k (nodes.And x y) h f = f

-- a node that fits keeps all nodes fitting
pub AllFit-push : (old : List AigNode) (n : AigNode) → AllFit old → Fits old (length old) n → AllFit (old ++ n ∷ [])
AllFit-push old n all f k m e =
    elim (get_push old n k m e) [
      | inl h ↦ fits_along old (n ∷ []) k m (omega (arith, h.0)) (all k m h.1)
      | inr h ↦ subst (λ (j : ℕ). Fits (old ++ n ∷ []) j m) (sym h.0) (subst (Fits (old ++ n ∷ []) (length old)) h.1 (fits_along old (n ∷ []) (length old) n (omega arith) f))
    ]

-- a new input is in no index
pub IsIndex-input : (old : List AigNode) (i : ℕ) (index : Pair → Option ℕ) → IsIndex old index → IsIndex (old ++ nodes.Input i ∷ []) index
IsIndex-input old i index is = record {
  named = λ p k e. get_more old (nodes.Input i ∷ []) k _ (is.named p k e);
  known = λ x y k e. elim (get_push old (nodes.Input i) k (nodes.And x y) e) [ inl h ↦ is.known x y k h.1 | inr h ↦ let wrong : nodes.Input i ≡ nodes.And x y = h.1 in absurd cc ];
}

-- a new gate comes into the index
pub IsIndex-gate : (old : List AigNode) (p : Pair) (eq : Pair → Pair → Bool) (before after : Pair → Option ℕ) → ((q : Pair) → eq p q ≡ true → p ≡ q) → eq p p ≡ true
    → IsIndex old before → before p ≡ None → ((q : Pair) → after q ≡ cond (eq p q) (Some (length old)) (before q)) → IsIndex (old ++ nodes.And p.first p.second ∷ []) after
IsIndex-gate old p eq before after same itself is absent updates = record {
  named = λ q k e. elim (cases_Bool (eq p q)) [
    | inl is_it ↦
        let here : p ≡ q = same q is_it in
        let place : Some (length old) ≡ Some k = sym (ap (λ (b : Bool). cond b (Some (length old)) (before q)) is_it) ∙ sym (updates q) ∙ e in
        let number : length old ≡ k = cc in
        subst (λ (j : ℕ). slice_get (old ++ nodes.And p.first p.second ∷ []) j ≡ Some (nodes.And q.first q.second)) number (get_end old (nodes.And p.first p.second) ∙ ap (λ (r : Pair). Some (nodes.And r.first r.second)) here)
    | inr other ↦
        let was : before q ≡ Some k = sym (ap (λ (b : Bool). cond b (Some (length old)) (before q)) other) ∙ sym (updates q) ∙ e in
        get_more old (nodes.And p.first p.second ∷ []) k _ (is.named q k was)
  ];
  known = λ x y k e.
      let q : Pair = record { first = x; second = y } in
      elim (get_push old (nodes.And p.first p.second) k (nodes.And x y) e) [
        | inl h ↦
            let was : before q ≡ Some k = is.known x y k h.1 in
            elim (cases_Bool (eq p q)) [
              | inl is_it ↦ let here : before p ≡ Some k = ap before (same q is_it) ∙ was in absurd cc
              | inr other ↦ updates q ∙ ap (λ (b : Bool). cond b (Some (length old)) (before q)) other ∙ was
            ]
        | inr h ↦
            let first : p.first ≡ x = cc in
            let second : p.second ≡ y = cc in
            let here : p ≡ q = ap (λ (f : Edge). record { first = f; second = p.second }) first ∙ ap (λ (s : Edge). record { first = x; second = s }) second in
            let is_it : eq p q ≡ true = sym (ap (eq p) here) ∙ itself in
            updates q ∙ ap (λ (b : Bool). cond b (Some (length old)) (before q)) is_it ∙ ap Some (sym h.0)
      ];
}

-- edges keep their values in a longer circuit
pub value_of-extends : (bits : List Bool) (old new : List AigNode) (e : Edge) → Extends old new → Stands old e → value_of bits new e ≡ value_of bits old e
value_of-extends bits old new e more stands = ap (flip e.inverted) (value_at-extends bits old new e.node more stands)

-- the value of a node at the end
pub value_of-pushed : (bits : List Bool) (old new : List AigNode) (n : AigNode) (e : Edge) → new ≡ old ++ n ∷ [] → length old ≡ e.node → value_of bits new e ≡ flip e.inverted (node_of bits (values_of bits old) n)
value_of-pushed bits old new n e is place = ap (flip e.inverted) (value_at-push bits old new n e.node is place)

-- edges that test as the same are equal
same_edge_is : (x y : Edge) → same_edge x y ≡ true → x ≡ y
same_edge_is x y h =
    let parts = and_parts (x.node == y.node) (beq x.inverted y.inverted) h in
    let node : x.node ≡ y.node = eqb-true x.node y.node parts.0 in
    let inverted : x.inverted ≡ y.inverted = (booleans_Decides x.inverted y.inverted).0 parts.1 in
    ap (λ (n : ℕ). record { node = n; inverted = x.inverted }) node ∙ ap (λ (b : Bool). record { node = y.node; inverted = b }) inverted

pub edge_itself : (x : Edge) → same_edge x x ≡ true
edge_itself x = rw (eq-eqb x.node x.node refl) ((booleans_Decides x.inverted x.inverted).1 refl)

-- pairs that test as the same are equal
pub same_pair_is : (p q : Pair) → same_pair p q ≡ true → p ≡ q
same_pair_is p q h =
    let parts = and_parts (same_edge p.first q.first) (same_edge p.second q.second) h in
    ap (λ (f : Edge). record { first = f; second = p.second }) (same_edge_is p.first q.first parts.0) ∙ ap (λ (s : Edge). record { first = q.first; second = s }) (same_edge_is p.second q.second parts.1)

pub pair_itself : (p : Pair) → same_pair p p ≡ true
pair_itself p = rw (edge_itself p.first) (edge_itself p.second)

-- what is promised of a success, where it is one
pub on_success : {T E : Type 0} (r : Result T E) (P : Type 0) → IsOk r → OnOk r P → P
on_success (Ok x) P is_ok p = p
on_success (Err e) P is_ok p = let wrong : false ≡ true = is_ok in absurd cc

-- an index is one by what it gives alone
pub IsIndex-same : (ns : List AigNode) (before after : Pair → Option ℕ) → ((p : Pair) → after p ≡ before p) → IsIndex ns before → IsIndex ns after
IsIndex-same ns before after same is = record {
  named = λ p k e. is.named p k (sym (same p) ∙ e);
  known = λ x y k e. same (record { first = x; second = y }) ∙ is.known x y k e;
}

-- there are at most as many inputs as nodes
pub inputs_of-le : (ns : List AigNode) → inputs_of ns ≤ length ns
inputs_of-le [] = omega arith
inputs_of-le (nodes.Constant ∷ ns) = omega (arith, inputs_of-le ns)
inputs_of-le (nodes.Input i ∷ ns) = omega (arith, inputs_of-le ns)
inputs_of-le (nodes.And x y ∷ ns) = omega (arith, inputs_of-le ns)

-- a circuit with a new input
pub IsKept-input : (old new : List AigNode) (count : ℕ) (before after : Pair → Option ℕ) → IsKept old count before → IsIndex old after → new ≡ old ++ nodes.Input count ∷ [] → length old + 1 < 2 ^ 64 → IsKept new (count + 1) after
IsKept-input old new count before after kept index is small =
    let fit : Fits old (length old) (nodes.Input count) = kept.counted ∙ ap inputs_of (sym (take_all (length old) old (omega arith))) in
    let grown : IsKept (old ++ nodes.Input count ∷ []) (count + 1) after = record {
      fits = AllFit-push old (nodes.Input count) kept.fits fit;
      counted = omega (arith, kept.counted, inputs_of-append old (nodes.Input count ∷ []));
      index = IsIndex-input old count after index;
      small = omega (arith, small, length-append old (nodes.Input count ∷ []));
    } in
    subst (λ (ns : List AigNode). IsKept ns (count + 1) after) (sym is) grown
