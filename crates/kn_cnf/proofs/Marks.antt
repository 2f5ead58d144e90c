-- Marking from the root down.
use Rattle.std.proofs.Common.{◌≡◌, ◌≢◌, ℕ, zero, suc, ◌+◌, ◌<◌, ◌≤◌, Bool, true, false, List, [], ◌∷◌, ◌++◌, length, get_or, set, replicate, refl, ap, sym, subst, ◌∙◌, inl, inr, arith, length-set}
use Rattle.std.proofs.lemmas.List.{get_or-set_same, get_or-set_other, length-replicate}
use Rattle.std.specs.Prelude.{slice_get, Some, ◌⊎◌}
use Rattle.std.proofs.lemmas.Bool.{cases_eq}
use Rattle.std.proofs.lemmas.Option.{slice_get_within}
use Rattle.kn_aig.specs.declared.gates.Edge.{Edge}
use Rattle.kn_aig.specs.declared.gates.AigNode.{AigNode}
use Rattle.kn_aig.specs.declared.gates.AigNode.TheVariants as nodes
use Rattle.kn_cnf.specs.Encoding.{IsChild, IsWay, IsUnder, mark, AreMarked}

-- the marks when the nodes from a place up are done
pub record MarkedDown (ns : List AigNode) (root : ℕ) (place : ℕ) (marks : List Bool) : Type 0 where
  pub long : length marks ≡ length ns
  pub bound : place ≤ length ns
  pub top : mark marks root ≡ true
  pub closed : (k : ℕ) (x y : Edge) → place ≤ k → mark marks k ≡ true → slice_get ns k ≡ Some (nodes.And x y) → (mark marks x.node ≡ true) × (mark marks y.node ≡ true)
  pub only : (k : ℕ) → mark marks k ≡ true → IsUnder ns root k

pub some_is : {X : Type 0} (x y : X) → Some x ≡ Some y → x ≡ y
some_is x y e = cc

-- one step further down
pub under_child : (ns : List AigNode) (root k m : ℕ) → IsUnder ns root k → IsChild ns k m → IsUnder ns root m
under_child ns root k m under child = (under.0 ++ m ∷ [], go root under.0 under.1)
  where
    go : (r : ℕ) (way : List ℕ) → IsWay ns r way k → IsWay ns r (way ++ m ∷ []) m
    go r [] e = (subst (λ (j : ℕ). IsChild ns j m) (sym e) child, refl)
    go r (j ∷ way) w = (w.0, go j way w.1)

mark_set : (marks : List Bool) (i k : ℕ) → mark marks k ≡ true → mark (set marks i true) k ≡ true
mark_set marks i k m = elim (cases_eq k i) [
  | inl e ↦ subst (λ (j : ℕ). mark (set marks i true) j ≡ true) (sym e) (get_or-set_same marks i true false (marked_within marks i (ap (mark marks) (sym e) ∙ m)))
  | inr n ↦ let ne : k ≢ i = n in get_or-set_other marks i k true false ne ∙ m
]
  where
    marked_within : (ms : List Bool) (j : ℕ) → mark ms j ≡ true → j < length ms
    marked_within [] j e = absurd cc
    marked_within (b ∷ ms) zero e = omega arith
    marked_within (b ∷ ms) (suc j) e = omega (arith, marked_within ms j e)

mark_here : (marks : List Bool) (i : ℕ) → i < length marks → mark (set marks i true) i ≡ true
mark_here marks i inside = get_or-set_same marks i true false inside

mark_was : (marks : List Bool) (i k : ℕ) → i < length marks → mark (set marks i true) k ≡ true → (k ≡ i) ⊎ (mark marks k ≡ true)
mark_was marks i k inside m = elim (cases_eq k i) [
  | inl e ↦ inl e
  | inr n ↦ let ne : k ≢ i = n in inr (sym (get_or-set_other marks i k true false ne) ∙ m)
]

-- no place but the root is marked at first
pub marked_first : (n root k : ℕ) → mark (set (replicate n false) root true) k ≡ true → root < n → k ≡ root
marked_first n root k m inside =
    elim (mark_was (replicate n false) root k (omega (arith, inside, length-replicate n false)) m) [
      | inl e ↦ e
      | inr h ↦ let no : mark (replicate n false) k ≡ false = none n k in let wrong : true ≡ false = sym h ∙ no in absurd cc
    ]
  where
    none : (n k : ℕ) → mark (replicate n false) k ≡ false
    none zero k = refl
    none (suc n) zero = refl
    none (suc n) (suc k) = none n k

-- a gate marks its children
pub marked_gate : (ns : List AigNode) (root place p : ℕ) (marks : List Bool) (x y : Edge) → p + 1 ≡ place → MarkedDown ns root place marks → mark marks p ≡ true → slice_get ns p ≡ Some (nodes.And x y) → x.node < y.node → y.node < p
    → MarkedDown ns root p (set (set marks x.node true) y.node true)
marked_gate ns root place p marks x y e down here at xy yp =
    let inside : p < length ns = slice_get_within ns p _ at in
    let inx : x.node < length marks = omega (arith, down.long) in
    let first = set marks x.node true in
    let iny : y.node < length first = omega (arith, down.long, length-set marks x.node true) in
    let keep : (k : ℕ) → mark marks k ≡ true → mark (set first y.node true) k ≡ true = λ k m. mark_set first y.node k (mark_set marks x.node k m) in
    let mx : mark (set first y.node true) x.node ≡ true = mark_set first y.node x.node (mark_here marks x.node inx) in
    let my : mark (set first y.node true) y.node ≡ true = mark_here first y.node iny in
    let was : (k : ℕ) → mark (set first y.node true) k ≡ true → (k ≡ y.node) ⊎ ((k ≡ x.node) ⊎ (mark marks k ≡ true)) = λ k m. elim (mark_was first y.node k iny m) [
      | inl e ↦ inl e
      | inr h ↦ inr (mark_was marks x.node k inx h)
    ] in
    record {
      long = omega (arith, down.long, length-set marks x.node true, length-set first y.node true);
      bound = omega (arith, down.bound, e);
      top = keep root down.top;
      closed = λ k a b low m ns_k. elim (was k m) [
        | inl e ↦ absurd (omega (arith, e, low, yp))
        | inr h ↦ elim h [
          | inl e ↦ absurd (omega (arith, e, low, xy, yp))
          | inr old ↦ elim (cases_eq k p) [
            | inl kp ↦
                let same : nodes.And x y ≡ nodes.And a b = some_is (nodes.And x y) (nodes.And a b) (sym at ∙ (ap (slice_get ns) (sym kp) ∙ ns_k)) in
                let xa : x ≡ a = cc in
                let yb : y ≡ b = cc in
                (ap (λ (z : Edge). mark (set first y.node true) z.node) (sym xa) ∙ mx, ap (λ (z : Edge). mark (set first y.node true) z.node) (sym yb) ∙ my)
            | inr n ↦
                let above : place ≤ k = omega (arith, n, low, e) in
                let both = down.closed k a b above old ns_k in
                (keep a.node both.0, keep b.node both.1)
          ]
        ]
      ];
      only = λ k m. elim (was k m) [
        | inl e ↦ subst (IsUnder ns root) (sym e) (under_child ns root p y.node (down.only p here) (x, y, at, inr refl))
        | inr h ↦ elim h [
          | inl e ↦ subst (IsUnder ns root) (sym e) (under_child ns root p x.node (down.only p here) (x, y, at, inl refl))
          | inr old ↦ down.only k old
        ]
      ];
    }

-- another node, or one without a mark, marks nothing
pub marked_other : (ns : List AigNode) (root place p : ℕ) (marks : List Bool) → p + 1 ≡ place → MarkedDown ns root place marks → ((x y : Edge) → mark marks p ≡ true → slice_get ns p ≡ Some (nodes.And x y) → ⊥) → MarkedDown ns root p marks
marked_other ns root place p marks e down none = record {
  long = down.long;
  bound = omega (arith, down.bound, e);
  top = down.top;
  closed = λ k x y low m at. elim (cases_eq k p) [
    | inl kp ↦ absurd (none x y (ap (mark marks) (sym kp) ∙ m) (ap (slice_get ns) (sym kp) ∙ at))
    | inr n ↦ down.closed k x y (omega (arith, n, low, e)) m at
  ];
  only = down.only;
}

pub marked_done : (ns : List AigNode) (root : ℕ) (marks : List Bool) → MarkedDown ns root 0 marks → AreMarked ns root marks
marked_done ns root marks down = record { long = down.long; top = down.top; closed = λ k x y m at. down.closed k x y (omega arith) m at; only = down.only }

pub marked_start : (ns : List AigNode) (root n : ℕ) → n ≡ length ns → root < n → MarkedDown ns root n (set (replicate n false) root true)
marked_start ns root n count inside = record {
  long = omega (arith, count, length-set (replicate n false) root true, length-replicate n false);
  bound = omega (arith, count);
  top = mark_here (replicate n false) root (omega (arith, inside, length-replicate n false));
  closed = λ k x y low m at. absurd (omega (arith, slice_get_within ns k _ at, low, count));
  only = λ k m. ([], sym (marked_first n root k m inside));
}

-- a value read within a list is the value there
pub mark_read : (marks : List Bool) (i : ℕ) (b : Bool) → i < length marks → b ≡ get_or marks i b → b ≡ true → mark marks i ≡ true
mark_read [] i b inside is yes_it = absurd (omega arith)
mark_read (m ∷ ms) zero b inside is yes_it = sym is ∙ yes_it
mark_read (m ∷ ms) (suc i) b inside is yes_it = mark_read ms i b (omega arith) is yes_it

-- what is read within a list is the mark
pub mark_is : (marks : List Bool) (i : ℕ) (b : Bool) → i < length marks → b ≡ get_or marks i b → b ≡ mark marks i
mark_is [] i b inside is = absurd (omega arith)
mark_is (m ∷ ms) zero b inside is = is
mark_is (m ∷ ms) (suc i) b inside is = mark_is ms i b (omega arith) is
