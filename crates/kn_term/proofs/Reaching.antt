-- How the places that roots reach are found, the greatest first.
use Rattle.std.proofs.Common.{◌≡◌, ℕ, zero, suc, ◌<◌, ◌≤◌, Bool, true, false, cond, List, [], ◌∷◌, ◌++◌, length, take, Some, refl, ap, sym, subst, ◌∙◌, inl, inr, arith}
use Rattle.std.specs.Prelude.{◌⊎◌, ◌↔◌, slice_get, nat_eq, IsTrue}
use Rattle.std.specs.List.{AllByRecursion, list_any}
use Rattle.std.specs.Ordering.{nat_cmp}
use Rattle.std.specs.BTreeMap.{is_at}
use Rattle.std.specs.BTreeSet.{BTreeSet, contains, Updates, IsUpperBound}
use Rattle.std.proofs.lemmas.Bool.{eqb-true, eq-eqb, cases_lt}
use Rattle.std.proofs.lemmas.Option.{slice_get_within}
use Rattle.std.proofs.lemmas.Map.Keys.{ge_from_not_lt}
use Rattle.std.specs.Cmp.{unsigned_tied}
use Rattle.kn_term.specs.declared.node.Node.{Node}
use Rattle.kn_term.specs.declared.node.Node.TheVariants.{Konst, Input, Apply, Ite}
use Rattle.kn_term.specs.declared.node.Ref.{Ref}
use Rattle.kn_term.specs.Nodes.{IsNodeAt, AreNodes}
use Rattle.kn_term.specs.Reached.{RootsStand, IsRootAt, IsOperand, IsReached, Root, Operand, IsAmong, AreRising, AreInOrder, IsIn}

empty_set : (places : BTreeSet ℕ) (k : ℕ) → places.keys ≡ [] → IsIn places k → ⊥
empty_set places k e is = let wrong : false ≡ true = sym (ap (list_any (is_at (nat_cmp k))) e) ∙ is in cc

-- a set without keys, as its length tells
pub none_left : (places : BTreeSet ℕ) → (0 < length places.keys → false ≡ true) → (k : ℕ) → IsIn places k → ⊥
none_left places v k is = by_keys places.keys refl where
  by_keys : (ks : List ℕ) → places.keys ≡ ks → ⊥
  by_keys [] e = empty_set places k e is
  by_keys (x ∷ xs) e =
      let more : 0 < length places.keys = omega (arith, ap length e) in
      let wrong : false ≡ true = v more in
      cc

index_is : (r : Ref) (k : ℕ) → Some r ≡ Some (record { index = k }) → k ≡ r.index
index_is r k e = let same : r ≡ record { index = k } = cc in sym (ap (λ (s : Ref). s.index) same)

updated : (old new : BTreeSet ℕ) (place : ℕ) (b : Bool) → Updates nat_cmp old new place b → (k : ℕ) → contains nat_cmp new k ≡ cond (nat_eq place k) b (contains nat_cmp old k)
updated old new place b up k = up.0 k ∙ ap (λ (c : Bool). cond c b (contains nat_cmp old k)) (unsigned_tied place k)

-- one more place
pub put_one : (old new : BTreeSet ℕ) (place : ℕ) → Updates nat_cmp old new place true → (k : ℕ) → IsIn new k ↔ ((k ≡ place) ⊎ IsIn old k)
put_one old new place up k = (from (nat_eq place k) refl, λ e. into (nat_eq place k) refl e) where
  there : (b : Bool) → nat_eq place k ≡ b → contains nat_cmp new k ≡ cond b true (contains nat_cmp old k)
  there b e = updated old new place true up k ∙ ap (λ (c : Bool). cond c true (contains nat_cmp old k)) e

  from : (b : Bool) → nat_eq place k ≡ b → IsIn new k → (k ≡ place) ⊎ IsIn old k
  from true e is = inl (sym (eqb-true place k e))
  from false e is = inr (sym (there false e) ∙ is)

  into : (b : Bool) → nat_eq place k ≡ b → (k ≡ place) ⊎ IsIn old k → IsIn new k
  into true e h = there true e
  into false e (inl same) = let wrong : false ≡ true = sym e ∙ eq-eqb place k (sym same) in absurd cc
  into false e (inr was) = there false e ∙ was

-- a list and one more root
root_push : (rs : List Ref) (r : Ref) (k : ℕ) → IsRootAt (rs ++ r ∷ []) k → (k ≡ r.index) ⊎ IsRootAt rs k
root_push [] r k (zero, e) = inl (index_is r k e)
root_push [] r k (suc i, e) = absurd cc
root_push (x ∷ rs) r k (zero, e) = inr (zero, e)
root_push (x ∷ rs) r k (suc i, e) = elim (root_push rs r k (i, e)) [ inl same ↦ inl same | inr was ↦ inr (suc was.0, was.1) ]

root_own : (rs : List Ref) (r : Ref) (k : ℕ) → k ≡ r.index → IsRootAt (rs ++ r ∷ []) k
root_own [] r k e = (zero, ap (λ (n : ℕ). Some (record r { index = n })) (sym e))
root_own (x ∷ rs) r k e = let there = root_own rs r k e in (suc there.0, there.1)

root_still : (rs : List Ref) (r : Ref) (k : ℕ) → IsRootAt rs k → IsRootAt (rs ++ r ∷ []) k
root_still [] r k (i, e) = absurd cc
root_still (x ∷ rs) r k (zero, e) = (zero, e)
root_still (x ∷ rs) r k (suc i, e) = let there = root_still rs r k (i, e) in (suc there.0, there.1)

-- the places of one more root
pub root_more : (old new : BTreeSet ℕ) (rs more : List Ref) (r : Ref) → ((k : ℕ) → IsIn old k ↔ IsRootAt rs k) → ((k : ℕ) → IsIn new k ↔ ((k ≡ r.index) ⊎ IsIn old k)) → more ≡ rs ++ r ∷ [] → (k : ℕ) → IsIn new k ↔ IsRootAt more k
root_more old new rs more r are puts e k = subst (λ (l : List Ref). IsIn new k ↔ IsRootAt l k) (sym e) (
  (λ is. elim ((puts k).0 is) [ inl same ↦ root_own rs r k same | inr was ↦ root_still rs r k ((are k).0 was) ]),
  (λ root. (puts k).1 (elim (root_push rs r k root) [ inl same ↦ inl same | inr was ↦ inr ((are k).1 was) ])),
)

pub no_roots : (places : BTreeSet ℕ) → places.keys ≡ [] → (k : ℕ) → IsIn places k ↔ IsRootAt [] k
no_roots places e k = (λ is. absurd (empty_set places k e is), λ root. absurd (none root.0 root.1)) where
  none : (i : ℕ) → slice_get {X = Ref} [] i ≡ Some (record { index = k }) → ⊥
  none i f = cc

-- the greatest place was taken out of a set
pub record IsTaken (old new : BTreeSet ℕ) (place : ℕ) : Type 0 where
  pub here : IsIn old place
  pub others : (k : ℕ) → IsIn old k → (k ≡ place) ⊎ IsIn new k
  pub below : (k : ℕ) → IsIn new k → IsIn old k × (k < place)

pub taken : (old new : BTreeSet ℕ) (place : ℕ) → IsTrue (contains nat_cmp old place) → IsUpperBound nat_cmp old place → Updates nat_cmp old new place false → IsTaken old new place
taken old new place here greatest up = record {
  here = here;
  others = λ k. other k (nat_eq place k) refl;
  below = λ k. less k (nat_eq place k) refl;
}
  where
    there : (k : ℕ) (b : Bool) → nat_eq place k ≡ b → contains nat_cmp new k ≡ cond b false (contains nat_cmp old k)
    there k b e = updated old new place false up k ∙ ap (λ (c : Bool). cond c false (contains nat_cmp old k)) e

    other : (k : ℕ) (b : Bool) → nat_eq place k ≡ b → IsIn old k → (k ≡ place) ⊎ IsIn new k
    other k true e is = inl (sym (eqb-true place k e))
    other k false e is = inr (there k false e ∙ is)

    less : (k : ℕ) (b : Bool) → nat_eq place k ≡ b → IsIn new k → IsIn old k × (k < place)
    less k true e is = let wrong : false ≡ true = sym (there k true e) ∙ is in absurd cc
    less k false e is =
        let was : IsIn old k = sym (there k false e) ∙ is in
        let most : k ≤ place = ge_from_not_lt place k (greatest k was) in
        elim (cases_lt k place) [
          | inl h ↦ (was, h)
          | inr h ↦
              let same : place ≡ k = omega (arith, most, h) in
              let wrong : false ≡ true = sym e ∙ eq-eqb place k same in
              absurd cc
        ]

-- the least place so far, or the length of the list
abbrev pub lowest : ℕ → List ℕ → ℕ
lowest count [] = count
lowest count (p ∷ ps) = p

-- places that were found, and others ahead, all below them
pub record Reaching (ns : List Node) (roots : List Ref) (found : List ℕ) (ahead : BTreeSet ℕ) : Type 0 where
  pub reached : (k : ℕ) → IsAmong found k → IsReached ns roots k
  pub coming : (k : ℕ) → IsIn ahead k → IsReached ns roots k
  pub named : (k : ℕ) → IsRootAt roots k → IsAmong found k ⊎ IsIn ahead k
  pub operands : (above k : ℕ) (n : Node) → IsAmong found above → slice_get ns above ≡ Some n → IsOperand n k → IsAmong found k ⊎ IsIn ahead k
  pub rising : AreRising found
  pub below : (k : ℕ) → IsIn ahead k → k < lowest (length ns) found

pub begun : (ns : List Node) (roots : List Ref) (ahead : BTreeSet ℕ) → RootsStand (length ns) roots → ((k : ℕ) → IsIn ahead k ↔ IsRootAt roots k) → Reaching ns roots [] ahead
begun ns roots ahead stand are = record {
  reached = λ k is. absurd is;
  coming = λ k is. Root k ((are k).0 is);
  named = λ k is. inr ((are k).1 is);
  operands = λ above k n is. absurd is;
  rising = tt;
  below = λ k is. let root = (are k).0 is in stand root.0 (record { index = k }) root.1;
}

pub operand_below : (n : Node) (place k : ℕ) → IsNodeAt place n → IsOperand n k → k < place
operand_below (Konst w) place k stands op = absurd op
operand_below (Input m j width) place k stands op = absurd op
operand_below (Apply o x y) place k stands op = elim op [ inl e ↦ omega (arith, e, stands.0) | inr e ↦ omega (arith, e, stands.1) ]
operand_below (Ite c x y) place k stands op = elim op [
  | inl e ↦ omega (arith, e, stands.0)
  | inr rest ↦ elim rest [ inl e ↦ omega (arith, e, stands.1) | inr e ↦ omega (arith, e, stands.2) ]
]

all_above : (low p : ℕ) (ps : List ℕ) → low < p → AllByRecursion (λ q. p < q) ps → AllByRecursion (λ q. low < q) ps
all_above low p [] h all = tt
all_above low p (q ∷ qs) h all = (omega (arith, h, all.0), all_above low p qs h all.1)

rising_more : (place count : ℕ) (ps : List ℕ) → place < lowest count ps → AreRising ps → AreRising (place ∷ ps)
rising_more place count [] h r = (tt, tt)
rising_more place count (p ∷ ps) h r = ((h, all_above place p ps h r.0), r)

-- the greatest place ahead is found
pub Reaching-more : (ns : List Node) (roots : List Ref) (found new : List ℕ) (ahead mid next : BTreeSet ℕ) (place : ℕ) (n : Node) → Reaching ns roots found ahead → IsTaken ahead mid place
    → ((k : ℕ) → IsIn next k ↔ (IsOperand n k ⊎ IsIn mid k)) → slice_get ns place ≡ Some n → IsNodeAt place n → new ≡ place ∷ found → Reaching ns roots new next
Reaching-more ns roots found new ahead mid next place n s t puts is stands e = subst (λ (l : List ℕ). Reaching ns roots l next) (sym e) (record {
  reached = λ k among. elim among [ inl same ↦ subst (IsReached ns roots) (sym same) (s.coming place t.here) | inr was ↦ s.reached k was ];
  coming = λ k in_it. elim ((puts k).0 in_it) [
    | inl op ↦ Operand k place n (s.coming place t.here) is op
    | inr was ↦ s.coming k (t.below k was).0
  ];
  named = λ k root. moved k (s.named k root);
  operands = λ above k m among at op. elim among [
    | inl same ↦
        let both : Some n ≡ Some m = sym is ∙ (ap (slice_get ns) (sym same) ∙ at) in
        let one : n ≡ m = cc in
        inr ((puts k).1 (inl (subst (λ (x : Node). IsOperand x k) (sym one) op)))
    | inr was ↦ moved k (s.operands above k m was at op)
  ];
  rising = rising_more place (length ns) found (s.below place t.here) s.rising;
  below = λ k in_it. elim ((puts k).0 in_it) [ inl op ↦ operand_below n place k stands op | inr was ↦ (t.below k was).1 ];
})
  where
    moved : (k : ℕ) → IsAmong found k ⊎ IsIn ahead k → IsAmong (place ∷ found) k ⊎ IsIn next k
    moved k (inl was) = inl (inr was)
    moved k (inr was) = elim (t.others k was) [ inl same ↦ inl (inl same) | inr still ↦ inr ((puts k).1 (inr still)) ]

complete : (ns : List Node) (roots : List Ref) (found : List ℕ) (ahead : BTreeSet ℕ) → Reaching ns roots found ahead → ((k : ℕ) → IsIn ahead k → ⊥) → (place : ℕ) → IsReached ns roots place → IsAmong found place
complete ns roots found ahead s none place (Root p is) = elim (s.named place is) [ inl among ↦ among | inr still ↦ absurd (none place still) ]
complete ns roots found ahead s none place (Operand p above n up is op) = elim (s.operands above place n (complete ns roots found ahead s none above up) is op) [ inl among ↦ among | inr still ↦ absurd (none place still) ]

-- nothing is ahead
pub all_reached : (ns : List Node) (roots : List Ref) (found : List ℕ) (ahead : BTreeSet ℕ) → Reaching ns roots found ahead → ((k : ℕ) → IsIn ahead k → ⊥) → (place : ℕ) → IsAmong found place ↔ IsReached ns roots place
all_reached ns roots found ahead s none place = (s.reached place, complete ns roots found ahead s none place)

-- what is reached stands in the list
pub reached_within : (ns : List Node) (roots : List Ref) (place : ℕ) → AreNodes ns → RootsStand (length ns) roots → IsReached ns roots place → place < length ns
reached_within ns roots place are stand (Root p is) = stand is.0 (record { index = place }) is.1
reached_within ns roots place are stand (Operand p above n up is op) =
    omega (arith, operand_below n above place (are above n is) op, slice_get_within ns above n is)

pub among_at : (ps : List ℕ) (i place : ℕ) → slice_get ps i ≡ Some place → IsAmong ps place
among_at [] i place e = absurd cc
among_at (p ∷ ps) zero place e = inl (cc)
among_at (p ∷ ps) (suc i) place e = inr (among_at ps i place e)

-- a place that is among others stands at one of their places
place_of : (ps : List ℕ) (k : ℕ) → IsAmong ps k → (i : ℕ) × (slice_get ps i ≡ Some k)
place_of [] k among = absurd among
place_of (p ∷ ps) k among = elim among [ inl e ↦ (zero, ap (λ (q : ℕ). Some q) (sym e)) | inr m ↦ let there = place_of ps k m in (suc there.0, there.1) ]

among_take : (ps : List ℕ) (i k : ℕ) → IsAmong (take i ps) k → IsAmong ps k
among_take ps zero k among = absurd among
among_take [] (suc i) k among = absurd among
among_take (p ∷ ps) (suc i) k among = elim among [ inl e ↦ inl e | inr m ↦ inr (among_take ps i k m) ]

-- places in order stand in the list
pub in_order_within : (ns : List Node) (ps : List ℕ) (i k : ℕ) → AreInOrder ns ps → IsAmong (take i ps) k → k < length ns
in_order_within ns ps i k order among = let there = place_of ps k (among_take ps i k among) in (order there.0 k there.1).0

-- a list and one more place
pub among_push : (ps : List ℕ) (place k : ℕ) → IsAmong (ps ++ place ∷ []) k → (k ≡ place) ⊎ IsAmong ps k
among_push [] place k among = elim among [ inl e ↦ inl e | inr none ↦ absurd none ]
among_push (p ∷ ps) place k among = elim among [
  | inl e ↦ inr (inl e)
  | inr rest ↦ elim (among_push ps place k rest) [ inl e ↦ inl e | inr was ↦ inr (inr was) ]
]

among_above : (p k : ℕ) (ps : List ℕ) → AllByRecursion (λ q. p < q) ps → IsAmong ps k → p < k
among_above p k [] all among = absurd among
among_above p k (q ∷ qs) all among = elim among [ inl e ↦ omega (arith, e, all.0) | inr m ↦ among_above p k qs all.1 m ]

-- what is below a place of a rising list comes before it
earlier : (ps : List ℕ) (i place k : ℕ) → AreRising ps → slice_get ps i ≡ Some place → IsAmong ps k → k < place → IsAmong (take i ps) k
earlier [] i place k r at among less = absurd among
earlier (p ∷ ps) zero place k r at among less =
    let same : p ≡ place = cc in
    elim among [ inl e ↦ absurd (omega (arith, e, same, less)) | inr m ↦ absurd (omega (arith, among_above p k ps r.0 m, same, less)) ]
earlier (p ∷ ps) (suc i) place k r at among less = elim among [ inl e ↦ inl e | inr m ↦ inr (earlier ps i place k r.1 at m less) ]

pub in_order : (ns : List Node) (roots : List Ref) (ps : List ℕ) → AreNodes ns → RootsStand (length ns) roots → AreRising ps → ((place : ℕ) → IsAmong ps place ↔ IsReached ns roots place) → AreInOrder ns ps
in_order ns roots ps are stand rising exact i place at =
    let up : IsReached ns roots place = (exact place).0 (among_at ps i place at) in (
      reached_within ns roots place are stand up,
      λ n is k op. earlier ps i place k rising at ((exact k).1 (Operand k place n up is op)) (operand_below n place k (are place n is) op),
    )
