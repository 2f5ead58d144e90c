-- What the places that roots reach read, and the widths of the inputs there.
use Rattle.std.proofs.Common.{◌≡◌, ℕ, zero, suc, ◌<◌, ◌≤◌, List, [], ◌∷◌, ◌++◌, length, get_or, Some, refl, sym, subst, ◌∙◌, arith, inl, inr}
use Rattle.std.specs.Prelude.{◌↔◌, slice_get}
use Rattle.std.proofs.lemmas.Bool.{cases_lt}
use Rattle.std.proofs.lemmas.Option.{slice_get-get_or, slice_get_within}
use Rattle.kn_term.specs.declared.node.Node.{Node}
use Rattle.kn_term.specs.declared.node.Node.TheVariants as nodes
use Rattle.kn_term.specs.declared.node.Ref.{Ref}
use Rattle.kn_term.specs.Terms.{Valuation, Reads, listed}
use Rattle.kn_term.specs.Nodes.{term_of, terms_of, term_at, IsNodeAt, AreNodes}
use Rattle.kn_term.proofs.Kept.{term_at-node}
use Rattle.kn_term.specs.Reached.{IsOperand, IsReached, Root, Operand, IsAmong}
use Rattle.kn_term.proofs.Reaching.{among_push}
use Rattle.kn_blast.specs.Reached.{RootsRead, IsWidened, AreWide, AreRead}

-- what an operand reads, the node's term reads
of_node : (ns : List Node) (n : Node) (m k width p : ℕ) → IsOperand n p → Reads m k width (term_at ns p) → Reads m k width (term_of (terms_of ns) n)
of_node ns (nodes.Konst w) m k width p op reads = absurd op
of_node ns (nodes.Input a b c) m k width p op reads = absurd op
of_node ns (nodes.Apply o x y) m k width p op reads = elim op [
  | inl e ↦ inl (subst (λ (q : ℕ). Reads m k width (term_at ns q)) e reads)
  | inr e ↦ inr (subst (λ (q : ℕ). Reads m k width (term_at ns q)) e reads)
]
of_node ns (nodes.Ite c x y) m k width p op reads = elim op [
  | inl e ↦ inl (subst (λ (q : ℕ). Reads m k width (term_at ns q)) e reads)
  | inr rest ↦ elim rest [
    | inl e ↦ inr (inl (subst (λ (q : ℕ). Reads m k width (term_at ns q)) e reads))
    | inr e ↦ inr (inr (subst (λ (q : ℕ). Reads m k width (term_at ns q)) e reads))
  ]
]

-- what the term at a place reads, one of the roots that reach it reads
pub reached_reads : (ns : List Node) (roots : List Ref) (place m k width : ℕ) → AreNodes ns → IsReached ns roots place → Reads m k width (term_at ns place) → RootsRead ns roots m k width
reached_reads ns roots place m k width are (Root p is) reads = (is.0, record { index = place }, is.1, reads)
reached_reads ns roots place m k width are (Operand p above n up is op) reads =
    let within = slice_get_within ns above n is in
    reached_reads ns roots above m k width are up (subst (Reads m k width) (sym (term_at-node ns above n within is (are above n is))) (of_node ns n m k width place op reads))

-- the widths at one more place
pub wide_more : (ns : List Node) (places more : List ℕ) (place : ℕ) (old new : Valuation) → more ≡ places ++ place ∷ [] → IsWidened ns place old new → AreWide ns places old → AreWide ns more new
wide_more ns places more place old new next w all p n k width among e = elim (among_push places place p (subst (λ (l : List ℕ). IsAmong l p) next among)) [
  | inl here ↦ w.covers n k width (subst (λ (q : ℕ). slice_get ns q ≡ Some (nodes.Input n k width)) here e)
  | inr before ↦ omega (arith, all p n k width before e, w.kept n k)
]

pub read_more : (ns : List Node) (places : List ℕ) (place : ℕ) (old new : Valuation) → IsAmong places place → IsWidened ns place old new → AreRead ns places old → AreRead ns places new
read_more ns places place old new among w all n k h = elim (w.read n k) [
  | inl same ↦ subst (λ (v : ℕ). (p : ℕ) × IsAmong places p × (slice_get ns p ≡ Some (nodes.Input n k v))) (sym same) (all n k (omega (arith, h, same)))
  | inr here ↦ (place, among, here)
]

-- each width that is read at a place is among the widths
input_wide : (ns : List Node) (roots : List Ref) (places : List ℕ) (a : Valuation) → AreNodes ns → ((place : ℕ) → IsAmong places place ↔ IsReached ns roots place) → AreWide ns places a
    → (count place : ℕ) → place < count → place < length ns → IsReached ns roots place → (n k width : ℕ) → Reads n k width (term_at ns place) → width ≤ listed a n k
input_wide ns roots places a are exact wide zero place h within up n k width reads = absurd (omega (arith, h))
input_wide ns roots places a are exact wide (suc count) place h within up n k width reads =
    let node = get_or ns place (nodes.Konst 0) in
    let is : slice_get ns place ≡ Some node = slice_get-get_or ns place (nodes.Konst 0) within in
    let stands : IsNodeAt place node = are place node is in
    by_node node is stands (subst (Reads n k width) (term_at-node ns place node within is stands) reads) (λ p op below. input_wide ns roots places a are exact wide count p (omega (arith, h, below)) (omega (arith, within, below)) (Operand p place node up is op) n k width)
  where
    by_node : (node : Node) → slice_get ns place ≡ Some node → IsNodeAt place node → Reads n k width (term_of (terms_of ns) node)
        → ((p : ℕ) → IsOperand node p → p < place → Reads n k width (term_at ns p) → width ≤ listed a n k) → width ≤ listed a n k
    by_node (nodes.Konst w) is stands reads each = absurd reads
    by_node (nodes.Input m j bits) is stands reads each =
        let here : slice_get ns place ≡ Some (nodes.Input n k width) = is ∙ sym (same m j bits n k width reads.0 reads.1 reads.2) in
        wide place n k width ((exact place).1 up) here
      where
        same : (m j bits n k width : ℕ) → n ≡ m → k ≡ j → width ≡ bits → Some (nodes.Input n k width) ≡ Some (nodes.Input m j bits)
        same m j bits n k width e f g = rw (e, f, g) refl
    by_node (nodes.Apply o x y) is stands reads each = elim reads [
      | inl r ↦ each x.index (inl refl) stands.0 r
      | inr r ↦ each y.index (inr refl) stands.1 r
    ]
    by_node (nodes.Ite c x y) is stands reads each = elim reads [
      | inl r ↦ each c.index (inl refl) stands.0 r
      | inr rest ↦ elim rest [
        | inl r ↦ each x.index (inr (inl refl)) stands.1 r
        | inr r ↦ each y.index (inr (inr refl)) stands.2 r
      ]
    ]

pub all_wide : (ns : List Node) (roots : List Ref) (places : List ℕ) (a : Valuation) → AreNodes ns → ((place : ℕ) → IsAmong places place ↔ IsReached ns roots place) → AreWide ns places a
    → (place : ℕ) → place < length ns → IsReached ns roots place → (n k width : ℕ) → Reads n k width (term_at ns place) → width ≤ listed a n k
all_wide ns roots places a are exact wide place within up n k width reads = input_wide ns roots places a are exact wide (suc place) place (omega arith) within up n k width reads

-- the width of an input is one with which a root reads it
pub width_read : (ns : List Node) (roots : List Ref) (places : List ℕ) (a : Valuation) → AreNodes ns → ((place : ℕ) → IsAmong places place ↔ IsReached ns roots place) → AreRead ns places a → (n k : ℕ) → 0 < listed a n k → RootsRead ns roots n k (listed a n k)
width_read ns roots places a are exact read n k h =
    let found = read n k h in
    let place : ℕ = found.0 in
    let is : slice_get ns place ≡ Some (nodes.Input n k (listed a n k)) = found.2 in
    let within : place < length ns = slice_get_within ns place (nodes.Input n k (listed a n k)) is in
    reached_reads ns roots place n k (listed a n k) are ((exact place).0 found.1) (subst (Reads n k (listed a n k)) (sym (term_at-node ns place (nodes.Input n k (listed a n k)) within is (are place _ is))) (refl, refl, refl))

-- no width is above 16
pub width_narrow : (ns : List Node) (places : List ℕ) (a : Valuation) → AreNodes ns → AreRead ns places a → (n k : ℕ) → listed a n k ≤ 16
width_narrow ns places a are read n k = elim (cases_lt 0 (listed a n k)) [
  | inl h ↦ let found = read n k h in let stands : IsNodeAt found.0 (nodes.Input n k (listed a n k)) = are found.0 (nodes.Input n k (listed a n k)) found.2 in stands.1
  | inr h ↦ omega (arith, h)
]
