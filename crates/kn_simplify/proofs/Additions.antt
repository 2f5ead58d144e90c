-- Words that are added one after the other, as one addition.
use Rattle.std.proofs.Common.{◌≡◌, ℕ, ◌+◌, ◌-◌, ◌<◌, ◌%◌, List, length, refl, sym, ap, subst, ◌∙◌, arith, inl, inr}
use Rattle.std.proofs.Math.Nat.{add-mod-mod, mod-add-mod}
use Rattle.kn_word.specs.declared.Op.{Op}
use Rattle.kn_word.specs.declared.Op.TheVariants as ops
use Rattle.kn_word.specs.Words.{val}
use Rattle.kn_built.specs.Built.{Extends}
use Rattle.kn_term.specs.declared.node.Node.{Node}
use Rattle.kn_term.specs.declared.node.Node.TheVariants.{Apply as ApplyNode}
use Rattle.kn_term.specs.declared.node.Ref.{Ref}
use Rattle.kn_term.specs.Nodes.{term_at, term_of, terms_of}
use Rattle.kn_term.proofs.Kept.{term_at-extends}
use Rattle.kn_term.specs.Terms.{Term, Word, Apply, Valuation, ev, Reads}
use Rattle.kn_simplify.specs.Folded.{IsFolded, HasFoldedOperands}
use Rattle.kn_simplify.specs.Simpler.{StandsFor}
use Rattle.kn_simplify.specs.declared.sums.Sum.{Sum}
use Rattle.kn_simplify.specs.Sums.{IsAdded, sum_term}

-- taking a word is adding what makes it 65,536
pub taken_as_added : (x w : ℕ) → x < 65536 → w < 65536 → val ops.Add x (val ops.Sub 0 w) ≡ val ops.Sub x w
taken_as_added x w h within =
    let same : x + (0 + 65536 - w) ≡ x + 65536 - w = omega (arith, within) in
    add-mod-mod x (0 + 65536 - w) 65536 ∙ ap (λ (n : ℕ). n % 65536) same

-- two words are added one after the other, or their sum at once
added_twice : (b j k : ℕ) → val ops.Add b (val ops.Add j k) ≡ val ops.Add (val ops.Add b j) k
added_twice b j k =
    let same : b + (j + k) ≡ b + j + k = omega arith in
    add-mod-mod b (j + k) 65536 ∙ ap (λ (n : ℕ). n % 65536) same ∙ sym (mod-add-mod (b + j) 65536 k)

-- a word is added to what a word was added to
pub sum_stands : (base z x y : Term) (inner op : Op) (j k : ℕ) → x ≡ Apply inner base z → IsAdded inner z j → IsAdded op y k → ((a : Valuation) → ev a base < 65536) → ((a : Valuation) → ev a x < 65536)
    → StandsFor (Apply ops.Add base (Word (val ops.Add j k))) (Apply op x y)
sum_stands base z x y inner op j k is first second below above = record {
  value = λ a.
      let under : val ops.Add (ev a base) j ≡ ev a x = first.value (ev a base) (below a) ∙ sym (ap (λ (t : Term). val inner (ev a base) (ev a t)) first.is) ∙ sym (ap (ev a) is) in
      let over : val ops.Add (ev a x) k ≡ val op (ev a x) (ev a y) = second.value (ev a x) (above a) ∙ sym (ap (λ (t : Term). val op (ev a x) (ev a t)) second.is) in
      added_twice (ev a base) j k ∙ ap (λ (v : ℕ). val ops.Add v k) under ∙ over;
  inputs = λ n i width r. elim r [
    | inl of ↦ inl (subst (Reads n i width) (sym is) (inl of))
    | inr none ↦ absurd none
  ];
}

-- what it is over is folded where all was
pub base_folded : (base z x y : Term) (inner op : Op) → x ≡ Apply inner base z → HasFoldedOperands (Apply op x y) → IsFolded base
base_folded base z x y inner op is are = (subst IsFolded is are.0).1

-- a sum is no word
pub sum_apart : (base z x y : Term) (inner op : Op) (k : ℕ) → x ≡ Apply inner base z → IsAdded op y k → x ≡ y → ⊥
sum_apart base z x y inner op k is added same =
    let wrong : Apply inner base z ≡ Word added.word = sym is ∙ same ∙ added.is in
    cc

-- the node of a sum, once its word is in the list
pub node_of_sum : (old new : List Node) (s : Sum) (word : Ref) → Extends old new → s.base.index < length old → term_at new word.index ≡ Word s.word
    → term_of (terms_of new) (ApplyNode ops.Add s.base word) ≡ sum_term old s
node_of_sum old new s word e h is =
    let base : term_at new s.base.index ≡ term_at old s.base.index = term_at-extends old new s.base.index e h in
    rw (base, is) refl
