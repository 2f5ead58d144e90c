-- Terms in which no constant is left to fold.
use Rattle.std.proofs.Common.{◌≡◌, ℕ, ◌+◌, ◌<◌, Bool, true, false, cond, List, [], ◌∷◌, ◌++◌, length, take, get_or, Option, Some, None, MatchOption, refl, sym, ap, subst, ◌∙◌, arith, inl, inr}
use Rattle.std.specs.Prelude.{◌⊎◌, slice_get, nat_eq}
use Rattle.std.specs.HashMap.{HashMap, get}
use Rattle.std.proofs.lemmas.List.{get_or_append_left}
use Rattle.std.proofs.lemmas.Option.{slice_get_read, slice_get-get_or, get_or_from_slice_get}
use Rattle.kn_built.specs.Built.{Extends}
use Rattle.kn_built.proofs.BuiltLaws.{length-extends}
use Rattle.kn_word.specs.declared.Op.{Op}
use Rattle.kn_term.specs.declared.node.Node.{Node}
use Rattle.kn_term.specs.declared.node.Node.TheVariants as nodes
use Rattle.kn_term.specs.declared.node.Ref.{Ref}
use Rattle.kn_term.specs.Nodes.{term_at, term_of, terms_of}
use Rattle.kn_term.specs.Reached.{IsAmong, AreInOrder}
use Rattle.kn_term.proofs.Reaching.{among_push, in_order_within}
use Rattle.kn_term.proofs.Kept.{term_at-extends}
use Rattle.kn_simplify.specs.Simpler.{AreSimpler, simpler_in}
use Rattle.kn_simplify.proofs.Simpler.{at_place}
use Rattle.kn_term.specs.Terms.{Term, Word, Input, Apply, Choice}
use Rattle.kn_simplify.specs.Laws.{IsUnknown, MayBeNeeded}
use Rattle.kn_simplify.specs.Folded.{IsWord, is_idle_twice, IsNeeded, IsFoldedTop, IsFolded, HasFoldedOperands, IsFoldedFor, HasFoldedFor, AreFolded}

-- folded at the top, and below
pub folded_of : (t : Term) → IsFoldedTop t → HasFoldedOperands t → IsFolded t
folded_of (Word w) top below = tt
folded_of (Input n k width) top below = tt
folded_of (Apply op x y) top below = (top, below.0, below.1)
folded_of (Choice c x y) top below = (top, below.0, below.1, below.2)

-- an operand that is not known to be a word is none
unknown : (o : Option ℕ) (t : Term) → MatchOption o (IsWord t → ⊥) (λ w. t ≡ Word w) → IsUnknown o → IsWord t → ⊥
unknown None t is h w = is w
unknown (Some v) t is h w = h

-- an operand that is a word is known
known : (o : Option ℕ) (t : Term) (w : ℕ) → MatchOption o (IsWord t → ⊥) (λ v. t ≡ Word v) → t ≡ Word w → o ≡ Some w
known None t w is e = absurd (is (subst IsWord (sym e) tt))
known (Some v) t w is e =
    let same : v ≡ w = cc in
    ap (λ (n : ℕ). Some n) same

-- an operator that no law does away with
pub top_needed : (op : Op) (left right : Option ℕ) (same : Bool) (s t : Term) → MatchOption left (IsWord s → ⊥) (λ w. s ≡ Word w) → MatchOption right (IsWord t → ⊥) (λ w. t ≡ Word w)
    → MayBeNeeded op left right same → IsNeeded op s t
top_needed op left right same s t a b needed = record {
  words = both needed.words;
  left = λ w e. needed.left w (known left s w a e);
  right = λ w e. needed.right w (known right t w b e);
}
  where
    both : IsUnknown left ⊎ IsUnknown right → IsWord s → IsWord t → ⊥
    both (inl h) v w = unknown left s a h v
    both (inr h) v w = unknown right t b h w

-- one term on both sides of which not both are known is not known
both_unknown : (left right : Option ℕ) (t : Term) → MatchOption left (IsWord t → ⊥) (λ w. t ≡ Word w) → MatchOption right (IsWord t → ⊥) (λ w. t ≡ Word w) → IsUnknown left ⊎ IsUnknown right
    → IsUnknown left × IsUnknown right
both_unknown None None t a b h = (tt, tt)
both_unknown None (Some w) t a b h = absurd (a (subst IsWord (sym b) tt))
both_unknown (Some v) None t a b h = absurd (b (subst IsWord (sym a) tt))
both_unknown (Some v) (Some w) t a b (inl h) = absurd h
both_unknown (Some v) (Some w) t a b (inr h) = absurd h

-- an operator that is idle with one term on both sides is not left
pub none_idle : (op : Op) (left right : Option ℕ) (same : Bool) (s t : Term) → s ≡ t → MatchOption left (IsWord s → ⊥) (λ w. s ≡ Word w) → MatchOption right (IsWord t → ⊥) (λ w. t ≡ Word w)
    → MayBeNeeded op left right same → same ≡ true → is_idle_twice op ≡ true → ⊥
none_idle op left right same s t e a b needed is idle =
    let as_s : MatchOption right (IsWord s → ⊥) (λ w. s ≡ Word w) = subst (λ (u : Term). MatchOption right (IsWord u → ⊥) (λ w. u ≡ Word w)) (sym e) b in
    let h = both_unknown left right s a as_s needed.words in
    let clash : true ≡ false = sym idle ∙ needed.twice is h.0 h.1 in
    cc

named_folded_by : (ns : List Node) (r s : Ref) → r ≡ s → IsFolded (term_at ns s.index) → IsFolded (term_at ns r.index)
named_folded_by ns r s e h = subst (λ (t : Ref). IsFolded (term_at ns t.index)) (sym e) h

named_folded : (ns : List Node) (to : ℕ → Ref) (place : ℕ) (r : Ref) → r ≡ to place → IsFoldedFor ns to place → IsFolded (term_at ns r.index)
named_folded ns to place r e h = named_folded_by ns r (to place) e h

-- a node over what stands for its operands, all of it folded
pub operator_folded : (ns : List Node) (to : ℕ → Ref) (op : Op) (x y s t : Ref) (n : Node) → n ≡ nodes.Apply op x y → s ≡ to x.index → t ≡ to y.index → HasFoldedFor ns to n → HasFoldedOperands (term_of (terms_of ns) (nodes.Apply op s t))
operator_folded ns to op x y s t n e f g are =
    let each : HasFoldedFor ns to (nodes.Apply op x y) = subst (HasFoldedFor ns to) e are in
    (named_folded ns to x.index s f (each x.index (inl refl)), named_folded ns to y.index t g (each y.index (inr refl)))

pub choice_folded : (ns : List Node) (to : ℕ → Ref) (c x y r s t : Ref) (n : Node) → n ≡ nodes.Ite c x y → r ≡ to c.index → s ≡ to x.index → t ≡ to y.index → HasFoldedFor ns to n → HasFoldedOperands (term_of (terms_of ns) (nodes.Ite r s t))
choice_folded ns to c x y r s t n e d f g are =
    let each : HasFoldedFor ns to (nodes.Ite c x y) = subst (HasFoldedFor ns to) e are in
    (named_folded ns to c.index r d (each c.index (inl refl)), named_folded ns to x.index s f (each x.index (inr (inl refl))), named_folded ns to y.index t g (each y.index (inr (inr refl))))

-- one more place, after more nodes
pub AreFolded-step : {S : Type 0} → (first old new : List Node) (needed : List ℕ) (i : ℕ) (table more : HashMap ℕ Ref S) (place : ℕ) (r : Ref) → AreInOrder first needed → AreSimpler old (length first) (simpler_in table) → AreFolded old (simpler_in table) (take i needed) → Extends old new
    → ((k : ℕ) → get nat_eq more k ≡ cond (nat_eq place k) (Some r) (get nat_eq table k)) → take (i + 1) needed ≡ take i needed ++ place ∷ [] → IsFolded (term_at new r.index) → AreFolded new (simpler_in more) (take (i + 1) needed)
AreFolded-step first old new needed i table more place r order are folded e up next one k among = elim (at_place table more place r up k) [
  | inl here ↦ named_folded_by new (simpler_in more k) r here.1 one
  | inr other ↦ named_folded_by new (simpler_in more k) (simpler_in table k) other.1 (elim (among_push (take i needed) place k (subst (λ (l : List ℕ). IsAmong l k) next among)) [
    | inl same ↦ absurd (other.0 same)
    | inr was ↦ subst IsFolded (sym (term_at-extends old new (simpler_in table k).index e (are k (in_order_within first needed i k order was)).stands)) (folded k was)
  ])
]

-- the operands of a node that is needed have folded terms standing for them
pub at_needed : (first old new : List Node) (to : ℕ → Ref) (needed : List ℕ) (i place : ℕ) (r : Ref) → AreInOrder first needed → slice_get needed i ≡ Some place → Extends first old → AreFolded old to (take i needed)
    → ((n : Node) → slice_get old place ≡ Some n → HasFoldedFor old to n → IsFolded (term_at new r.index)) → IsFolded (term_at new r.index)
at_needed first old new to needed i place r order at e folded one =
    let here = order i place at in
    let n = get_or first place (nodes.Konst 0) in
    let there : slice_get first place ≡ Some n = slice_get-get_or first place (nodes.Konst 0) here.0 in
    let longer : place < length old = omega (arith, here.0, length-extends first old e) in
    let same : n ≡ get_or old place n = sym (ap (λ (ns : List Node). get_or ns place n) e.1 ∙ (get_or_append_left first e.0 n place here.0 ∙ get_or_from_slice_get first place n n there)) in
    one n (slice_get_read old (length old) place n refl longer same) (λ k op. folded k (here.1 n there k op))
