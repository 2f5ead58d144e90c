-- Terms that may stand for others, and tables of them.
use Rattle.std.proofs.Common.{◌≡◌, ℕ, ◌<◌, ◌≤◌, Bool, true, false, cond, List, length, Some, refl, sym, ap, subst, ◌∙◌, arith, inl, inr}
use Rattle.std.specs.Prelude.{◌⊎◌, Option, Result, Ok, Err, IfOk, nat_eq, unwrap_or}
use Rattle.std.specs.Map.{lookup}
use Rattle.std.specs.HashMap.{HashMap, get, IsEmpty}
use Rattle.std.proofs.lemmas.Bool.{eqb-true, eq-eqb}
use Rattle.kn_built.specs.Built.{Extends}
use Rattle.kn_word.specs.declared.Op.{Op}
use Rattle.kn_term.specs.declared.node.Node.{Node}
use Rattle.kn_term.specs.declared.node.Node.TheVariants.{Konst, Input, Apply as ApplyNode, Ite}
use Rattle.kn_term.specs.declared.node.Ref.{Ref}
use Rattle.kn_term.specs.Terms.{Term, Apply, Choice, ev, Reads}
use Rattle.kn_term.specs.Nodes.{term_at, term_of, terms_of, IsNodeAt}
use Rattle.kn_term.proofs.Kept.{term_at-extends, nodes-extends}
use Rattle.kn_simplify.specs.Simpler.{StandsFor, IsSimpler, AreSimpler, simpler_in}

-- a term may stand for itself
pub for_same : (s t : Term) → s ≡ t → StandsFor s t
for_same s t e = record {
  value = λ a. ap (ev a) e;
  inputs = λ n k width r. subst (Reads n k width) e r;
}

pub for_twice : (s t u : Term) → StandsFor s t → StandsFor t u → StandsFor s u
for_twice s t u p q = record {
  value = λ a. p.value a ∙ q.value a;
  inputs = λ n k width r. q.inputs n k width (p.inputs n k width r);
}

either : {A B C D : Type 0} → (A → C) → (B → D) → A ⊎ B → C ⊎ D
either f g (inl a) = inl (f a)
either f g (inr b) = inr (g b)

-- operands may be replaced
pub for_operator : (op : Op) (x y s t : Term) → StandsFor x s → StandsFor y t → StandsFor (Apply op x y) (Apply op s t)
for_operator op x y s t p q = record {
  value = λ a. rw (p.value a, q.value a) refl;
  inputs = λ n k width. either (p.inputs n k width) (q.inputs n k width);
}

pub for_choice : (c x y d s t : Term) → StandsFor c d → StandsFor x s → StandsFor y t → StandsFor (Choice c x y) (Choice d s t)
for_choice c x y d s t o p q = record {
  value = λ a. rw (o.value a, p.value a, q.value a) refl;
  inputs = λ n k width. either (o.inputs n k width) (either (p.inputs n k width) (q.inputs n k width));
}

-- later nodes change nothing
pub IsSimpler-extends : (old new : List Node) (place : ℕ) (r : Ref) → Extends old new → place < length old → IsSimpler old place r → IsSimpler new place r
IsSimpler-extends old new place r e h is = record {
  stands = omega (arith, nodes-extends old new e, is.stands);
  term = for_twice _ _ _ (for_same _ _ (term_at-extends old new r.index e is.stands)) (for_twice _ _ _ is.term (for_same _ _ (sym (term_at-extends old new place e h))));
}

-- each place stands for itself where a table has nothing
pub AreSimpler-none : {S : Type 0} → (ns : List Node) (table : HashMap ℕ Ref S) → IsEmpty table → AreSimpler ns (length ns) (simpler_in table)
AreSimpler-none ns table none place h =
    let same : simpler_in table place ≡ record { index = place } = ap (λ (es : List (ℕ × Ref)). unwrap_or (lookup (nat_eq place) es) (record { index = place })) none in
    subst (IsSimpler ns place) (sym same) (record { stands = h; term = for_same _ _ refl })

pub AreSimpler-extends : (old new : List Node) (count : ℕ) (to : ℕ → Ref) → Extends old new → count ≤ length old → AreSimpler old count to → AreSimpler new count to
AreSimpler-extends old new count to e h are place within = IsSimpler-extends old new place (to place) e (omega (arith, h, within)) (are place within)

-- a place has something else in a table from now on
pub at_place : {S : Type 0} → (old new : HashMap ℕ Ref S) (place : ℕ) (r : Ref) → ((k : ℕ) → get nat_eq new k ≡ cond (nat_eq place k) (Some r) (get nat_eq old k)) → (k : ℕ) → ((k ≡ place) × (simpler_in new k ≡ r)) ⊎ ((k ≡ place → ⊥) × (simpler_in new k ≡ simpler_in old k))
at_place old new place r up k = go (nat_eq place k) refl where
  there : (b : Bool) → nat_eq place k ≡ b → simpler_in new k ≡ unwrap_or (cond b (Some r) (get nat_eq old k)) (record { index = k })
  there b e = ap (λ (o : Option Ref). unwrap_or o (record { index = k })) (up k ∙ ap (λ (c : Bool). cond c (Some r) (get nat_eq old k)) e)

  go : (b : Bool) → nat_eq place k ≡ b → ((k ≡ place) × (simpler_in new k ≡ r)) ⊎ ((k ≡ place → ⊥) × (simpler_in new k ≡ simpler_in old k))
  go true e = inl (sym (eqb-true place k e), there true e)
  go false e = inr ((λ same. let wrong : false ≡ true = sym e ∙ eq-eqb place k (sym same) in absurd cc), there false e)

-- one more place, after more nodes
pub AreSimpler-step : {S : Type 0} → (first old new : List Node) (table more : HashMap ℕ Ref S) (place : ℕ) (r : Ref) → AreSimpler old (length first) (simpler_in table) → Extends first old → Extends old new → IsSimpler new place r
    → ((k : ℕ) → get nat_eq more k ≡ cond (nat_eq place k) (Some r) (get nat_eq table k)) → AreSimpler new (length first) (simpler_in more)
AreSimpler-step first old new table more place r are e f one up k h = elim (at_place table more place r up k) [
  | inl here ↦ subst (IsSimpler new k) (sym here.1) (subst (λ (j : ℕ). IsSimpler new j r) (sym here.0) one)
  | inr other ↦ subst (IsSimpler new k) (sym other.1) (AreSimpler-extends old new (length first) (simpler_in table) f (nodes-extends first old e) are k h)
]

-- a node over what may stand for its operands
pub operator_over : (ns : List Node) (place : ℕ) (to : ℕ → Ref) (op : Op) (x y s t : Ref) (n : Node) → n ≡ ApplyNode op x y → s ≡ to x.index → t ≡ to y.index → IsNodeAt place n → AreSimpler ns place to
    → IsNodeAt (length ns) (ApplyNode op s t) × StandsFor (term_of (terms_of ns) (ApplyNode op s t)) (term_of (terms_of ns) n)
operator_over ns place to op x y s t n e f g h are =
    let inside : (x.index < place) × (y.index < place) = subst (IsNodeAt place) e h in
    let p : IsSimpler ns x.index s = subst (IsSimpler ns x.index) (sym f) (are x.index inside.0) in
    let q : IsSimpler ns y.index t = subst (IsSimpler ns y.index) (sym g) (are y.index inside.1) in
    ((p.stands, q.stands), for_twice _ _ _ (for_operator op _ _ _ _ p.term q.term) (for_same _ _ (sym (ap (term_of (terms_of ns)) e))))

pub choice_over : (ns : List Node) (place : ℕ) (to : ℕ → Ref) (c x y r s t : Ref) (n : Node) → n ≡ Ite c x y → r ≡ to c.index → s ≡ to x.index → t ≡ to y.index → IsNodeAt place n → AreSimpler ns place to
    → IsNodeAt (length ns) (Ite r s t) × StandsFor (term_of (terms_of ns) (Ite r s t)) (term_of (terms_of ns) n)
choice_over ns place to c x y r s t n e d f g h are =
    let inside : (c.index < place) × (x.index < place) × (y.index < place) = subst (IsNodeAt place) e h in
    let o : IsSimpler ns c.index r = subst (IsSimpler ns c.index) (sym d) (are c.index inside.0) in
    let p : IsSimpler ns x.index s = subst (IsSimpler ns x.index) (sym f) (are x.index inside.1) in
    let q : IsSimpler ns y.index t = subst (IsSimpler ns y.index) (sym g) (are y.index inside.2) in
    ((o.stands, p.stands, q.stands), for_twice _ _ _ (for_choice _ _ _ _ _ _ o.term p.term q.term) (for_same _ _ (sym (ap (term_of (terms_of ns)) e))))

-- a word or an input is over nothing
pub word_over : (ns : List Node) (place w : ℕ) (n : Node) → n ≡ Konst w → IsNodeAt place n → IsNodeAt (length ns) (Konst w) × StandsFor (term_of (terms_of ns) (Konst w)) (term_of (terms_of ns) n)
word_over ns place w n e h = (subst (IsNodeAt place) e h, for_same _ _ (ap (term_of (terms_of ns)) (sym e)))

pub input_over : (ns : List Node) (place m k width : ℕ) (n : Node) → n ≡ Input m k width → IsNodeAt place n → IsNodeAt (length ns) (Input m k width) × StandsFor (term_of (terms_of ns) (Input m k width)) (term_of (terms_of ns) n)
input_over ns place m k width n e h = (subst (IsNodeAt place) e h, for_same _ _ (ap (term_of (terms_of ns)) (sym e)))

-- two facts on what a call gives
pub if_both : {X Y : Type 0} (r : Result X Y) (P Q R : X → Type 0) → ((x : X) → P x → Q x → R x) → IfOk r P → IfOk r Q → IfOk r R
if_both (Ok x) P Q R f p q = f x p q
if_both (Err e) P Q R f p q = tt

-- a term of the longer list that stands for the one at a place
pub named : (old new : List Node) (place : ℕ) (t : Term) (r : Ref) → place < length old → Extends old new → StandsFor t (term_at old place)
    → term_at new r.index ≡ t → r.index < length new → IsSimpler new place r
named old new place t r h e for is stands = record {
  stands = stands;
  term = for_twice _ _ _ (for_same _ _ is) (for_twice _ _ _ for (for_same _ _ (sym (term_at-extends old new place e h))));
}

-- what a table says of a place whose term was there before
pub settled : (old new : List Node) (to : ℕ → Ref) (place : ℕ) (r : Ref) → AreSimpler new (length old) to → Extends old new → place < length old → r ≡ to place
    → (r.index < length new) × StandsFor (term_at new r.index) (term_at old place)
settled old new to place r are e h is =
    let one : IsSimpler new place r = subst (IsSimpler new place) (sym is) (are place h) in
    (one.stands, for_twice _ _ _ one.term (for_same _ _ (term_at-extends old new place e h)))
