-- A longer list of terms: what stood among the terms stands, and means what it meant.
use Rattle.std.proofs.Common.{◌≡◌, ℕ, zero, suc, List, [], ◌∷◌, length, take, refl, sym, ap, subst, ◌∙◌, arith}
use Rattle.std.specs.Prelude.{Result, Ok, Err, IfOk}
use Rattle.kn_built.specs.Built.{Extends}
use Rattle.kn_term.specs.declared.node.Node.{Node}
use Rattle.kn_term.specs.declared.node.Ref.{Ref}
use Rattle.kn_term.specs.declared.node.Literal.{Literal}
use Rattle.kn_term.specs.Terms.{Term, Valuation, Reads, ev}
use Rattle.kn_term.specs.Nodes.{term_at}
use Rattle.kn_term.specs.Reached.{RootsStand}
use Rattle.kn_term.proofs.Kept.{term_at-extends, nodes-extends}
use Rattle.kn_cond.specs.Meanings.{StandIn}
use Rattle.kn_cond.proofs.Kept.{StandIn-rest, StandIn-extends, condition_of-extends}
use Rattle.kn_cond.proofs.Reading.{reads_listed, listed_reads}
use Rattle.kn_node.specs.Views.{terms_in}
use Rattle.kn_model.specs.Alikes.{TermAlike}
use Rattle.kn_machine.specs.Ways.{WayView, IsWay, IsGrown, way_of, before_of}

roots_grow : (old new : List Node) (rs : List Ref) → Extends old new → RootsStand (length old) rs → RootsStand (length new) rs
roots_grow old new rs more h i r e = omega (arith, h i r e, nodes-extends old new more)

terms_in_grow : (old new : List Node) (rs : List Ref) → Extends old new → RootsStand (length old) rs → terms_in new rs ≡ terms_in old rs
terms_in_grow old new [] more h = refl
terms_in_grow old new (r ∷ rs) more h =
    ap (λ (t : Term). t ∷ terms_in new rs) (term_at-extends old new r.index more (h zero r refl))
    ∙ ap (λ (ts : List Term). term_at old r.index ∷ ts) (terms_in_grow old new rs more (λ i s e. h (suc i) s e))

-- the first literals stand where all do
stands_take : (ns : List Node) (n : ℕ) (ls : List Literal) → StandIn ns ls → StandIn ns (take n ls)
stands_take ns zero ls h place m e = absurd cc
stands_take ns (suc n) [] h place m e = absurd cc
stands_take ns (suc n) (l ∷ ls) h zero m e = h zero m e
stands_take ns (suc n) (l ∷ ls) h (suc place) m e = stands_take ns n ls (StandIn-rest ns l ls h) place m e

module _ (old new : List Node) (more : Extends old new) where
  before_grows : (own : ℕ) (known : List Literal) → StandIn old known → before_of new own known ≡ before_of old own known
  before_grows own known h = condition_of-extends old new (take own known) more (stands_take old own known h)

  pub is_way_grows : (registers memory : List Ref) (known : List Literal) (own : ℕ) (literals : List Literal) → IsWay old registers memory known own literals → IsWay new registers memory known own literals
  is_way_grows registers memory known own literals h = record {
    registers_stand = roots_grow old new registers more h.registers_stand;
    memory_stands = roots_grow old new memory more h.memory_stands;
    known_stands = StandIn-extends old new known more h.known_stands;
    literals_stand = StandIn-extends old new literals more h.literals_stand;
    few = h.few;
    known = rw (condition_of-extends old new known more h.known_stands, before_grows own known h.known_stands, condition_of-extends old new literals more h.literals_stand) h.known;
  }

-- the way is the same, over a longer list
way_grows : (v : WayView) (new : List Node) → Extends v.terms new → IsWay v.terms v.machine.registers v.machine.memory v.cond v.own v.literals → way_of (record v { terms = new }) ≡ way_of v
way_grows v new more h =
    rw (
      terms_in_grow v.terms new v.machine.registers more h.registers_stand,
      terms_in_grow v.terms new v.machine.memory more h.memory_stands,
      before_grows v.terms new more v.own v.cond h.known_stands,
      condition_of-extends v.terms new v.literals more h.literals_stand,
    ) refl

is_grown : (v w : WayView) (new : List Node) → w ≡ record v { terms = new } → Extends v.terms new → IsWay v.terms v.machine.registers v.machine.memory v.cond v.own v.literals → IsGrown v w
is_grown v w new e more h =
    subst (λ (x : WayView). IsGrown v x) (sym e) (record { way = way_grows v new more h; terms = more; known = condition_of-extends v.terms new v.cond more h.known_stands; standing = refl; sends = refl })

-- a term that has the same words, and reads no more
alike_made : (x y : Term) → ((a : Valuation) → ev a x ≡ ev a y) → ((n k width : ℕ) → Reads n k width x → Reads n k width y) → TermAlike x y
alike_made x y words reads = record {
  words = words;
  reads = λ r c. reads_listed y r.node r.index r.width (reads r.node r.index r.width (listed_reads x r.node r.index r.width c));
}

-- the same of what a call gives
pub grown_by : {E : Type 0} (r : Result Ref E) (v u w : WayView) → u ≡ v → w ≡ record u { terms = w.terms } → Extends u.terms w.terms
    → IsWay u.terms u.machine.registers u.machine.memory u.cond u.own u.literals → IfOk r (λ x. IsGrown v w)
grown_by (Ok x) v u w e is more h = subst (λ (z : WayView). IsGrown z w) e (is_grown u w w.terms is more h)
grown_by (Err e) v u w i is more h = tt

pub made_by : {E : Type 0} (r : Result Ref E) (ns : List Node) (t : Term) → IfOk r (λ (s : Ref). (a : Valuation) → ev a (term_at ns s.index) ≡ ev a t)
    → IfOk r (λ (s : Ref). (n k width : ℕ) → Reads n k width (term_at ns s.index) → Reads n k width t) → IfOk r (λ (s : Ref). TermAlike (term_at ns s.index) t)
made_by (Ok s) ns t words reads = alike_made (term_at ns s.index) t words reads
made_by (Err e) ns t words reads = tt
