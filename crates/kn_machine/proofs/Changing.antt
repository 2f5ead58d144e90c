-- One change of a machine, and that all stands after it.
use Rattle.std.proofs.Common.{◌≡◌, ℕ, zero, suc, ◌<◌, List, [], ◌∷◌, length, sym, ap, subst, ◌∙◌}
use Rattle.std.specs.Prelude.{slice_set}
use Rattle.std.proofs.lemmas.List.{map-set}
use Rattle.kn_term.specs.declared.node.Node.{Node}
use Rattle.kn_term.specs.declared.node.Ref.{Ref}
use Rattle.kn_term.specs.Terms.{Term}
use Rattle.kn_term.specs.Nodes.{term_at}
use Rattle.kn_term.specs.Reached.{RootsStand}
use Rattle.kn_node.specs.Views.{terms_in}
use Rattle.kn_model.specs.Terms.{terms}
use Rattle.kn_model.specs.Rows.{with_register, with_memory}
use Rattle.kn_machine.specs.Ways.{WayView, IsWay, way_of}

-- a root that stands, in the place of another one
roots_set : (count : ℕ) (rs : List Ref) (place : ℕ) (r : Ref) → RootsStand count rs → r.index < count → RootsStand count (slice_set rs place r)
roots_set count [] place r h inside i s e = absurd cc
roots_set count (x ∷ rs) zero r h inside zero s e = let same : r ≡ s = cc in subst (λ (z : Ref). z.index < count) same inside
roots_set count (x ∷ rs) zero r h inside (suc i) s e = h (suc i) s e
roots_set count (x ∷ rs) (suc place) r h inside zero s e = h zero s e
roots_set count (x ∷ rs) (suc place) r h inside (suc i) s e = roots_set count rs place r (λ j t d. h (suc j) t d) inside i s e

terms_in_set : (ns : List Node) (rs : List Ref) (place : ℕ) (r : Ref) → terms_in ns (slice_set rs place r) ≡ slice_set (terms_in ns rs) place (term_at ns r.index)
terms_in_set ns rs place r = map-set (λ (x : Ref). term_at ns x.index) rs place r

-- a register, or a word of memory, is set
pub register_set : (v u x : WayView) (a : ℕ) (r : Ref) → u ≡ v → x ≡ record u { machine = record u.machine { registers = slice_set u.machine.registers a r } }
    → way_of x ≡ with_register terms (way_of v) a (term_at v.terms r.index)
register_set v u x a r e is =
    ap way_of is ∙ (ap (λ (ts : List Term). record (way_of u) { state = record (way_of u).state { registers = ts } }) (terms_in_set u.terms u.machine.registers a r)
    ∙ ap (λ (y : WayView). with_register terms (way_of y) a (term_at y.terms r.index)) e)

pub word_set : (v u x : WayView) (place : ℕ) (r : Ref) → u ≡ v → x ≡ record u { machine = record u.machine { memory = slice_set u.machine.memory place r } }
    → way_of x ≡ with_memory terms (way_of v) (slice_set (way_of v).state.memory place (term_at v.terms r.index))
word_set v u x place r e is =
    ap way_of is ∙ (ap (λ (ts : List Term). with_memory terms (way_of u) ts) (terms_in_set u.terms u.machine.memory place r)
    ∙ ap (λ (y : WayView). with_memory terms (way_of y) (slice_set (way_of y).state.memory place (term_at y.terms r.index))) e)

-- a way stands
abbrev Stands : WayView → Type 0
Stands v = IsWay v.terms v.machine.registers v.machine.memory v.cond v.own v.literals

pub register_stands : (v w u : WayView) (a : ℕ) (r : Ref) → u ≡ w → w ≡ v → Stands w → r.index < length v.terms → IsWay u.terms (slice_set u.machine.registers a r) u.machine.memory u.cond u.own u.literals
register_stands v w u a r e d stand inside =
    let h : Stands u = subst Stands (sym e) stand in
    record {
      registers_stand = roots_set (length u.terms) u.machine.registers a r h.registers_stand (subst (λ (y : WayView). r.index < length y.terms) (sym (e ∙ d)) inside);
      memory_stands = h.memory_stands;
      known_stands = h.known_stands;
      literals_stand = h.literals_stand;
      few = h.few;
      known = h.known;
    }

pub word_stands : (v w u : WayView) (place : ℕ) (r : Ref) → u ≡ w → w ≡ v → Stands w → r.index < length v.terms → IsWay u.terms u.machine.registers (slice_set u.machine.memory place r) u.cond u.own u.literals
word_stands v w u place r e d stand inside =
    let h : Stands u = subst Stands (sym e) stand in
    record {
      registers_stand = h.registers_stand;
      memory_stands = roots_set (length u.terms) u.machine.memory place r h.memory_stands (subst (λ (y : WayView). r.index < length y.terms) (sym (e ∙ d)) inside);
      known_stands = h.known_stands;
      literals_stand = h.literals_stand;
      few = h.few;
      known = h.known;
    }
