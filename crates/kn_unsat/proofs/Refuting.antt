-- What hints refute, hint by hint.
use Rattle.std.proofs.Common.{◌≡◌, ℕ, List, [], ◌∷◌, refl, sym, subst, ◌∙◌, inl, inr}
use Rattle.std.specs.Prelude.{Some, None, slice_get}
use Rattle.kn_cnf.specs.declared.clauses.Lit.{Lit}
use Rattle.kn_cnf.specs.Units.{Has, IsFalse, IsUnit}
use Rattle.kn_cnf.specs.declared.states.ClauseState.TheVariants as states
use Rattle.kn_cnf.specs.States.{IsState}
use Rattle.kn_cnf.specs.Good.{Refutes}
use Rattle.kn_cnf.proofs.Literals.{open_false, same_or_not}

-- one place has one clause
same_clause : (cs : List (List Lit)) (h : ℕ) (c d : List Lit) → slice_get cs h ≡ Some c → slice_get cs h ≡ Some d → c ≡ d
same_clause cs h c d a b = let e : Some c ≡ Some d = sym a ∙ b in cc

-- a clause has one open literal where it is unit
one_open : (ls c : List Lit) (l m : Lit) → IsUnit ls c l → IsUnit ls c m → l ≡ m
one_open ls c l m u w = elim (same_or_not l m) [
  | inl e ↦ e
  | inr n ↦ absurd (open_false _ u.opens (w.others l u.has n))
]

-- a hint that names no clause refutes nothing
pub refutes_none : (cs : List (List Lit)) (ls : List Lit) (h : ℕ) (hs : List ℕ) → slice_get cs h ≡ None → Refutes cs ls (h ∷ hs) → ⊥
refutes_none cs ls h [] none r = let at : slice_get cs h ≡ Some r.0 = r.1 in cc
refutes_none cs ls h (k ∷ hs) none r = let at : slice_get cs h ≡ Some r.0 = r.2 in cc

-- a false clause refutes where it is named last
pub refutes_false : (cs : List (List Lit)) (ls c : List Lit) (h : ℕ) (hs : List ℕ) → slice_get cs h ≡ Some c → IsFalse ls c → (hs ≡ [] → Refutes cs ls (h ∷ hs)) × (Refutes cs ls (h ∷ hs) → hs ≡ [])
refutes_false cs ls c h [] at f = (λ e. (c, at, f), λ r. refl)
refutes_false cs ls c h (k ∷ hs) at f = (λ e. absurd cc, λ r. absurd (open_false _ (r.3).opens (f r.1 (subst (λ (d : List Lit). Has d r.1) (same_clause cs h r.0 c r.2 at) (r.3).has))))

-- a unit clause refutes nothing where it is named last, and else its open literal comes in
pub refutes_unit : (cs : List (List Lit)) (ls c : List Lit) (h : ℕ) (hs : List ℕ) (l : Lit) → slice_get cs h ≡ Some c → IsUnit ls c l → (Refutes cs ls (h ∷ hs) → Refutes cs (l ∷ ls) hs) × (Refutes cs (l ∷ ls) hs → Refutes cs ls (h ∷ hs))
refutes_unit cs ls c h [] l at u =
    (λ r. absurd (open_false _ u.opens (r.2 l (subst (λ (d : List Lit). Has d l) (same_clause cs h c r.0 at r.1) u.has))), λ r. absurd r)
refutes_unit cs ls c h (k ∷ hs) l at u = (
  λ r. let w = subst (λ (d : List Lit). IsUnit ls d r.1) (same_clause cs h r.0 c r.2 at) r.3 in
      subst (λ (m : Lit). Refutes cs (m ∷ ls) (k ∷ hs)) (one_open ls c r.1 l w u) r.4,
  λ r. (c, l, at, u, r),
)

-- another clause refutes nothing
pub refutes_other : (cs : List (List Lit)) (ls c : List Lit) (h : ℕ) (hs : List ℕ) → slice_get cs h ≡ Some c → IsState ls c states.Other → Refutes cs ls (h ∷ hs) → ⊥
refutes_other cs ls c h [] at m r = m.0 (subst (λ (d : List Lit). IsFalse ls d) (same_clause cs h r.0 c r.1 at) r.2)
refutes_other cs ls c h (k ∷ hs) at m r = m.1 r.1 (subst (λ (d : List Lit). IsUnit ls d r.1) (same_clause cs h r.0 c r.2 at) r.3)
