-- The clause with a number: its literals, and how it stands.
use Rattle.std.proofs.Common.{◌≡◌, ℕ, zero, suc, ◌<◌, List, [], ◌∷◌, length, map, get_or, Vec, Global, refl, ap, sym, subst, ◌∙◌, inl, inr}
use Rattle.std.specs.Prelude.{Some, slice_get}
use Rattle.std.specs.List.{AllByRecursion}
use Rattle.kn_cnf.specs.declared.clauses.Lit.{Lit}
use Rattle.std.specs.Option.{option_map}
use Rattle.std.proofs.lemmas.Option.{slice_get-map, slice_get_read}
use Rattle.kn_cnf.specs.Formulas.{AreBelow, items_of}
use Rattle.kn_cnf.specs.Units.{Has}
use Rattle.kn_cnf.specs.declared.states.ClauseState.{ClauseState}
use Rattle.kn_cnf.specs.declared.states.ClauseState.TheVariants as states
use Rattle.kn_cnf.specs.States.{IsCalm, IsState}
use Rattle.kn_sat.specs.declared.trail.Assigned.{Assigned}
use Rattle.kn_sat.specs.Trails.{latest}
use Rattle.kn_sat.specs.Propagating.{IsVisited}

-- the variables of a clause are low
has_below : (n : ℕ) (c : List Lit) (l : Lit) → AllByRecursion (λ (m : Lit). m.var < n) c → Has c l → l.var < n
has_below n [] l all has = absurd has
has_below n (m ∷ ms) l all has = elim has [
  | inl e ↦ subst (λ (k : Lit). k.var < n) e all.0
  | inr g ↦ has_below n ms l all.1 g
]

pub clause_below : (n : ℕ) (cs : List (List Lit)) (h : ℕ) (c : List Lit) → AreBelow n cs → slice_get cs h ≡ Some c → AllByRecursion (λ (m : Lit). m.var < n) c
clause_below n [] h c all at = absurd cc
clause_below n (d ∷ ds) h c all at = go h at (λ k e. clause_below n ds k c all.1 e)
  where
    go : (h : ℕ) → slice_get (d ∷ ds) h ≡ Some c → ((k : ℕ) → slice_get ds k ≡ Some c → AllByRecursion (λ (m : Lit). m.var < n) c) → AllByRecursion (λ (m : Lit). m.var < n) c
    go zero at rest = let same : d ≡ c = cc in subst (AllByRecursion (λ (m : Lit). m.var < n)) same all.0
    go (suc k) at rest = rest k at

pub literal_below : (n : ℕ) (cs : List (List Lit)) (h : ℕ) (c : List Lit) (l : Lit) → AreBelow n cs → slice_get cs h ≡ Some c → Has c l → l.var < n
literal_below n cs h c l all at has = has_below n c l (clause_below n cs h c all at) has

-- the clause at a place
pub clause_at : (clauses : List (Vec Lit Global)) (i : ℕ) (v : Vec Lit Global) → i < length clauses → v ≡ get_or clauses i v → slice_get (map items_of clauses) i ≡ Some v.items
clause_at clauses i v inside is = slice_get-map items_of clauses i ∙ ap (option_map items_of) (slice_get_read clauses (length clauses) i v refl inside is)

-- a visit of a clause that is not unit
pub visited_still : (cs : List (List Lit)) (h : ℕ) (es : List Assigned) (c : List Lit) (st : ClauseState) → slice_get cs h ≡ Some c → IsState (latest es) c st → ((l : Lit) → st ≡ states.Unit l → ⊥) → IsVisited cs h es es st
visited_still cs h es c states.False at m not = (c, at, m)
visited_still cs h es c (states.Unit l) at m not = absurd (not l refl)
visited_still cs h es c states.Other at m not = (refl, λ d other. let same : c ≡ d = let both : Some c ≡ Some d = sym at ∙ other in cc in subst (IsCalm (latest es)) same m)
