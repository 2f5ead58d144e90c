-- What is left to refute at a hint.
use Rattle.std.proofs.Common.{◌≡◌, ℕ, ◌+◌, ◌<◌, Bool, false, eqb, List, [], ◌∷◌, length, drop, get_or, ap, sym, subst, arith}
use Rattle.std.specs.Prelude.{Some, None, slice_get, IsTrue}
use Rattle.std.proofs.lemmas.Bool.{eqb-true, eq-eqb}
use Rattle.std.proofs.lemmas.List.{drop_more, drop_all, length-drop}
use Rattle.kn_cnf.specs.declared.clauses.Lit.{Lit}
use Rattle.kn_cnf.specs.Formulas.{Step}
use Rattle.kn_cnf.specs.Units.{IsFalse, IsUnit}
use Rattle.kn_cnf.specs.declared.states.ClauseState.TheVariants as states
use Rattle.kn_cnf.specs.States.{IsState}
use Rattle.kn_cnf.specs.Good.{Refutes, HasBoth, falsified, IsGood}
use Rattle.kn_unsat.proofs.Refuting.{refutes_none, refutes_false, refutes_unit, refutes_other}

-- two facts that hold together
abbrev pub Both : Type 0 → Type 0 → Type 0
Both P Q = (P → Q) × (Q → P)

module _ (cs : List (List Lit)) (ls now : List Lit) (hints : List ℕ) (place : ℕ) (inside : place < length hints) (so_far : Both (Refutes cs ls hints) (Refutes cs now (drop place hints))) where
  here : drop place hints ≡ get_or hints place 0 ∷ drop (place + 1) hints
  here = drop_more hints place 0 inside

  at_hint : Both (Refutes cs ls hints) (Refutes cs now (get_or hints place 0 ∷ drop (place + 1) hints))
  at_hint = subst (λ (hs : List ℕ). Both (Refutes cs ls hints) (Refutes cs now hs)) here so_far

  pub follow_none : slice_get cs (get_or hints place 0) ≡ None → Both (IsTrue false) (Refutes cs ls hints)
  follow_none none = (λ h. absurd cc, λ r. absurd (refutes_none cs now (get_or hints place 0) (drop (place + 1) hints) none (at_hint.0 r)))

  pub follow_other : (c : List Lit) → slice_get cs (get_or hints place 0) ≡ Some c → IsState now c states.Other → Both (IsTrue false) (Refutes cs ls hints)
  follow_other c at m = (λ h. absurd cc, λ r. absurd (refutes_other cs now c (get_or hints place 0) (drop (place + 1) hints) at m (at_hint.0 r)))

  pub follow_false : (c : List Lit) → slice_get cs (get_or hints place 0) ≡ Some c → IsFalse now c → Both (IsTrue (eqb (place + 1) (length hints))) (Refutes cs ls hints)
  follow_false c at f =
      let last = refutes_false cs now c (get_or hints place 0) (drop (place + 1) hints) at f in (
        λ h. at_hint.1 (last.0 (drop_all (place + 1) hints (omega (arith, eqb-true (place + 1) (length hints) h)))),
        λ r. eq-eqb (place + 1) (length hints) (let none : length (drop (place + 1) hints) ≡ 0 = ap length (last.1 (at_hint.0 r)) in omega (arith, none, length-drop (place + 1) hints)),
      )

  pub follow_unit : (c : List Lit) (l : Lit) → slice_get cs (get_or hints place 0) ≡ Some c → IsUnit now c l → Both (Refutes cs ls hints) (Refutes cs (l ∷ now) (drop (place + 1) hints))
  follow_unit c l at u =
      let step = refutes_unit cs now c (get_or hints place 0) (drop (place + 1) hints) l at u in
      (λ r. step.0 (at_hint.0 r), λ r. at_hint.1 (step.1 r))

-- a line is good exactly where its hints refute, if its clause is apart
pub good_by : (cs : List (List Lit)) (s : Step) (ls : List Lit) (b : Bool) → (HasBoth s.clause → ⊥) → ls ≡ falsified [] s.clause → Both (IsTrue b) (Refutes cs ls s.hints) → Both (IsTrue b) (IsGood cs s)
good_by cs s ls b apart is both = (
  λ t. record { apart = apart; refuted = subst (λ (m : List Lit). Refutes cs m s.hints) is (both.0 t) },
  λ g. both.1 (subst (λ (m : List Lit). Refutes cs m s.hints) (sym is) g.refuted),
)
