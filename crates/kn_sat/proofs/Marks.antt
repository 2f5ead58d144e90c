-- Marks of variables.
use Rattle.std.proofs.Common.{◌≡◌, ℕ, zero, suc, ◌<◌, Bool, true, false, List, [], ◌∷◌, ◌++◌, length, set, refl, sym, subst, ◌∙◌, inl, inr, arith}
use Rattle.std.proofs.lemmas.Bool.{cases_eq}
use Rattle.std.proofs.lemmas.List.{get_or-set_same, get_or-set_other}
use Rattle.kn_cnf.specs.declared.clauses.Lit.{Lit}
use Rattle.kn_cnf.proofs.Literals.{has_more}
use Rattle.kn_sat.specs.Resting.{marked, AreMarked, IsUnmarked}

-- a variable beyond the marks is marked
beyond : (ms : List Bool) (q : ℕ) → (q < length ms → ⊥) → marked ms q ≡ true
beyond [] q h = refl
beyond (m ∷ ms) zero h = absurd (h (omega arith))
beyond (m ∷ ms) (suc q) h = beyond ms q (λ low. h (omega (arith, low)))

pub none_marked : (ms : List Bool) → AreMarked ms [] ms
none_marked ms = record { kept = λ q is. is; own = λ m has. absurd has }

more : (old : List Bool) (c : List Lit) (ms new : List Bool) (l : Lit) → AreMarked old c ms → ((q : ℕ) → marked ms q ≡ true → marked new q ≡ true) → marked new l.var ≡ true → AreMarked old (c ++ l ∷ []) new
more old c ms new l were keeps own = record {
  kept = λ q is. keeps q (were.kept q is);
  own = λ m has. elim (has_more c l m has) [
    | inl g ↦ keeps m.var (were.own m g)
    | inr e ↦ subst (λ (k : Lit). marked new k.var ≡ true) e own
  ];
}

-- the mark of a literal's variable is set
pub mark_set : (old : List Bool) (c : List Lit) (ms : List Bool) (l : Lit) → l.var < length ms → AreMarked old c ms → AreMarked old (c ++ l ∷ []) (set ms l.var true)
mark_set old c ms l low were = more old c ms (set ms l.var true) l were
    (λ q is. elim (cases_eq l.var q) [
      | inl e ↦ subst (λ k. marked (set ms l.var true) k ≡ true) e (get_or-set_same ms l.var true true low)
      | inr d ↦ get_or-set_other ms l.var q true true (λ s. d (sym s)) ∙ is
    ])
    (get_or-set_same ms l.var true true low)

pub mark_beyond : (old : List Bool) (c : List Lit) (ms : List Bool) (l : Lit) → (l.var < length ms → ⊥) → AreMarked old c ms → AreMarked old (c ++ l ∷ []) ms
mark_beyond old c ms l high were = more old c ms ms l were (λ q is. is) (beyond ms l.var high)

-- and taken back
pub unmark_set : (ms : List Bool) (var : ℕ) → IsUnmarked ms var (set ms var false)
unmark_set ms var q d is = get_or-set_other ms var q false true (λ s. d (sym s)) ∙ is

pub unmark_none : (ms : List Bool) (var : ℕ) → IsUnmarked ms var ms
unmark_none ms var q d is = is

pub ruleset marking = (none_marked, mark_set, mark_beyond, unmark_set, unmark_none)
