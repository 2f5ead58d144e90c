-- Texts that are written in pieces.
use Rattle.std.proofs.Common.{◌≡◌, ℕ, ◌+◌, zero, suc, List, [], ◌∷◌, ◌++◌, take, drop, refl, sym, ap, subst, ◌∙◌, arith, append_assoc}
use Rattle.std.specs.Prelude.{flat_map, slice_get, Some, None}
use Rattle.std.specs.List.{AllByRecursion}
use Rattle.std.proofs.lemmas.Option.{none-some, same_Some}
use Rattle.std.proofs.lemmas.List.{append-nil}
use Rattle.kn_model.specs.Terms.{Given, Valuation}
use Rattle.kn_report.specs.Forms.{GivenFits}
use Rattle.kn_report.specs.Texts.{further}

-- what is left from a place on begins with what stands there
pub from_place : (a : Valuation) (i : ℕ) (g : Given) → slice_get a i ≡ Some g → drop i a ≡ g ∷ drop (suc i) a
from_place [] i g e = absurd (none-some g e)
from_place (x ∷ a) zero g e = ap (λ (y : Given). y ∷ a) (same_Some x g e)
from_place (x ∷ a) (suc i) g e = from_place a i g e

-- and is nothing where nothing stands there
pub past_all : (a : Valuation) (i : ℕ) → slice_get a i ≡ None → drop i a ≡ []
past_all [] zero e = refl
past_all [] (suc i) e = refl
past_all (x ∷ a) zero e = absurd (none-some x (sym e))
past_all (x ∷ a) (suc i) e = past_all a i e

-- one input more
pub further_written : (old new start : List ℕ) (a : Valuation) (place : ℕ) (g : Given) → slice_get a place ≡ Some g → new ≡ old ++ further g
    → old ++ flat_map further (drop place a) ≡ start → new ++ flat_map further (drop (place + 1) a) ≡ start
further_written old new start a place g at written before =
    let next : suc place ≡ place + 1 = omega arith in
    let rest : drop place a ≡ g ∷ drop (place + 1) a = from_place a place g at ∙ ap (λ (j : ℕ). g ∷ drop j a) next in
    ap (λ (l : List ℕ). l ++ flat_map further (drop (place + 1) a)) written
    ∙ append_assoc old (further g) (flat_map further (drop (place + 1) a))
    ∙ ap (λ (l : Valuation). old ++ flat_map further l) (sym rest)
    ∙ before

-- no input is left
pub all_written : (old start : List ℕ) (a : Valuation) (place : ℕ) → slice_get a place ≡ None → old ++ flat_map further (drop place a) ≡ start → old ≡ start
all_written old start a place at before = sym (append-nil old) ∙ ap (λ (l : Valuation). old ++ flat_map further l) (sym (past_all a place at)) ∙ before

-- one input more is small
fits_next : (a : Valuation) (place : ℕ) (g : Given) → slice_get a place ≡ Some g → GivenFits g → AllByRecursion GivenFits (take place a) → AllByRecursion GivenFits (take (suc place) a)
fits_next [] place g at fits all = absurd (none-some g at)
fits_next (x ∷ a) zero g at fits all = (subst GivenFits (sym (same_Some x g at)) fits, tt)
fits_next (x ∷ a) (suc place) g at fits all = (all.0, fits_next a place g at fits all.1)

pub fits_more : (a : Valuation) (place : ℕ) (g : Given) → slice_get a place ≡ Some g → GivenFits g → AllByRecursion GivenFits (take place a) → AllByRecursion GivenFits (take (place + 1) a)
fits_more a place g at fits all =
    let next : suc place ≡ place + 1 = omega arith in
    subst (λ (n : ℕ). AllByRecursion GivenFits (take n a)) next (fits_next a place g at fits all)

-- all inputs are small
pub fits_all : (a : Valuation) (place : ℕ) → slice_get a place ≡ None → AllByRecursion GivenFits (take place a) → AllByRecursion GivenFits a
fits_all [] place at all = tt
fits_all (x ∷ a) zero at all = absurd (none-some x (sym at))
fits_all (x ∷ a) (suc place) at all = (all.0, fits_all a place at all.1)

-- the first one is small
pub fits_first : (a : Valuation) (g : Given) → slice_get a 0 ≡ Some g → GivenFits g → AllByRecursion GivenFits (take 1 a)
fits_first [] g at fits = tt
fits_first (x ∷ a) g at fits = (subst GivenFits (sym (same_Some x g at)) fits, tt)

-- pieces one after another
pub place_written : (old a b c new head dec pick numbers inputs rest : List ℕ) → a ≡ old ++ (head ++ (dec ++ pick)) → b ≡ a ++ numbers → c ≡ b ++ inputs → new ≡ c ++ rest
    → new ≡ old ++ (head ++ (dec ++ (pick ++ (numbers ++ (inputs ++ rest)))))
place_written old a b c new head dec pick numbers inputs rest p q r s = rw (s, r, q, p) (simp append_assoc)

pub state_written : (t0 t1 t2 t3 t4 t5 a k b n c tr o oc bl st e : List ℕ) → t0 ≡ a ++ (k ++ (b ++ (n ++ c))) → t1 ≡ t0 ++ (tr ++ o) → t2 ≡ t1 ++ oc → t3 ≡ t2 ++ bl → t4 ≡ t3 ++ st → t5 ≡ t4 ++ e
    → t5 ≡ (a ++ (k ++ (b ++ (n ++ (c ++ (tr ++ (o ++ (oc ++ (bl ++ st))))))))) ++ e
state_written t0 t1 t2 t3 t4 t5 a k b n c tr o oc bl st e p0 p1 p2 p3 p4 p5 = rw (p5, p4, p3, p2, p1, p0) (simp append_assoc)
