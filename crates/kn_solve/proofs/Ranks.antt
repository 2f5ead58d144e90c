-- The order of least inputs is that of ranks, and each rank is that of one list of words.
use Rattle.std.proofs.Common.{◌≡◌, ℕ, ◌+◌, ◌*◌, ◌^◌, ◌<◌, List, [], ◌∷◌, refl, sym, ap, ◌∙◌, inl, inr, arith}
use Rattle.std.specs.Prelude.{◌⊎◌}
use Rattle.std.specs.declared.cmp.Ordering.{Ordering}
use Rattle.std.specs.declared.cmp.Ordering.TheVariants.{Less, Equal, Greater}
use Rattle.std.specs.Ordering.{nat_cmp, ordering_then}
use Rattle.std.specs.Cmp.{nat_cmp_is}
use Rattle.std.specs.Cmp.Lexicographic.{slice_cmp}
use Rattle.std.proofs.lemmas.Bool.{cases_lt, cases_eq}
use Rattle.std.proofs.lemmas.List.Sums.{sum_by-cons}
use Rattle.std.proofs.Math.Pow.{pow-add}
use Rattle.std.proofs.Math.Nat.{mul-le-mul_right}
use Rattle.kn_cond.specs.Conditions.{Read, AreWords, ComesBefore}
use Rattle.kn_solve.specs.Orders.{width_of, rank}

-- a digit in front of what is below a power is below the next power
first_below : (w p q low : ℕ) → w < p → low < q → w * q + low < p * q
first_below w p q low h l = omega (arith, mul-le-mul_right {m = w + 1} {n = p} q (omega (arith, h)), suc_mul w q, l)
  where
    suc_mul : (w q : ℕ) → (w + 1) * q ≡ w * q + q
    suc_mul w q = omega arith

-- a higher digit in front of any others
first_less : (w v q low high : ℕ) → w < v → low < q → w * q + low < v * q + high
first_less w v q low high h l = omega (arith, first_below w v q low h l)

pub rank-below : (rs : List Read) (ws : List ℕ) → AreWords rs ws → rank rs ws < 2 ^ width_of rs
rank-below [] [] are = omega arith
rank-below [] (w ∷ ws) are = absurd are
rank-below (r ∷ rs) [] are = absurd are
rank-below (r ∷ rs) (w ∷ ws) are =
    let whole : 2 ^ width_of (r ∷ rs) ≡ 2 ^ r.width * 2 ^ width_of rs = ap (λ k. 2 ^ k) (sum_by-cons (λ (x : Read). x.width) r rs) ∙ pow-add 2 r.width (width_of rs) in
    omega (arith, first_below w (2 ^ r.width) (2 ^ width_of rs) (rank rs ws) are.0 (rank-below rs ws are.1), whole)

pub less_first : (w v : ℕ) (ws vs : List ℕ) → w < v → ComesBefore (w ∷ ws) (v ∷ vs)
less_first w v ws vs h = ap (λ (o : Ordering). ordering_then o (slice_cmp nat_cmp ws vs)) (sym (nat_cmp_is w v Less h))

pub same_first : (w v : ℕ) (ws vs : List ℕ) → w ≡ v → slice_cmp nat_cmp (w ∷ ws) (v ∷ vs) ≡ slice_cmp nat_cmp ws vs
same_first w v ws vs e = ap (λ (o : Ordering). ordering_then o (slice_cmp nat_cmp ws vs)) (sym (nat_cmp_is w v Equal e))

pub more_first : (w v : ℕ) (ws vs : List ℕ) → v < w → slice_cmp nat_cmp (w ∷ ws) (v ∷ vs) ≡ Greater
more_first w v ws vs h = ap (λ (o : Ordering). ordering_then o (slice_cmp nat_cmp ws vs)) (sym (nat_cmp_is w v Greater h))

-- below, the same, or above
pub three : (w v : ℕ) → (w < v) ⊎ ((w ≡ v) ⊎ (v < w))
three w v = elim (cases_lt w v) [ inl h ↦ inl h | inr h ↦ elim (cases_eq w v) [ inl e ↦ inr (inl e) | inr n ↦ inr (inr (omega arith)) ] ]

-- words of a lower rank come before
pub lower_before : (rs : List Read) (ws vs : List ℕ) → AreWords rs ws → AreWords rs vs → rank rs ws < rank rs vs → ComesBefore ws vs
lower_before [] [] [] a b h = absurd (omega (arith, h))
lower_before [] [] (v ∷ vs) a b h = absurd b
lower_before [] (w ∷ ws) vs a b h = absurd a
lower_before (r ∷ rs) [] vs a b h = absurd a
lower_before (r ∷ rs) (w ∷ ws) [] a b h = absurd b
lower_before (r ∷ rs) (w ∷ ws) (v ∷ vs) a b h =
    elim (three w v) [
      | inl less ↦ less_first w v ws vs less
      | inr rest ↦ elim rest [
        | inl e ↦ same_first w v ws vs e ∙ lower_before rs ws vs a.1 b.1 (omega (arith, h, ap (λ k. k * 2 ^ width_of rs) e))
        | inr more ↦ absurd (omega (arith, h, first_less v w (2 ^ width_of rs) (rank rs vs) (rank rs ws) more (rank-below rs vs b.1)))
      ]
    ]

-- words that come before have a lower rank
pub before_lower : (rs : List Read) (ws vs : List ℕ) → AreWords rs ws → AreWords rs vs → ComesBefore ws vs → rank rs ws < rank rs vs
before_lower [] [] [] a b h = absurd cc
before_lower [] [] (v ∷ vs) a b h = absurd b
before_lower [] (w ∷ ws) vs a b h = absurd a
before_lower (r ∷ rs) [] vs a b h = absurd a
before_lower (r ∷ rs) (w ∷ ws) [] a b h = absurd b
before_lower (r ∷ rs) (w ∷ ws) (v ∷ vs) a b h =
    elim (three w v) [
      | inl less ↦ first_less w v (2 ^ width_of rs) (rank rs ws) (rank rs vs) less (rank-below rs ws a.1)
      | inr rest ↦ elim rest [
        | inl e ↦ omega (arith, before_lower rs ws vs a.1 b.1 (sym (same_first w v ws vs e) ∙ h), ap (λ k. k * 2 ^ width_of rs) e)
        | inr more ↦ let wrong : Greater ≡ Less = sym (more_first w v ws vs more) ∙ h in absurd cc
      ]
    ]

-- each rank is that of one list of words
pub one_rank : (rs : List Read) (ws vs : List ℕ) → AreWords rs ws → AreWords rs vs → rank rs ws ≡ rank rs vs → ws ≡ vs
one_rank [] [] [] a b h = refl
one_rank [] [] (v ∷ vs) a b h = absurd b
one_rank [] (w ∷ ws) vs a b h = absurd a
one_rank (r ∷ rs) [] vs a b h = absurd a
one_rank (r ∷ rs) (w ∷ ws) [] a b h = absurd b
one_rank (r ∷ rs) (w ∷ ws) (v ∷ vs) a b h =
    elim (three w v) [
      | inl less ↦ absurd (omega (arith, h, first_less w v (2 ^ width_of rs) (rank rs ws) (rank rs vs) less (rank-below rs ws a.1)))
      | inr rest ↦ elim rest [
        | inl e ↦ ap (λ k. k ∷ ws) e ∙ ap (λ (xs : List ℕ). v ∷ xs) (one_rank rs ws vs a.1 b.1 (omega (arith, h, ap (λ k. k * 2 ^ width_of rs) e)))
        | inr more ↦ absurd (omega (arith, h, first_less v w (2 ^ width_of rs) (rank rs vs) (rank rs ws) more (rank-below rs vs b.1)))
      ]
    ]
