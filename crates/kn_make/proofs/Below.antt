-- What holds of each number below some number.
use Rattle.std.proofs.Common.{◌≡◌, ℕ, zero, suc, ◌<◌, Bool, true, false, eqb, refl, subst, sym, arith}
use Rattle.std.proofs.lemmas.Bool.Decides.{nat_tests}

-- one by one, the greatest first
abbrev pub AllBelow : (ℕ → Type 0) → ℕ → Type 0
AllBelow P zero = Unit {0}
AllBelow P (suc n) = P n × AllBelow P n

pub at_below : (P : ℕ → Type 0) (n k : ℕ) → AllBelow P n → k < n → P k
at_below P zero k all less = absurd (omega (arith, less))
at_below P (suc n) k all less = go (eqb k n) refl (λ (other : k < n). at_below P n k all.1 other) where
  go : (b : Bool) → eqb k n ≡ b → (k < n → P k) → P k
  go true e rest = let same : k ≡ n = grind (arith, nat_tests, e) in subst P (sym same) all.0
  go false e rest = let other : k < n = grind (arith, nat_tests, e, less) in rest other
