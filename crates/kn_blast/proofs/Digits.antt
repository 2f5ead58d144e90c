-- What happens to numbers where one more edge comes to each word.
use Rattle.std.proofs.Common.{◌≡◌, ℕ, zero, suc, ◌+◌, ◌*◌, ◌/◌, ◌%◌, ◌^◌, ◌<◌, Bool, true, false, not, ◌&&◌, refl, ap, ◌∙◌, arith}
use Rattle.std.specs.Prelude.{◌||◌, nat_eq, if◌then◌else◌}
use Rattle.std.proofs.Math.Nat.{pow-suc}
use Rattle.std.proofs.lemmas.Nat.{pow_pos}
use Rattle.kn_word.specs.Words.{one_if, by_digits}
use Rattle.kn_aig.specs.Circuits.{differ}
use Rattle.kn_blast.specs.Spelling.{weight}
use Rattle.kn_blast.proofs.Numbers.{double, weight-suc}

-- one more digit
pub by_digits-more : (f : ℕ → ℕ → ℕ) (i a b : ℕ) (p q : Bool) → a < 2 ^ i → b < 2 ^ i
    → by_digits f (suc i) (a + weight p i) (b + weight q i) ≡ by_digits f i a b + f (one_if p) (one_if q) * 2 ^ i
by_digits-more f zero a b p q h k = at_start p q (omega (arith, h)) (omega (arith, k)) where
  at_start : (p q : Bool) → a ≡ 0 → b ≡ 0 → by_digits f 1 (a + weight p 0) (b + weight q 0) ≡ by_digits f 0 a b + f (one_if p) (one_if q) * 2 ^ 0
  at_start true true e g = rw (e, g) (omega arith)
  at_start true false e g = rw (e, g) (omega arith)
  at_start false true e g = rw (e, g) (omega arith)
  at_start false false e g = rw (e, g) (omega arith)
by_digits-more f (suc i) a b p q h k =
    let wp : weight p (suc i) ≡ 2 * weight p i = ap (weight p) (omega arith) ∙ weight-suc p i in
    let wq : weight q (suc i) ≡ 2 * weight q i = ap (weight q) (omega arith) ∙ weight-suc q i in
    let a1 : (a + weight p (suc i)) % 2 ≡ a % 2 = omega (arith, wp) in
    let b1 : (b + weight q (suc i)) % 2 ≡ b % 2 = omega (arith, wq) in
    let a2 : (a + weight p (suc i)) / 2 ≡ a / 2 + weight p i = omega (arith, wp) in
    let b2 : (b + weight q (suc i)) / 2 ≡ b / 2 + weight q i = omega (arith, wq) in
    let rest = by_digits-more f i (a / 2) (b / 2) p q (omega (arith, h, pow-suc 2 i)) (omega (arith, k, pow-suc 2 i)) in
    let times : f (one_if p) (one_if q) * 2 ^ suc i ≡ f (one_if p) (one_if q) * (2 ^ i * 2) = ap (λ (z : ℕ). f (one_if p) (one_if q) * z) (pow-suc 2 i) in
    rw (a1, b1, a2, b2) (omega (arith, rest, times))

-- the weight of a bit that is made of two
pub weight-digit : (f : ℕ → ℕ → ℕ) (p q r : Bool) (i : ℕ) → one_if r ≡ f (one_if p) (one_if q) → weight r i ≡ f (one_if p) (one_if q) * 2 ^ i
weight-digit f p q r i e = plain r ∙ ap (λ (z : ℕ). z * 2 ^ i) e where
  plain : (r : Bool) → weight r i ≡ one_if r * 2 ^ i
  plain true = omega arith
  plain false = omega arith

-- one more digit of a sum
pub sum-more : (i x y c o : ℕ) (p q r s t : Bool) → o + weight r i ≡ x + y + c → s ≡ differ (differ p q) r → t ≡ (p && q || differ p q && r)
    → (o + weight s i) + weight t (i + 1) ≡ (x + weight p i) + (y + weight q i) + c
sum-more i x y c o p q r s t h e f =
    ap (λ (b : Bool). (o + weight b i) + weight t (i + 1)) e ∙ (ap (λ (b : Bool). (o + weight (differ (differ p q) r) i) + weight b (i + 1)) f ∙ cases p q r h)
  where
    cases : (p q r : Bool) → o + weight r i ≡ x + y + c → (o + weight (differ (differ p q) r) i) + weight (p && q || differ p q && r) (i + 1) ≡ (x + weight p i) + (y + weight q i) + c
    cases true true true h = omega (arith, h, double i)
    cases true true false h = omega (arith, h, double i)
    cases true false true h = omega (arith, h, double i)
    cases true false false h = omega (arith, h, double i)
    cases false true true h = omega (arith, h, double i)
    cases false true false h = omega (arith, h, double i)
    cases false false true h = omega (arith, h, double i)
    cases false false false h = omega (arith, h, double i)

-- one more digit of a choice
pub choice-more : (i x y : ℕ) (c p q : Bool) → (if c then x else y) + weight (if c then p else q) i ≡ (if c then x + weight p i else y + weight q i)
choice-more i x y true p q = refl
choice-more i x y false p q = refl

-- one more digit that is not 0
pub some-more : (i x : ℕ) (b p : Bool) → b ≡ not (nat_eq x 0) → (b || p) ≡ not (nat_eq (x + weight p i) 0)
some-more i x b true h = go b (pow_pos i) where
  go : (b : Bool) → 0 < 2 ^ i → (b || true) ≡ not (nat_eq (x + 2 ^ i) 0)
  go b pos = grind arith
some-more i x b false h = grind (arith, h)

-- one more digit of the complement
pub complement-more : (i x y : ℕ) (p : Bool) → y + x + 1 ≡ 2 ^ i → (y + weight (not p) i) + (x + weight p i) + 1 ≡ 2 ^ (i + 1)
complement-more i x y true h = omega (arith, h, double i)
complement-more i x y false h = omega (arith, h, double i)
