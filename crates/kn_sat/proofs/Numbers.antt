-- The numbers that assignments spell.
use Rattle.std.proofs.Common.{◌≡◌, ℕ, zero, suc, ◌+◌, ◌^◌, ◌<◌, ◌≤◌, Bool, true, false, List, [], ◌∷◌, length, refl, ap, sym, subst, ◌∙◌, inl, inr, arith}
use Rattle.std.specs.Prelude.{if◌then◌else◌}
use Rattle.std.proofs.lemmas.Bool.{cases_eq}
use Rattle.std.proofs.Math.Nat.{pow-succ'}
use Rattle.kn_cnf.specs.Encoding.{bits_from}
use Rattle.kn_sat.specs.Order.{number}

pub length-bits_from : (v : ℕ → Bool) (i n : ℕ) → length (bits_from v i n) ≡ n
length-bits_from v i zero = refl
length-bits_from v i (suc n) = ap (λ k. suc k) (length-bits_from v (i + 1) n)

pub number-below : (bs : List Bool) → number bs < 2 ^ length bs
number-below [] = omega arith
number-below (true ∷ bs) = omega (arith, number-below bs, pow-succ' 2 (length bs))
number-below (false ∷ bs) = omega (arith, number-below bs, pow-succ' 2 (length bs))

-- the number of the first values
abbrev pub rank : ℕ → (ℕ → Bool) → ℕ → ℕ
rank i v n = number (bits_from v i n)

pub rank-below : (v : ℕ → Bool) (i n : ℕ) → rank i v n < 2 ^ n
rank-below v i n = subst (λ k. rank i v n < 2 ^ k) (length-bits_from v i n) (number-below (bits_from v i n))

first_le : (a b : Bool) (p q x y : ℕ) → p ≡ q → x ≤ y → (a ≡ true → b ≡ true) → (if a then p else 0) + x ≤ (if b then q else 0) + y
first_le true true p q x y e h t = omega (arith, e, h)
first_le true false p q x y e h t = let wrong : false ≡ true = t refl in absurd cc
first_le false true p q x y e h t = omega (arith, h)
first_le false false p q x y e h t = omega (arith, h)

-- where no value falls, the number does not
pub rank_le : (f g : ℕ → Bool) (i n : ℕ) → ((q : ℕ) → i ≤ q → q < i + n → f q ≡ true → g q ≡ true) → rank i f n ≤ rank i g n
rank_le f g i zero h = omega arith
rank_le f g i (suc n) h =
    first_le (f i) (g i) (2 ^ length (bits_from f (i + 1) n)) (2 ^ length (bits_from g (i + 1) n)) (rank (i + 1) f n) (rank (i + 1) g n)
    (ap (λ k. 2 ^ k) (length-bits_from f (i + 1) n ∙ sym (length-bits_from g (i + 1) n)))
    (rank_le f g (i + 1) n (λ q low high. h q (omega (arith, low)) (omega (arith, high))))
    (h i (omega arith) (omega arith))

-- the first value that differs decides
pub record Later (n : ℕ) (f g : ℕ → Bool) : Type 0 where
  pub place : ℕ
  pub inside : place < n
  pub same : (i : ℕ) → i < place → f i ≡ g i
  pub low : f place ≡ false
  pub high : g place ≡ true

first_lt : (a b : Bool) (p q x y : ℕ) → p ≡ q → x < y → a ≡ b → (if a then p else 0) + x < (if b then q else 0) + y
first_lt true true p q x y e h t = omega (arith, e, h)
first_lt true false p q x y e h t = absurd cc
first_lt false true p q x y e h t = absurd cc
first_lt false false p q x y e h t = omega (arith, h)

first_here : (a b : Bool) (p q x y : ℕ) → x < q → a ≡ false → b ≡ true → (if a then p else 0) + x < (if b then q else 0) + y
first_here false true p q x y h e f = omega (arith, h)
first_here true b p q x y h e f = absurd cc
first_here false false p q x y h e f = absurd cc

rank_lt : (f g : ℕ → Bool) (i n k : ℕ) → i ≤ k → k < i + n → ((q : ℕ) → i ≤ q → q < k → f q ≡ g q) → f k ≡ false → g k ≡ true → rank i f n < rank i g n
rank_lt f g i zero k low high same a b = absurd (omega arith)
rank_lt f g i (suc n) k low high same a b = elim (cases_eq i k) [
  | inl e ↦ first_here (f i) (g i) (2 ^ length (bits_from f (i + 1) n)) (2 ^ length (bits_from g (i + 1) n)) (rank (i + 1) f n) (rank (i + 1) g n)
      (subst (λ m. rank (i + 1) f n < 2 ^ m) (sym (length-bits_from g (i + 1) n)) (rank-below f (i + 1) n)) (ap f e ∙ a) (ap g e ∙ b)
  | inr d ↦ first_lt (f i) (g i) (2 ^ length (bits_from f (i + 1) n)) (2 ^ length (bits_from g (i + 1) n)) (rank (i + 1) f n) (rank (i + 1) g n)
      (ap (λ m. 2 ^ m) (length-bits_from f (i + 1) n ∙ sym (length-bits_from g (i + 1) n)))
      (rank_lt f g (i + 1) n k (omega (arith, low, d)) (omega (arith, high)) (λ q l h. same q (omega (arith, l)) h) a b)
      (same i (omega arith) (omega (arith, low, d)))
]

pub later_lt : (n : ℕ) (f g : ℕ → Bool) → Later n f g → rank 0 f n < rank 0 g n
later_lt n f g later = rank_lt f g 0 n later.place (omega arith) (omega (arith, later.inside)) (λ q l h. later.same q h) later.low later.high
