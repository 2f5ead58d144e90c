-- Numbers that are made digit by digit of a number and one whose digits are all 0, or all 1, or its own.
use Rattle.std.proofs.Common.{◌≡◌, ℕ, zero, suc, ◌+◌, ◌*◌, ◌/◌, ◌%◌, ◌^◌, ◌<◌, refl, arith}
use Rattle.std.proofs.Math.Nat.{pow-suc}
use Rattle.kn_word.specs.Words.{by_digits}

half_lt : (count x : ℕ) → x < 2 ^ suc count → x / 2 < 2 ^ count
half_lt count x below = omega (arith, pow-suc 2 count)

-- the number whose digits are all 1
ones : ℕ → ℕ
ones zero = 0
ones (suc count) = 1 + 2 * ones count

ones_lowest : (n : ℕ) → (1 + 2 * n) % 2 ≡ 1
ones_lowest n = omega arith

ones_rest : (n : ℕ) → (1 + 2 * n) / 2 ≡ n
ones_rest n = omega arith

-- where each digit with 0 on the right stays
pub zero_kept : (f : ℕ → ℕ → ℕ) → ((d : ℕ) → d < 2 → f d 0 ≡ d) → (count x : ℕ) → x < 2 ^ count → by_digits f count x 0 ≡ x
zero_kept f digit zero x h = omega (arith, h)
zero_kept f digit (suc count) x h =
    omega (arith, digit (x % 2) (omega arith), zero_kept f digit count (x / 2) (half_lt count x h))

pub zero_kept_left : (f : ℕ → ℕ → ℕ) → ((d : ℕ) → d < 2 → f 0 d ≡ d) → (count x : ℕ) → x < 2 ^ count → by_digits f count 0 x ≡ x
zero_kept_left f digit zero x h = omega (arith, h)
zero_kept_left f digit (suc count) x h =
    omega (arith, digit (x % 2) (omega arith), zero_kept_left f digit count (x / 2) (half_lt count x h))

-- where each digit with 0 gives 0
pub zero_wins : (f : ℕ → ℕ → ℕ) → ((d : ℕ) → d < 2 → f d 0 ≡ 0) → (count x : ℕ) → by_digits f count x 0 ≡ 0
zero_wins f digit zero x = refl
zero_wins f digit (suc count) x = omega (arith, digit (x % 2) (omega arith), zero_wins f digit count (x / 2))

pub zero_wins_left : (f : ℕ → ℕ → ℕ) → ((d : ℕ) → d < 2 → f 0 d ≡ 0) → (count x : ℕ) → by_digits f count 0 x ≡ 0
zero_wins_left f digit zero x = refl
zero_wins_left f digit (suc count) x = omega (arith, digit (x % 2) (omega arith), zero_wins_left f digit count (x / 2))

-- where each digit with 1 stays
ones_kept : (f : ℕ → ℕ → ℕ) → ((d : ℕ) → d < 2 → f d 1 ≡ d) → (count x : ℕ) → x < 2 ^ count → by_digits f count x (ones count) ≡ x
unfolding ones
ones_kept f digit zero x h = omega (arith, h)
ones_kept f digit (suc count) x h =
    rw (ones_lowest (ones count), ones_rest (ones count)) (omega (arith, digit (x % 2) (omega arith), ones_kept f digit count (x / 2) (half_lt count x h)))

ones_kept_left : (f : ℕ → ℕ → ℕ) → ((d : ℕ) → d < 2 → f 1 d ≡ d) → (count x : ℕ) → x < 2 ^ count → by_digits f count (ones count) x ≡ x
unfolding ones
ones_kept_left f digit zero x h = omega (arith, h)
ones_kept_left f digit (suc count) x h =
    rw (ones_lowest (ones count), ones_rest (ones count)) (omega (arith, digit (x % 2) (omega arith), ones_kept_left f digit count (x / 2) (half_lt count x h)))

-- where each digit with 1 gives 1
ones_win : (f : ℕ → ℕ → ℕ) → ((d : ℕ) → d < 2 → f d 1 ≡ 1) → (count x : ℕ) → by_digits f count x (ones count) ≡ ones count
unfolding ones
ones_win f digit zero x = refl
ones_win f digit (suc count) x =
    rw (ones_lowest (ones count), ones_rest (ones count)) (omega (arith, digit (x % 2) (omega arith), ones_win f digit count (x / 2)))

ones_win_left : (f : ℕ → ℕ → ℕ) → ((d : ℕ) → d < 2 → f 1 d ≡ 1) → (count x : ℕ) → by_digits f count (ones count) x ≡ ones count
unfolding ones
ones_win_left f digit zero x = refl
ones_win_left f digit (suc count) x =
    rw (ones_lowest (ones count), ones_rest (ones count)) (omega (arith, digit (x % 2) (omega arith), ones_win_left f digit count (x / 2)))

-- where a digit with itself stays
pub same_kept : (f : ℕ → ℕ → ℕ) → ((d : ℕ) → d < 2 → f d d ≡ d) → (count x : ℕ) → x < 2 ^ count → by_digits f count x x ≡ x
same_kept f digit zero x h = omega (arith, h)
same_kept f digit (suc count) x h =
    omega (arith, digit (x % 2) (omega arith), same_kept f digit count (x / 2) (half_lt count x h))

-- where a digit with itself gives 0
pub same_gone : (f : ℕ → ℕ → ℕ) → ((d : ℕ) → d < 2 → f d d ≡ 0) → (count x : ℕ) → by_digits f count x x ≡ 0
same_gone f digit zero x = refl
same_gone f digit (suc count) x = omega (arith, digit (x % 2) (omega arith), same_gone f digit count (x / 2))

-- the same at words, whose digits are all 1 at 65535
pub last_kept : (f : ℕ → ℕ → ℕ) → ((d : ℕ) → d < 2 → f d 1 ≡ d) → (x : ℕ) → x < 65536 → by_digits f 16 x 65535 ≡ x
unfolding ones
last_kept f digit x h = ones_kept f digit 16 x h

pub last_kept_left : (f : ℕ → ℕ → ℕ) → ((d : ℕ) → d < 2 → f 1 d ≡ d) → (x : ℕ) → x < 65536 → by_digits f 16 65535 x ≡ x
unfolding ones
last_kept_left f digit x h = ones_kept_left f digit 16 x h

pub last_wins : (f : ℕ → ℕ → ℕ) → ((d : ℕ) → d < 2 → f d 1 ≡ 1) → (x : ℕ) → by_digits f 16 x 65535 ≡ 65535
unfolding ones
last_wins f digit x = ones_win f digit 16 x

pub last_wins_left : (f : ℕ → ℕ → ℕ) → ((d : ℕ) → d < 2 → f 1 d ≡ 1) → (x : ℕ) → by_digits f 16 65535 x ≡ 65535
unfolding ones
last_wins_left f digit x = ones_win_left f digit 16 x
