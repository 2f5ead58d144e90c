-- The printed networks are short.
use Rattle.std.proofs.Common.{◌≡◌, ℕ, zero, suc, ◌+◌, ◌≤◌, ◌<◌, Bool, true, false, eqb, length, lit≤, refl, subst, sym, arith}
use Rattle.std.proofs.lemmas.Bool.Decides.{nat_tests}
use Rattle.std.specs.Fmt.{digits}
use Rattle.hex.specs.Hex.{encode_with}
use Rattle.kn_netfile.specs.Printing.{limits_text, program_text, node_text, link_text, input_text, file_text}
use Rattle.kn_netfile.specs.Reading.{most_bytes}
use Rattle.kn_make.specs.Making.{made}
use Rattle.kn_make.specs.Laws.{number_count}

-- of the numbers below a number
abbrev total_below : (ℕ → ℕ) → ℕ → ℕ
total_below f zero = 0
total_below f (suc n) = f n + total_below f n

in_total : (f : ℕ → ℕ) (n k : ℕ) → k < n → f k ≤ total_below f n
in_total f zero k less = absurd (omega (arith, less))
in_total f (suc n) k less = go (eqb k n) refl (λ (other : k < n). in_total f n k other) where
  go : (b : Bool) → eqb k n ≡ b → (k < n → f k ≤ total_below f n) → f k ≤ f n + total_below f n
  go true e rest = let same : k ≡ n = grind (arith, nat_tests, e) in subst (λ j. f j ≤ f n + total_below f n) (sym same) (omega arith)
  go false e rest = let other : k < n = grind (arith, nat_tests, e, less) in omega (arith, rest other)

text_length : ℕ → ℕ
text_length n = length (file_text (made n))

-- all texts together are short
all_short : total_below text_length number_count ≤ most_bytes
unfolding text_length made file_text limits_text program_text node_text link_text input_text digits encode_with
all_short = lit≤ tt

pub made_is_short : (n : ℕ) → n < number_count → length (file_text (made n)) ≤ most_bytes
unfolding text_length
made_is_short n less = omega (arith, in_total text_length number_count n less, all_short)
