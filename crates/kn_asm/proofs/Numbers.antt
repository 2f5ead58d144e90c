-- Numerals and words are ASCII, and what `from_str_radix` says of digits.
use Rattle.std.proofs.Common.{◌≡◌, ℕ, suc, ◌+◌, ◌^◌, ◌<◌, ◌≤◌, true, false, List, [], ◌∷◌, length, take, None, refl, inl, inr, arith}
use Rattle.std.specs.Prelude.{◌==◌, nat_le}
use Rattle.std.proofs.lemmas.Bool.{and_parts, cases_Bool, cases_lt, le-ltb, ltb-true, leb-true}
use Rattle.std.proofs.lemmas.Bool.Decides.{nat_tests}
use Rattle.std.proofs.lemmas.Str.{IsUtf8-from_ascii}
use Rattle.std.proofs.lemmas.Str.Ascii.{IsAscii-nil, IsAscii-cons}
use Rattle.std.specs.List.{prefix_len, list_all}
use Rattle.std.specs.Char.{is_digit, digit_value}
use Rattle.std.specs.Str.{IsAscii, IsUtf8}
use Rattle.std.specs.Str.Parse.{AllDigits, IsNumeral, digits_value, without_leading_plus}
use Rattle.kn_asm.specs.Words.{is_word, word, numeral_of_lem}

-- ---- digits

above : (c : ℕ) → 123 ≤ c → digit_value c ≡ 36
above c h =
    rw (le-ltb c 48 (omega arith), le-ltb c 58 (omega arith), le-ltb c 65 (omega arith), le-ltb c 91 (omega arith), le-ltb c 97 (omega arith), le-ltb c 123 h) refl

digit_ascii : (radix c : ℕ) → radix ≤ 36 → is_digit c radix ≡ true → c < 128
digit_ascii radix c high h =
    elim (cases_lt c 123) [
      | inl lt ↦ omega arith
      | inr ge ↦ let e : digit_value c ≡ 36 = above c ge in let lt : digit_value c < radix = ltb-true (digit_value c) radix h in absurd (omega (arith, e, lt, high))
    ]

digits_ascii : (radix : ℕ) (w : List ℕ) → radix ≤ 36 → list_all (λ c. is_digit c radix) w ≡ true → IsAscii w
digits_ascii radix [] high h = IsAscii-nil
digits_ascii radix (c ∷ cs) high h =
    let (here, more) = and_parts (is_digit c radix) (list_all (λ x. is_digit x radix) cs) h in
    IsAscii-cons c cs (digit_ascii radix c high here) (digits_ascii radix cs high more)

pub digits_utf8 : (radix : ℕ) (w : List ℕ) → radix ≤ 36 → list_all (λ c. is_digit c radix) w ≡ true → IsUtf8 w
digits_utf8 radix w high h = IsUtf8-from_ascii w (digits_ascii radix w high h)

pub all_digits : (radix : ℕ) (w : List ℕ) → list_all (λ c. is_digit c radix) w ≡ true → AllDigits radix w
all_digits radix [] h = tt
all_digits radix (c ∷ cs) h =
    let (here, more) = and_parts (is_digit c radix) (list_all (λ x. is_digit x radix) cs) h in
    (ltb-true (digit_value c) radix here, all_digits radix cs more)

no_plus : (radix : ℕ) (w : List ℕ) → radix ≤ 36 → list_all (λ c. is_digit c radix) w ≡ true → without_leading_plus w ≡ w
no_plus radix [] high h = refl
no_plus radix (c ∷ cs) high h =
    let here : is_digit c radix ≡ true = (and_parts (is_digit c radix) (list_all (λ x. is_digit x radix) cs) h).0 in
    elim (cases_Bool (c == 43)) [
      | inl same ↦ absurd (plus c same here)
      | inr other ↦ rw other refl
    ]
  where
    plus : (c : ℕ) → (c == 43) ≡ true → is_digit c radix ≡ true → ⊥
    plus c same here =
        let e : c ≡ 43 = grind (arith, nat_tests) in
        let lt : digit_value c < radix = ltb-true (digit_value c) radix here in
        let v : digit_value c ≡ 36 = rw e refl in
        omega (arith, lt, v, high)

-- digits that are refused are too many
pub numeral_refused : (radix : ℕ) (w : List ℕ) → radix ≤ 36 → 0 < length w → list_all (λ c. is_digit c radix) w ≡ true
    → (IsNumeral radix (without_leading_plus w) × (digits_value radix (without_leading_plus w) < 2 ^ 16) → ⊥) → None ≡ numeral_of_lem radix w
numeral_refused radix w high some h never =
    let other : (length w == 0) ≡ false = grind (arith, nat_tests) in
    elim (cases_Bool (nat_le (digits_value radix w) 65535)) [
      | inl few ↦ absurd (never (rw (no_plus radix w high h) ((some, all_digits radix w h), let le : digits_value radix w ≤ 65535 = leb-true (digits_value radix w) 65535 few in omega (arith, le))))
      | inr many ↦ rw (other, h, many) refl
    ]

-- ---- words

word_ascii : (w : List ℕ) → list_all is_word w ≡ true → IsAscii w
word_ascii [] h = IsAscii-nil
word_ascii (c ∷ cs) h =
    let (here, more) = and_parts (is_word c) (list_all is_word cs) h in
    IsAscii-cons c cs (grind (arith, nat_tests)) (word_ascii cs more)

pub word_utf8 : (w : List ℕ) → list_all is_word w ≡ true → IsUtf8 w
word_utf8 w h = IsUtf8-from_ascii w (word_ascii w h)

front_words : (text : List ℕ) → list_all is_word (take (prefix_len is_word text) text) ≡ true
front_words [] = refl
front_words (c ∷ cs) =
    elim (cases_Bool (is_word c)) [
      | inl y ↦ let e : 1 + prefix_len is_word cs ≡ suc (prefix_len is_word cs) = omega arith in rw (y, e) (rw y (front_words cs))
      | inr n ↦ rw n refl
    ]

pub word_all : (text : List ℕ) → list_all is_word (word text) ≡ true
unfolding word
word_all text = front_words text
