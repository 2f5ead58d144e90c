-- Numbers in their one form.
use Rattle.std.proofs.Common.{◌≡◌, ◌∙◌, ℕ, ◌<◌, ◌≤◌, Bool, true, false, List, length, slice_index, refl, sym, ap, arith, decimal, Result, Ok, Err, inl, inr}
use Rattle.std.specs.Fmt.{digits}
use Rattle.std.specs.Str.Parse.{AllDigits, IsNumeral, ParsesUnsigned, digits_value, without_leading_plus}
use Rattle.std.proofs.lemmas.Bool.{agree_below, agree_below_at, and_from, and_parts, leb-true, le-leb, false_from_ne_true, eqb-false, not-true, or_cases}
use Rattle.std.proofs.lemmas.Fmt.{decimal_is_IsNumeral, decimal-digits_value, parse-decimal}
use Rattle.std.proofs.lemmas.Slice.Eq.{bytes_eq-Decides}
use Rattle.std.proofs.lemmas.Str.Parse.{IsNumeralModel, without_leading_plus_none}
use Rattle.kn_words.specs.Options.{most_made}
use Rattle.kn_words.specs.Reading.{is_number, is_plain}

-- the text is that of a number that may be made
abbrev pub IsNumber : List ℕ → Type 0
IsNumber text = (number : ℕ) × (text ≡ decimal number) × (number ≤ most_made)

own : IsNumeralModel (AllDigits 10) (digits_value 10)
own = record { to = λ ds h. h; from = λ ds h. h; same = λ ds h. refl }

pub value_of_decimal : (n : ℕ) → n ≤ most_made → digits_value 10 (decimal n) ≡ n
value_of_decimal n small = (decimal_is_IsNumeral n (omega arith)).1

-- one text, one number
pub one_number : (m n : ℕ) → m ≤ most_made → n ≤ most_made → decimal m ≡ decimal n → m ≡ n
one_number m n small little e = sym (value_of_decimal m small) ∙ ap (digits_value 10) e ∙ value_of_decimal n little

plain_below : agree_below (λ n. is_plain (decimal n)) (λ _. true) 36 ≡ true
unfolding digits
plain_below = refl

pub plain_decimal : (n : ℕ) → n ≤ most_made → is_plain (decimal n) ≡ true
plain_decimal n small = agree_below_at (λ m. is_plain (decimal m)) (λ _. true) 36 n plain_below (omega arith)

-- the test is true of such texts alone
pub number_tells : (text : List ℕ) → is_number text ≡ true → IsNumber text
number_tells text e = let both = and_parts _ _ e in (
  digits_value 10 text,
  (bytes_eq-Decides text (decimal (digits_value 10 text))).0 both.1,
  leb-true _ _ both.0,
)

pub number_from : (text : List ℕ) → IsNumber text → is_number text ≡ true
number_from text (n, is, small) =
    let value : digits_value 10 text ≡ n = ap (digits_value 10) is ∙ value_of_decimal n small in
    and_from _ _ (le-leb _ _ (omega (arith, value))) ((bytes_eq-Decides text (decimal (digits_value 10 text))).1 (is ∙ ap decimal (sym value)))

-- ---- what `parse` reads

-- the number that is read of a text
abbrev pub IsRead : List ℕ → ℕ → Type 0
IsRead text n = ParsesUnsigned {E = ℕ} 8 10 text (Ok n)

-- what is read of such a text is its number
pub number_read : {E : Type 0} (text : List ℕ) (r : Result ℕ E) → ParsesUnsigned 8 10 text r → (given : IsNumber text) → r ≡ Ok given.0
number_read text r parses (n, is, small) = parse-decimal 8 n text r (omega arith) (omega arith) is parses

large_number : (text : List ℕ) (n : ℕ) → IsRead text n → most_made < n → IsNumber text → ⊥
large_number text n parses large given =
    let same : ◌≡◌ {A = Result ℕ ℕ} (Ok n) (Ok given.0) = number_read text (Ok n) parses given in
    let equal : n ≡ given.0 = cc in
    omega (arith, equal, given.2)

pub read_large : (text : List ℕ) (n : ℕ) → IsRead text n → most_made < n → false ≡ is_number text
read_large text n parses large = sym (false_from_ne_true _ (λ e. large_number text n parses large (number_tells text e)))

no_number : {E : Type 0} (text : List ℕ) (e : E) → ParsesUnsigned 8 10 text (Err e) → IsNumber text → ⊥
no_number text e parses given =
    let same : Err e ≡ Ok given.0 = number_read text (Err e) parses given in
    cc

pub read_none : {E : Type 0} (text : List ℕ) (e : E) → ParsesUnsigned 8 10 text (Err e) → false ≡ is_number text
read_none text e parses = sym (false_from_ne_true _ (λ holds. no_number text e parses (number_tells text holds)))

-- of what is read, digits in their one form are such a text
plain_read : (text : List ℕ) (n : ℕ) → IsRead text n → n ≤ most_made → is_plain text ≡ true → IsNumber text
plain_read text n parses small plain =
    let both = and_parts _ _ plain in
    let bare : without_leading_plus text ≡ text = without_leading_plus_none text (eqb-false _ _ (not-true _ both.0)) in
    let numeral : IsNumeral 10 text = rw bare at parses.0.0 in
    let value : n ≡ digits_value 10 text = rw bare at parses.1 in
    let one : slice_index text 0 ≡ 48 → length text ≡ 1 = λ zero. elim (or_cases _ _ both.1) [
      | inl other ↦ absurd (eqb-false _ _ (not-true _ other) zero)
      | inr short ↦ let few : length text ≤ 1 = leb-true _ _ short in omega (arith, numeral.0)
    ] in
    let spelled : decimal (digits_value 10 text) ≡ text = decimal-digits_value own text numeral.1 numeral.0 one (omega (arith, value)) in
    (n, sym spelled ∙ ap decimal (sym value), small)

no_plain : (text : List ℕ) → is_plain text ≡ false → IsNumber text → ⊥
no_plain text plain given =
    let holds : is_plain text ≡ true = ap is_plain given.1 ∙ plain_decimal given.0 given.2 in
    cc

pub read_small : (text : List ℕ) (n : ℕ) (plain : Bool) → IsRead text n → n ≤ most_made → plain ≡ is_plain text → plain ≡ is_number text
read_small text n true parses small is = sym (number_from text (plain_read text n parses small (sym is)))
read_small text n false parses small is = sym (false_from_ne_true _ (λ holds. no_plain text (sym is) (number_tells text holds)))
