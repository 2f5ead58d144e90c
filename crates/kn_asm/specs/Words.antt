-- Blanks, words, names and numbers, in the bytes of a text.
use Rattle.std.specs.Prelude.{ℕ, Bool, not, ◌&&◌, ◌||◌, ◌==◌, nat_le, if◌then◌else◌, List, length, take, drop, Option, Some, None, slice_index}
use Rattle.std.specs.List.{prefix_len, list_all}
use Rattle.std.specs.Char.{is_ascii_alphanumeric, is_digit}
use Rattle.std.specs.Str.Parse.{digits_value}

-- a letter, a digit or '_'
abbrev pub is_word : ℕ → Bool
is_word c = is_ascii_alphanumeric c || (c == 95)

-- a space or a tab
abbrev pub is_blank : ℕ → Bool
is_blank c = (c == 32) || (c == 9)

-- no ';'
abbrev pub is_code : ℕ → Bool
is_code c = not (c == 59)

-- what follows the blanks at the front
unfoldable pub skip : List ℕ → List ℕ
skip text = drop (prefix_len is_blank text) text

-- the word at the front, as long as it can be
unfoldable pub word : List ℕ → List ℕ
word text = take (prefix_len is_word text) text

-- what follows the word at the front
unfoldable pub after_word : List ℕ → List ℕ
after_word text = drop (prefix_len is_word text) text

-- the part before the comment
unfoldable pub uncommented : List ℕ → List ℕ
uncommented text = take (prefix_len is_code text) text

-- whether a word is a name: it begins with no digit, and has 1 to 32 bytes
abbrev pub is_name : List ℕ → Bool
is_name w = not (length w == 0) && (nat_le (length w) 32 && not (is_digit (slice_index w 0) 10))

-- the value of one digit or more, where it is at most 65,535
abbrev pub numeral_of_lem : ℕ → List ℕ → Option ℕ
numeral_of_lem radix w =
    if not (length w == 0) && (list_all (λ c. is_digit c radix) w && nat_le (digits_value radix w) 65535) then Some (digits_value radix w) else None

-- a decimal number: `0`, or digits that do not begin with 0
abbrev pub decimal_of_lem : List ℕ → Option ℕ
decimal_of_lem w = if (slice_index w 0 == 48) && not (length w == 1) then None else numeral_of_lem 10 w

-- a number: one to four hexadecimal digits behind `0x`, or a decimal number
abbrev pub number_of_lem : List ℕ → Option ℕ
number_of_lem w =
    if (slice_index w 0 == 48) && (slice_index w 1 == 120) then (if nat_le (length w) 6 then numeral_of_lem 16 (drop 2 w) else None)
    else decimal_of_lem w
