-- Digits are text, and are read as their number.
use Rattle.std.proofs.Common.{◌≡◌, ◌<◌, ◌^◌, ℕ, List, refl, sym, subst, ◌∙◌}
use Rattle.std.specs.Prelude.{Ok, Err, Some, Result}
use Rattle.std.specs.Fmt.{decimal}
use Rattle.std.specs.Str.{IsUtf8}
use Rattle.std.specs.Str.Parse.{ParsesUnsigned}
use Rattle.std.proofs.lemmas.Fmt.{IsAscii-decimal, parse-decimal}
use Rattle.std.proofs.lemmas.Str.{IsUtf8-from_ascii}
use Rattle.std.specs.declared.num.ParseIntError.{ParseIntError}
use Rattle.kn_report.proofs.word.number_of.Goals as goal

is_text : (n : ℕ) (ds : List ℕ) → n < 2 ^ 64 → ds ≡ decimal n → IsUtf8 ds
is_text n ds h is = subst IsUtf8 (sym is) (IsUtf8-from_ascii (decimal n) (IsAscii-decimal n h))

is_read : {E : Type 0} (n : ℕ) (ds text : List ℕ) (r : Result ℕ E) → n < 2 ^ 64 → text ≡ ds → ds ≡ decimal n → ParsesUnsigned 64 10 text r → r ≡ Ok n
is_read n ds text r h same is parses = parse-decimal 64 n text r h h (same ∙ is) parses

is_number : {E : Type 0} (n number : ℕ) (r : Result ℕ E) → r ≡ Ok number → r ≡ Ok n → Some number ≡ Some n
is_number n number r a b = let same : Ok number ≡ Ok n = sym a ∙ b in cc

no_error : {E P : Type 0} (n : ℕ) (e : E) (r : Result ℕ E) → r ≡ Err e → r ≡ Ok n → P
no_error n e r a b = let wrong : Err e ≡ Ok n = sym a ∙ b in absurd cc

pub returns-in_default : goal.returns-in_default
returns-in_default c = λ n h is. absurd (c.in_default.ensures.cases.0 (is_text n c.args.digits.now h is))

pub returns-in-Ok-from_str_radix : goal.returns-in-Ok-from_str_radix
returns-in-Ok-from_str_radix c = λ n h is. is_number {E = ParseIntError} n c.in-Ok-from_str_radix.number (Ok c.in-Ok-from_str_radix.number) refl (is_read n c.args.digits.now c.in-Ok.text.now (Ok c.in-Ok-from_str_radix.number) h c.in-Ok.ensures.cases.0 is c.in-Ok-from_str_radix.ensures.value)

pub returns-in-Err : goal.returns-in-Err
returns-in-Err c = λ n h is. no_error {E = ParseIntError} n c.in-Err.field-0 (Err c.in-Err.field-0) refl (is_read n c.args.digits.now c.in-Ok.text.now (Err c.in-Err.field-0) h c.in-Ok.ensures.cases.0 is c.in-Err.ensures.value)
