-- Digits are text, and are refused where they are too many.
use Rattle.std.proofs.Common.{◌<◌, length, sym, arith}
use Rattle.std.proofs.lemmas.Bool.Decides.{nat_tests}
use Rattle.kn_asm.proofs.Numbers.{digits_utf8, numeral_refused}
use Rattle.kn_asm.proofs.words.numeral_of.Goals as goal

pub returns-in_default : goal.returns-in_default
returns-in_default c = absurd (c.in_default.ensures.cases.0 (digits_utf8 c.args.radix c.args.word.now c.requires.high (sym c.if-not-are_digits.ensures)))

pub returns-in-Err : goal.returns-in-Err
returns-in-Err c =
    let some : 0 < length c.args.word.now = grind (arith, nat_tests, c.is_empty.ensures, c.if-is_empty.false) in
    numeral_refused c.args.radix c.args.word.now c.requires.high some (sym c.if-not-are_digits.ensures) (rw (sym c.in-Ok.ensures.cases.0) c.in-Err.ensures.value)
