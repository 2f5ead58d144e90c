-- What `parse` reads, against the one form of a number.
use Rattle.std.proofs.Common.{◌∙◌}
use Rattle.std.proofs.lemmas.Bool.{lt-leb}
use Rattle.kn_words.proofs.Numbers.{read_large, read_none, read_small}
use Rattle.kn_words.proofs.number.is_number.Goals as goal

pub returns-then-number-le-MOST_MADE : goal.returns-then-number-le-MOST_MADE
returns-then-number-le-MOST_MADE c = read_small c.args.text.now c.in-Ok.number c.is_plain.result c.in-Ok.ensures.value.0 c.if-number-le-MOST_MADE.true (rw c.as_bytes.ensures.value at c.is_plain.ensures)

pub returns-else-number-le-MOST_MADE : goal.returns-else-number-le-MOST_MADE
returns-else-number-le-MOST_MADE c = lt-leb c.in-Ok.number 35 c.if-number-le-MOST_MADE.false ∙ read_large c.args.text.now c.in-Ok.number c.in-Ok.ensures.value.0 c.if-number-le-MOST_MADE.false

pub returns-in-Err : goal.returns-in-Err
returns-in-Err c = read_none c.args.text.now c.in-Err.field-0 c.in-Err.ensures.value.0
