-- The cases of the bytes.
use Rattle.std.proofs.Common.{rules}
use Rattle.toml.specs.View.{table_view}
use Rattle.kn_netfile.proofs.Cases.{is_too_long, is_no_document, is_document}
use Rattle.kn_netfile.proofs.reading.read.Goals as goal

pub returns-then-bytes-gt-MOST_BYTES : goal.returns-then-bytes-gt-MOST_BYTES
returns-then-bytes-gt-MOST_BYTES c = rw (is_too_long c.args.bytes.now c.if-bytes-gt-MOST_BYTES.true) c.refused.ensures

pub returns-in-Ok : goal.returns-in-Ok
returns-in-Ok c =
    let (text, is) = c.in-Ok.ensures.ok in
    rw (is_document c.args.bytes.now (table_view c.in-Ok.table) c.if-bytes-gt-MOST_BYTES.false text is) c.net_of_table.ensures

pub returns-else-is_memory : goal.returns-else-is_memory
returns-else-is_memory c =
    let none = c.in-Err.ensures.refused (search (rules, c.if-is_memory.ensures)) in
    rw (is_no_document c.args.bytes.now c.if-bytes-gt-MOST_BYTES.false none) c.refused-in-Err.ensures
