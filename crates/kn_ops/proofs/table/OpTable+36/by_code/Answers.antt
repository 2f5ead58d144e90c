-- Searching the entries is searching the rows.
use Rattle.std.specs.Prelude.{nat_eq, find}
use Rattle.std.specs.Option.{option_map}
use Rattle.std.proofs.Common.{◌∙◌, ap}
use Rattle.kn_ops.specs.Table.{Entry, entry_of}
use Rattle.kn_ops.proofs.Tables.{find-map}
use Rattle.kn_ops.proofs.table.OpTable+36.by_code.Goals as goal

pub returns : goal.returns
returns c =
    ap (option_map entry_of) c.first_with_code.ensures
    ∙ find-map entry_of (λ (e : Entry). nat_eq e.code c.args.code) c.self.inside.rows
    ∙ ap (find (λ (e : Entry). nat_eq e.code c.args.code)) c.self.view_is
