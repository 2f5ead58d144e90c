-- Searching the entries is searching the rows.
use Rattle.std.specs.Prelude.{find}
use Rattle.std.specs.Str.{bytes_eq}
use Rattle.std.specs.Option.{option_map}
use Rattle.std.proofs.Common.{◌∙◌, ap}
use Rattle.kn_ops.specs.Table.{Entry, entry_of}
use Rattle.kn_ops.proofs.Tables.{find-map}
use Rattle.kn_ops.proofs.table.OpTable+36.by_name.Goals as goal

pub returns : goal.returns
returns c =
    ap (option_map entry_of) c.first_with_name.ensures
    ∙ find-map entry_of (λ (e : Entry). bytes_eq e.name c.args.name.now) c.self.inside.rows
    ∙ ap (find (λ (e : Entry). bytes_eq e.name c.args.name.now)) c.self.view_is
