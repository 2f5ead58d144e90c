-- The table is tested.
use Rattle.std.specs.Prelude.{nat_eq, map, refl}
use Rattle.std.specs.Str.{bytes_eq}
use Rattle.kn_ops.specs.Table.{Entry, instructions}
use Rattle.kn_ops.proofs.Tables.{IsDistinct-differ}
use Rattle.kn_ops.proofs.table.rows_differ.Goals as goal

pub returns-clause-codes : goal.returns-clause-codes
returns-clause-codes c = IsDistinct-differ nat_eq (map (λ (e : Entry). e.code) instructions) refl

pub returns-clause-names : goal.returns-clause-names
returns-clause-names c = IsDistinct-differ bytes_eq (map (λ (e : Entry). e.name) instructions) refl
