-- Codes and names differ, so each row is the first with its own.
use Rattle.std.specs.Prelude.{nat_eq, map, refl}
use Rattle.std.specs.Str.{bytes_eq}
use Rattle.kn_ops.specs.Table.{Entry, instructions}
use Rattle.kn_ops.proofs.Tables.{IsDistinct-differ, one_by_key, nat_eq-same, bytes_eq-same}
use Rattle.kn_ops.proofs.table.one_row.Goals as goal

pub returns-clause-codes : goal.returns-clause-codes
returns-clause-codes c =
    one_by_key nat_eq nat_eq-same (λ (e : Entry). e.code) instructions (IsDistinct-differ nat_eq (map (λ (e : Entry). e.code) instructions) refl)

pub returns-clause-names : goal.returns-clause-names
returns-clause-names c =
    one_by_key bytes_eq bytes_eq-same (λ (e : Entry). e.name) instructions (IsDistinct-differ bytes_eq (map (λ (e : Entry). e.name) instructions) refl)
