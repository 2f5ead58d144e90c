-- The rows that are left hold the first one that fits.
use Rattle.std.specs.Prelude.{◌≡◌, find, drop}
use Rattle.std.specs.Str.{bytes_eq}
use Rattle.kn_ops.proofs.table.first_with_name.Given as goal

abbrev pub invariant-loop-row : goal.invariant-loop-row
invariant-loop-row l =
    find (λ r. bytes_eq r.name.now l.name) (drop l.row-index l.rows) ≡ find (λ r. bytes_eq r.name.now l.name) l.rows
