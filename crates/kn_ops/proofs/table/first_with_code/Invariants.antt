-- The rows that are left hold the first one that fits.
use Rattle.std.specs.Prelude.{◌≡◌, find, nat_eq, drop}
use Rattle.kn_ops.proofs.table.first_with_code.Given as goal

abbrev pub invariant-loop-row : goal.invariant-loop-row
invariant-loop-row l =
    find (λ r. nat_eq r.code l.code) (drop l.row-index l.rows) ≡ find (λ r. nat_eq r.code l.code) l.rows
