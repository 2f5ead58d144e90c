-- What is read, and what is left to read.
use Rattle.std.proofs.Common.{◌≡◌, ◌++◌, map, drop}
use Rattle.kn_asm.specs.Lines.{line_of_lem}
use Rattle.kn_asm.proofs.line.read_rows.Given as goal

abbrev pub invariant-loop-row : goal.invariant-loop-row
invariant-loop-row l = l.lines.items ++ map line_of_lem (map (λ x. x.now) (drop l.row-index l.rows)) ≡ map line_of_lem (map (λ x. x.now) l.rows)
