-- What reading a log's text answers.
use Rattle.std.specs.Prelude.{◌≡◌, List, ⊤, Ok, Err}
use Rattle.std.specs.declared.result.Result.{Result}
use Rattle.kn_cnf.specs.Formulas.{Step}
use Rattle.kn_unsat.specs.declared.reading.LogFault.{LogFault}
use Rattle.kn_unsat.specs.declared.reading.LogFault.TheVariants as faults

-- this log, unless memory is wanting
abbrev pub IsReadAs : List Step → Result (List Step) LogFault → Type 0
IsReadAs log (Ok l) = l ≡ log
IsReadAs log (Err (faults.Bad line)) = ⊥
IsReadAs log (Err (faults.Memory e)) = ⊤
