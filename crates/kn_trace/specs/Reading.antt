-- What reading a trace's text answers.
use Rattle.std.specs.Prelude.{◌≡◌, Bool, List, ⊤}
use Rattle.std.specs.declared.result.Result.{Result}
use Rattle.std.specs.Prelude.{Ok, Err}
use Rattle.kn_trace.specs.declared.read.TraceFault.{TraceFault}
use Rattle.kn_trace.specs.declared.read.TraceFault.TheVariants as faults

-- these bits, unless memory is wanting
abbrev pub IsReadAs : List Bool → Result (List Bool) TraceFault → Type 0
IsReadAs bits (Ok t) = t ≡ bits
IsReadAs bits (Err (faults.Bad place)) = ⊥
IsReadAs bits (Err (faults.Memory e)) = ⊤
