-- When the program says that a file is accepted, and when that it is refused.
use Rattle.std.specs.Prelude.{ℕ, ⊤, List}
use Rattle.kn_plan.specs.Nets.{Network}
use Rattle.netsym.specs.Refusals.{IsAccepted}
use Rattle.netsym.specs.Exact.{IsDescribed}
use Rattle.kn_report.specs.declared.status.Status.{Status}
use Rattle.kn_report.specs.declared.status.Status.TheVariants as statuses

-- netsym accepts the bytes
abbrev pub IsRun : List ℕ → Type 0
IsRun bytes = (net : Network) × IsAccepted bytes net

-- The status is right for a source of these bytes: Clean where netsym accepts them, and Refused where it refuses them; a
-- fault or want of memory may come between.
abbrev pub IsSaid : List ℕ → Status → Type 0
IsSaid bytes statuses.Clean = IsDescribed bytes
IsSaid bytes statuses.Refused = IsDescribed bytes → ⊥
IsSaid bytes statuses.ReadFault = ⊤
IsSaid bytes statuses.WriteFault = ⊤
IsSaid bytes statuses.Memory = ⊤
IsSaid bytes other = ⊥
