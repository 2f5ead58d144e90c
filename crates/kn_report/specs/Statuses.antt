-- The status of a call: its number, and which one a report gives.
use Rattle.std.specs.Prelude.{ℕ, nat_eq, if◌then◌else◌}
use Rattle.kn_model.specs.Reports.{Report}
use Rattle.kn_report.specs.Texts.{reached_in, open_in}
use Rattle.kn_report.specs.declared.status.Status.{Status}
use Rattle.kn_report.specs.declared.status.Status.TheVariants as statuses

abbrev pub code_of : Status → ℕ
code_of statuses.Clean = 0
code_of statuses.Found = 1
code_of statuses.Usage = 2
code_of statuses.Refused = 3
code_of statuses.ReadFault = 4
code_of statuses.WriteFault = 5
code_of statuses.Memory = 6
code_of statuses.Limit = 7
code_of statuses.Open = 8

-- Found where a failure is reached, else Open where a state or a failure is open, else Clean
abbrev pub status_in : Report → Status
status_in r = if nat_eq (reached_in r) 0 then (if nat_eq (open_in r) 0 then statuses.Clean else statuses.Open) else statuses.Found
