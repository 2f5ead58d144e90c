use Rattle.kn_worked.proofs.ChoosyReports as reports
use Rattle.kn_worked.proofs.reports.reached.Goals as goal

pub returns-clause-given : goal.returns-clause-given
returns-clause-given c = reports.reached_given

pub returns-clause-state_not_least : goal.returns-clause-state_not_least
returns-clause-state_not_least c = reports.state_not_least

pub returns-clause-failure_not_least : goal.returns-clause-failure_not_least
returns-clause-failure_not_least c = reports.failure_not_least

pub returns-clause-no_line : goal.returns-clause-no_line
returns-clause-no_line c = reports.no_failure_line
