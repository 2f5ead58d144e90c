use Rattle.kn_worked.proofs.ChoosyReports as reports
use Rattle.kn_worked.proofs.reports.left_open.Goals as goal

pub returns-clause-given : goal.returns-clause-given
returns-clause-given c = reports.open_given

pub returns-clause-state : goal.returns-clause-state
returns-clause-state c = reports.open_not_given

pub returns-clause-failure : goal.returns-clause-failure
returns-clause-failure c = reports.undecided_not_given
