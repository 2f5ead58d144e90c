use Rattle.kn_worked.proofs.ChoosyReports as reports
use Rattle.kn_worked.proofs.CopiedReport as copied
use Rattle.kn_worked.proofs.reports.nowhere.Goals as goal

pub returns-clause-given : goal.returns-clause-given
returns-clause-given c = copied.nowhere_given

pub returns-clause-not_open : goal.returns-clause-not_open
returns-clause-not_open c = copied.nowhere_not_open

pub returns-clause-met : goal.returns-clause-met
returns-clause-met c = reports.nowhere_not_given
