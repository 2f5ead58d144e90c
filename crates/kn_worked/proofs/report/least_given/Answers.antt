use Rattle.kn_worked.proofs.LeastReport as report
use Rattle.kn_worked.proofs.report.least_given.Goals as goal

pub returns : goal.returns
returns c = report.least_given
