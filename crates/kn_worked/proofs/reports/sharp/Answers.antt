use Rattle.kn_worked.proofs.SharpHalves as sharp
use Rattle.kn_worked.proofs.reports.sharp.Goals as goal

pub returns-clause-one : goal.returns-clause-one
returns-clause-one c = sharp.sharp_halves

pub returns-clause-four : goal.returns-clause-four
returns-clause-four c = sharp.not_sharp_halves
