use Rattle.kn_worked.proofs.OtherPick as picks
use Rattle.kn_worked.proofs.reports.two_picks.Goals as goal

pub returns-clause-first : goal.returns-clause-first
returns-clause-first c = picks.first_pick_reached

pub returns-clause-later : goal.returns-clause-later
returns-clause-later c = picks.later_pick_not_given
