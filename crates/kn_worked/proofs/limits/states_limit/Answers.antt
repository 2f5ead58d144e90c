use Rattle.kn_worked.proofs.OneHalf as half
use Rattle.kn_worked.proofs.limits.states_limit.Goals as goal

pub returns-clause-places : goal.returns-clause-places
returns-clause-places c = half.places_over

pub returns-clause-prefixes : goal.returns-clause-prefixes
returns-clause-prefixes c = half.prefixes_over

pub returns-clause-kept : goal.returns-clause-kept
returns-clause-kept c = half.places_kept
