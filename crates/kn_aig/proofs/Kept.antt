-- What callers need to know of a circuit that became longer.
use Rattle.kn_aig.proofs.Longer.{value_of-extends}
use Rattle.kn_aig.proofs.Values.{extends_twice}
use Rattle.kn_aig.proofs.Chains.{longer}

-- edges keep their values and stay in a longer circuit
pub ruleset kept = (value_of-extends, extends_twice, longer)
