-- The index after room is made.
use Rattle.std.specs.HashMap.{get}
use Rattle.kn_aig.specs.Circuits.{same_pair}
use Rattle.kn_aig.proofs.Longer.{IsIndex-same}
use Rattle.kn_aig.proofs.aig.make_room.Goals as goal

pub returns-clause-index : goal.returns-clause-index
returns-clause-index c = λ ns is. IsIndex-same ns (get same_pair c.args.gates.now) (get same_pair c.reserve-2.new.self) c.reserve-2.ensures.entries.2 is
