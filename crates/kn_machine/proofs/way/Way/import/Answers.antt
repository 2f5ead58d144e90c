-- Only the list of terms grows.
use Rattle.std.proofs.Common.{refl}
use Rattle.kn_machine.proofs.Growing.{is_way_grows, grown_by}
use Rattle.kn_machine.proofs.way.Way.import.Goals as goal

pub invariant_of-self : goal.invariant_of-self
invariant_of-self c = is_way_grows c.self.inside.terms c.import.new.self c.import.ensures.grows c.self.inside.machine.registers c.self.inside.machine.memory c.self.inside.cond c.self.inside.own c.self.inside.literals c.self.invariant

pub returns-clause-grows : goal.returns-clause-grows
returns-clause-grows c = grown_by c.import.result _ _ _ c.self.view_is refl c.import.ensures.grows c.self.invariant
