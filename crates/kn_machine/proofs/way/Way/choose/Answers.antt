-- Only the list of terms grows, and the simpler term is alike.
use Rattle.std.proofs.Common.{refl}
use Rattle.kn_machine.proofs.Growing.{is_way_grows, grown_by, made_by}
use Rattle.kn_machine.proofs.way.Way.choose.Goals as goal

pub invariant_of-self : goal.invariant_of-self
invariant_of-self c = is_way_grows c.self.inside.terms c.ite.new.terms c.ite.ensures.grows c.self.inside.machine.registers c.self.inside.machine.memory c.self.inside.cond c.self.inside.own c.self.inside.literals c.self.invariant

pub returns-clause-term : goal.returns-clause-term
returns-clause-term c = rw (← c.self.view_is) (made_by c.ite.result c.ite.new.terms _ c.ite.ensures.value c.ite.ensures.inputs)

pub returns-clause-grows : goal.returns-clause-grows
returns-clause-grows c = grown_by c.ite.result _ _ _ c.self.view_is refl c.ite.ensures.grows c.self.invariant
