-- Only the list of terms grows, and the simpler term is alike.
use Rattle.std.proofs.Common.{refl}
use Rattle.kn_machine.proofs.Growing.{is_way_grows, grown_by, made_by}
use Rattle.kn_machine.proofs.way.Way.apply.Goals as goal

pub invariant_of-self : goal.invariant_of-self
invariant_of-self c = is_way_grows c.self.inside.terms c.apply.new.terms c.apply.ensures.grows c.self.inside.machine.registers c.self.inside.machine.memory c.self.inside.cond c.self.inside.own c.self.inside.literals c.self.invariant

pub returns-clause-term : goal.returns-clause-term
returns-clause-term c = rw (← c.self.view_is) (made_by c.apply.result c.apply.new.terms _ c.apply.ensures.value c.apply.ensures.inputs)

pub returns-clause-grows : goal.returns-clause-grows
returns-clause-grows c = grown_by c.apply.result _ _ _ c.self.view_is refl c.apply.ensures.grows c.self.invariant
