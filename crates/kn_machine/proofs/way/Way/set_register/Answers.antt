-- A register is set.
use Rattle.std.proofs.Common.{ap, ◌∙◌, refl}
use Rattle.kn_machine.specs.contracts.way.Way.{the_view}
use Rattle.kn_machine.proofs.Changing.{register_stands, register_set}
use Rattle.kn_machine.proofs.way.Way.set_register.Goals as goal

pub invariant_of-self : goal.invariant_of-self
invariant_of-self c = register_stands c.args.self.now _ _ c.args.a c.args.r (ap the_view c.self-inside.view_is) c.self.view_is c.self.invariant c.requires.stands

pub returns-clause-way : goal.returns-clause-way
returns-clause-way c = register_set c.args.self.now _ _ c.args.a c.args.r (ap the_view c.self-inside.view_is ∙ c.self.view_is) refl
