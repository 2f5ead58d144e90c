-- A word of memory is set.
use Rattle.std.proofs.Common.{ap, ◌∙◌, refl}
use Rattle.kn_machine.specs.contracts.way.Way.{the_view}
use Rattle.kn_machine.proofs.Changing.{word_stands, word_set}
use Rattle.kn_machine.proofs.way.Way.set_word.Goals as goal

pub invariant_of-self : goal.invariant_of-self
invariant_of-self c = word_stands c.args.self.now _ _ c.args.place c.args.r (ap the_view c.self-inside.view_is) c.self.view_is c.self.invariant c.requires.stands

pub returns-clause-way : goal.returns-clause-way
returns-clause-way c = word_set c.args.self.now _ _ c.args.place c.args.r (ap the_view c.self-inside.view_is ∙ c.self.view_is) refl
