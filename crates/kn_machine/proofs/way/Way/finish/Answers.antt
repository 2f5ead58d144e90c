-- The path of a way has all that is known as its own condition.
use Rattle.std.proofs.Common.{refl, ◌∙◌}
use Rattle.kn_machine.proofs.Ending.{path_is}
use Rattle.kn_machine.proofs.way.Way.finish.Goals as goal

pub returns-clause-path : goal.returns-clause-path
returns-clause-path c = path_is c.args.self _ _ c.extend.new.self c.args.node c.args.history (c.way.view_is ∙ c.freeze.ensures) c.way.invariant.known c.in_ok-extend.ensures.ok refl
