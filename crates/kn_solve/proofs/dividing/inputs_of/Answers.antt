-- The terms of the literals stand, and what they read was opened.
use Rattle.std.proofs.Common.{◌∙◌}
use Rattle.kn_solve.proofs.Stating.{if_each}
use Rattle.kn_solve.proofs.Sharing.{names_stand, names_read}
use Rattle.kn_solve.proofs.dividing.inputs_of.Goals as goal

pub open-requires-clause-roots : goal.open-requires-clause-roots
open-requires-clause-roots c = names_stand c.args.terms.now c.args.literals.now _ (c.deref.ensures.value ∙ c.in_ok-named.ensures) c.requires

pub returns : goal.returns
returns c = if_each c.open.result _ _ (λ m covers. names_read c.args.terms.now c.args.literals.now _ m (c.deref.ensures.value ∙ c.in_ok-named.ensures) c.order.ensures.order c.requires covers) c.open.ensures.covers
