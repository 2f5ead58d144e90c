-- A literal that is said already, and one that is added.
use Rattle.std.proofs.Common.{sym, subst}
use Rattle.kn_term.specs.declared.node.Literal.{Literal}
use Rattle.kn_cond.specs.Meanings.{StandIn}
use Rattle.kn_cond.proofs.Kept.{StandIn-extends}
use Rattle.kn_step.proofs.Received.{said_one, added_one, one_more_stands}
use Rattle.kn_step.proofs.receiving.add_literal.Goals as goal

pub returns-then-is_said-clause-alike : goal.returns-then-is_said-clause-alike
returns-then-is_said-clause-alike c =
    said_one c.args.terms.now c.import.new.self c.args.other.now c.args.c.now c.args.more.now c.args.literal c.in_ok-term.term c.in_ok-term.ensures.term c.import.ensures.grows c.requires.c c.requires.more (c.is_said.ensures c.if-is_said.true)

pub returns-then-is_said-clause-stands : goal.returns-then-is_said-clause-stands
returns-then-is_said-clause-stands c = StandIn-extends c.args.terms.now c.import.new.self c.args.more.now c.import.ensures.grows c.requires.more

pub returns-clause-alike : goal.returns-clause-alike
returns-clause-alike c =
    added_one c.args.terms.now c.import.new.self c.args.other.now c.args.c.now c.args.more.now c.add.new.self c.args.literal c.in_ok-term.term c.in_ok-term.ensures.term c.import.ensures.grows c.requires.c c.requires.more c.in_ok-add.ensures.ok

pub returns-clause-stands : goal.returns-clause-stands
returns-clause-stands c =
    let own : Literal = record { term = c.in_ok-term.term; truth = c.args.literal.truth } in
    subst (StandIn c.import.new.self) (sym c.in_ok-add.ensures.ok)
    (one_more_stands c.import.new.self c.args.more.now own (StandIn-extends c.args.terms.now c.import.new.self c.args.more.now c.import.ensures.grows c.requires.more) c.in_ok-term.ensures.stands)
