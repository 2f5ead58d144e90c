-- A literal that always holds, one of one condition, or one of the other.
use Rattle.std.proofs.Common.{subst, List, rules}
use Rattle.std.specs.Prelude.{Contains}
use Rattle.kn_term.specs.declared.node.Literal.{Literal}
use Rattle.kn_cond.specs.Meanings.{condition_of, literal_of}
use Rattle.kn_step.proofs.OneMore.{among_implies}
use Rattle.kn_step.proofs.Received.{front_implies, behind_implies}
use Rattle.kn_step.proofs.receiving.is_said.Goals as goal

pub returns-then-contains : goal.returns-then-contains
returns-then-contains c = λ t.
    let ns = c.args.terms.now in
    let l = c.args.literal in
    front_implies (condition_of ns c.args.c.now) (condition_of ns c.args.more.now) (literal_of ns l)
    (among_implies ns c.args.c.now l (subst (λ (ls : List Literal). Contains ls l) c.literals.ensures (search rules)))

pub returns-else-contains : goal.returns-else-contains
returns-else-contains c = λ t.
    let ns = c.args.terms.now in
    let l = c.args.literal in
    behind_implies (condition_of ns c.args.c.now) (condition_of ns c.args.more.now) (literal_of ns l)
    (among_implies ns c.args.more.now l (subst (λ (ls : List Literal). Contains ls l) c.literals-else-contains.ensures (search rules)))
