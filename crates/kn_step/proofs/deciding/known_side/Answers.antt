-- A literal, or its negation, among what is known.
use Rattle.std.proofs.Common.{subst, List, rules}
use Rattle.std.specs.Prelude.{Contains}
use Rattle.kn_term.specs.declared.node.Literal.{Literal as Listed}
use Rattle.kn_term.specs.Terms.{Term}
use Rattle.kn_cond.specs.Literals.{Literal, negated}
use Rattle.kn_cond.specs.Meanings.{literal_of, condition_of}
use Rattle.kn_machine.specs.Ways.{WayView, known_of}
use Rattle.kn_step.specs.Sides.{Implies}
use Rattle.kn_step.proofs.OneMore.{among_implies}
use Rattle.kn_step.proofs.deciding.known_side.Goals as goal

pub returns-then-contains : goal.returns-then-contains
returns-then-contains c =
    let w = c.way.inside in
    let stands : Contains c.literals-known.result.now c.args.literal = search rules in
    let among = among_implies w.terms w.cond c.args.literal (subst (λ (ls : List Listed). Contains ls c.args.literal) c.literals-known.ensures stands) in
    record {
      holds = λ t. subst (λ (v : WayView). Implies (known_of v) (literal_of v.terms c.args.literal)) c.way.view_is among;
      fails = λ f. absurd cc;
    }

pub returns-then-contains-2 : goal.returns-then-contains-2
returns-then-contains-2 c =
    let w = c.way.inside in
    let stands : Contains c.literals-known.result.now c.negated.result = search rules in
    let among = among_implies w.terms w.cond c.negated.result (subst (λ (ls : List Listed). Contains ls c.negated.result) c.literals-known.ensures stands) in
    record {
      holds = λ t. absurd cc;
      fails = λ f. subst (λ (v : WayView). Implies (known_of v) (negated (literal_of v.terms c.args.literal))) c.way.view_is (subst (λ (l : Literal Term). Implies (condition_of w.terms w.cond) l) (c.negated.ensures.truth w.terms) among);
    }
