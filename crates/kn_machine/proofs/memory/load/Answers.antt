use Rattle.std.proofs.Common.{subst}
use Rattle.std.specs.Prelude.{IfOk}
use Rattle.kn_term.specs.Nodes.{term_at}
use Rattle.kn_term.specs.Terms.{Term}
use Rattle.kn_model.specs.Terms.{terms}
use Rattle.kn_model.specs.Rows.{element, span}
use Rattle.kn_model.specs.Alikes.{TermAlike}
use Rattle.kn_machine.specs.Ways.{way_of}
use Rattle.kn_machine.proofs.memory.load.Goals as goal

pub returns-clause-term : goal.returns-clause-term
returns-clause-term c =
    subst (λ (x : Term). IfOk c.element.result (λ r. TermAlike (term_at c.element.new.way.terms r.index) (element terms x 0 (span terms (way_of c.args.way.now).state.memory c.args.m c.args.n)))) c.register-index.ensures.term c.element.ensures.term
