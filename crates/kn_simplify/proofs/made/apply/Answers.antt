-- A sum reads what the two terms read.
use Rattle.std.proofs.Common.{ℕ}
use Rattle.std.proofs.lemmas.Result.{IfOk-weaker}
use Rattle.kn_term.specs.declared.node.Ref.{Ref}
use Rattle.kn_term.specs.Terms.{Apply, Reads}
use Rattle.kn_term.specs.Nodes.{term_at}
use Rattle.kn_simplify.specs.Sums.{sum_term}
use Rattle.kn_simplify.proofs.made.apply.Goals as goal

pub returns-in-Some-clause-inputs : goal.returns-in-Some-clause-inputs
returns-in-Some-clause-inputs c =
    let old = c.args.terms.now in
    let new = c.added.new.terms in
    IfOk-weaker c.added.result (λ (s : Ref). (n k width : ℕ) → Reads n k width (term_at new s.index) → Reads n k width (sum_term old c.in-Some.sum))
    (λ (s : Ref). (n k width : ℕ) → Reads n k width (term_at new s.index) → Reads n k width (Apply c.args.op (term_at old c.args.x.index) (term_at old c.args.y.index)))
    (λ s f n k width r. c.in-Some.ensures.sum.term.inputs n k width (f n k width r)) c.added.ensures.inputs
