use Rattle.std.proofs.Common.{refl}
use Rattle.kn_word.specs.declared.Op.TheVariants as ops
use Rattle.kn_term.specs.Terms.{Word}
use Rattle.kn_term.specs.Nodes.{term_at}
use Rattle.kn_machine.proofs.Stepping.{applied}
use Rattle.kn_machine.proofs.rows.in_range.Goals as goal

pub returns-clause-step : goal.returns-clause-step
returns-clause-step c =
    let v = c.args.way.now in
    let u = c.konst.new.self in
    let w = c.apply.new.self in
    (c.in_ok-term.ensures.stands, applied v u ops.Ult c.args.b (term_at u.terms c.register-index.result.index) (term_at u.terms c.in_ok-bound.bound.index) (Word c.args.n) (term_at w.terms c.in_ok-term.term.index) c.in_ok-bound.ensures.grows c.register-index.ensures.term c.in_ok-bound.ensures.term c.in_ok-term.ensures.term, refl)
