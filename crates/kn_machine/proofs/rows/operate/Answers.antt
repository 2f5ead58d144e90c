use Rattle.kn_term.specs.Nodes.{term_at}
use Rattle.kn_model.specs.Terms.{terms}
use Rattle.kn_model.specs.Rows.{register}
use Rattle.kn_machine.specs.Ways.{way_of}
use Rattle.kn_machine.proofs.Stepping.{operate_step, applied, grown_self, equal_alike}
use Rattle.kn_machine.proofs.rows.operate.Goals as goal

pub returns : goal.returns
returns c net spot =
    let v = c.args.way.now in
    let u = c.apply.new.self in
    let op = c.args.op in
    let x = term_at v.terms c.register-x.result.index in
    let y = term_at v.terms c.register-y.result.index in
    let made = term_at u.terms c.in_ok-r.r.index in
    operate_step net spot op c.args.a c.args.b c.args.c v u c.set.new.way c.set.result made c.in_ok-r.ensures.grows
    (applied v v op c.args.b x y (register terms (way_of v) c.args.c) made (grown_self v) c.register-x.ensures.term (equal_alike _ _ c.register-y.ensures.term) c.in_ok-r.ensures.term)
    c.set.ensures.way c.set.ensures.still c.set.ensures.goes
