use Rattle.std.proofs.Common.{refl, ◌+◌, Some}
use Rattle.kn_code.specs.declared.program.Instr.TheVariants as instrs
use Rattle.kn_model.specs.Terms.{terms}
use Rattle.kn_model.specs.Rows.{with_timer}
use Rattle.kn_machine.specs.Ways.{way_of}
use Rattle.kn_machine.proofs.Stepping.{next_step}
use Rattle.kn_machine.proofs.rows.timer.Goals as goal

pub returns : goal.returns
returns c net =
    let v = c.args.way.now in
    next_step net c.args.spot.now (instrs.Timer c.args.k c.args.d) v c.set_timer.new.self c.advance.new.self (with_timer terms (way_of v) c.args.k (Some (c.args.spot.now.tick + c.args.d))) refl c.set_timer.ensures.way c.advance.ensures.way c.set_timer.ensures.still c.advance.ensures.still
