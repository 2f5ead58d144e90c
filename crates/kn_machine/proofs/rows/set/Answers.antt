use Rattle.kn_machine.specs.Ways.{way_of}
use Rattle.kn_machine.proofs.Stepping.{set_alike}
use Rattle.kn_machine.proofs.rows.set.Goals as goal

pub returns-clause-way : goal.returns-clause-way
returns-clause-way c = λ t h. set_alike (way_of c.args.way.now) (way_of c.set_register.new.self) (way_of c.advance.new.self) c.args.a _ t c.set_register.ensures.way c.advance.ensures.way h
