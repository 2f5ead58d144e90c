use Rattle.std.proofs.lemmas.Result.{IfOk-weaker}
use Rattle.kn_machine.specs.Ways.{way_of}
use Rattle.kn_machine.proofs.Elements.{written_all}
use Rattle.kn_machine.proofs.memory.store.Goals as goal

pub returns-clause-way : goal.returns-clause-way
returns-clause-way c =
    IfOk-weaker c.put.result _ _ (λ r h. written_all (way_of c.put.new.way) (way_of c.args.way.now) c.args.m c.args.n _ _ _ _ c.register-index.ensures.term c.register-value.ensures.term h) c.put.ensures.way
