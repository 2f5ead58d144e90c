use Rattle.std.proofs.Common.{ap, length}
use Rattle.kn_code.specs.Code.{Code}
use Rattle.kn_code.proofs.Valid.{handler_names}
use Rattle.kn_code.proofs.program.Program.handler.Goals as goal

pub returns-clause-valid : goal.returns-clause-valid
returns-clause-valid c =
    rw (← ap (λ (code : Code). length code.instrs) c.self.view_is)
    (handler_names c.self.inside.handlers (length c.self.inside.instrs.items) c.args.index c.self.invariant.handlers)
