-- One instruction of a way.
use Rattle.std.proofs.Common.{sym, ap, ◌∙◌}
use Rattle.std.specs.Prelude.{slice_get}
use Rattle.std.proofs.lemmas.Result.{IfOk-weaker}
use Rattle.kn_code.specs.Code.{Code}
use Rattle.kn_conc.specs.Ways.{here_of, way_of}
use Rattle.kn_conc.proofs.Turning.{turn_is}
use Rattle.kn_conc.proofs.run.take_turn.Goals as goal

pub returns-clause-turn : goal.returns-clause-turn
returns-clause-turn c =
    IfOk-weaker c.execute.result _ _
    (λ s h. turn_is c.args.inputs.now (here_of c.args.net.now.network c.args.spot.now) (way_of c.args.way.now) (way_of c.execute.new.way) c.in-Some.instr s
    (sym c.if-not-is_running.ensures)
    (ap (λ (p : Code). slice_get p.instrs c.args.way.now.pc) (sym c.program_of.ensures.value) ∙ (sym c.instr.ensures.value ∙ c.in-Some.is)) h)
    c.execute.ensures.step
