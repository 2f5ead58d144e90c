use Rattle.std.proofs.Common.{refl}
use Rattle.kn_report.specs.declared.status.Status.TheVariants as statuses
use Rattle.netsym.specs.Runs.{usage_line, memory_line}
use Rattle.netsym.proofs.Ends.{keeps_same, memory_for, right_for, written_by}
use Rattle.netsym.proofs.top.run_once.Goals as goal

pub returns-in-Ok-None-clause-runs : goal.returns-in-Ok-None-clause-runs
returns-in-Ok-None-clause-runs g c = record {
  verdict = statuses.Usage;
  text = usage_line;
  right = (rw c.in-Ok-None.field-0-is at c.in-Ok-None.ensures.line, keeps_same _, refl);
  cause = λ is. absurd cc;
  written = written_by _ _ _ statuses.Usage c.ended.result c.write_all.result c.ended.ensures c.write_all.ensures.all c.write_all.ensures.front;
}

pub returns-in-Err-clause-runs : goal.returns-in-Err-clause-runs
returns-in-Err-clause-runs g c = record {
  verdict = statuses.Memory;
  text = memory_line;
  right = right_for _ _ _ c.in-Err.ensures.memory.0 c.in-Err.ensures.memory.1 statuses.Memory memory_line (memory_for c.in-Err.ensures.memory.0 _);
  cause = λ is. absurd cc;
  written = written_by _ _ _ statuses.Memory c.ended-in-Err.result c.write_all-in-Err.result c.ended-in-Err.ensures c.write_all-in-Err.ensures.all c.write_all-in-Err.ensures.front;
}
