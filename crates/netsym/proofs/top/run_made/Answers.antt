use Rattle.std.proofs.Common.{refl}
use Rattle.std.specs.Prelude.{string_bytes}
use Rattle.kn_report.specs.declared.status.Status.TheVariants as statuses
use Rattle.netsym.specs.Runs.{memory_line}
use Rattle.netsym.proofs.Ends.{written_by, made_right, made_is_no_fault}
use Rattle.netsym.proofs.top.run_made.Goals as goal

pub returns-in-Ok-clause-ends : goal.returns-in-Ok-clause-ends
returns-in-Ok-clause-ends g c = λ faults faults'. record {
  verdict = c.in-Ok.told.status;
  text = string_bytes c.in-Ok.told.text;
  right = made_right c.args.making c.args.number c.in-Ok.told.status _ c.in-Ok.ensures;
  cause = λ is. made_is_no_fault c.args.making c.args.number _ _ is c.in-Ok.ensures;
  written = written_by _ _ _ c.in-Ok.told.status c.ended.result c.write_lines.result c.ended.ensures
      (rw c.as_bytes.ensures.value at c.write_lines.ensures.all) (rw c.as_bytes.ensures.value at c.write_lines.ensures.front);
}

pub returns-in-Err-clause-ends : goal.returns-in-Err-clause-ends
returns-in-Err-clause-ends g c = λ faults faults'. record {
  verdict = statuses.Memory;
  text = memory_line;
  right = refl;
  cause = λ is. absurd cc;
  written = written_by _ _ _ statuses.Memory c.ended-in-Err.result c.write_all.result c.ended-in-Err.ensures c.write_all.ensures.all c.write_all.ensures.front;
}
