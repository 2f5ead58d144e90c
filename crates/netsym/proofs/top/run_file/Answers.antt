use Rattle.std.proofs.Common.{inl, inr, refl}
use Rattle.std.specs.Prelude.{string_bytes}
use Rattle.kn_report.specs.declared.status.Status.TheVariants as statuses
use Rattle.netsym.specs.Runs.{too_long_line, read_fault_line, memory_line}
use Rattle.netsym.proofs.Ends.{written_by, taken_whole, right_by, answer_is_no_fault}
use Rattle.netsym.proofs.top.run_file.Goals as goal

pub returns-in-Err-Failed-clause-ends : goal.returns-in-Err-Failed-clause-ends
returns-in-Err-Failed-clause-ends g c = record {
  verdict = statuses.ReadFault;
  text = read_fault_line;
  right = ((rw c.in-Err-Failed.field-0-is at c.in-Err-Failed.ensures.taken), refl);
  cause = λ is. (rw c.in-Err-Failed.field-0-is at c.in-Err-Failed.ensures.failed) refl;
  written = written_by _ _ _ statuses.ReadFault c.ended.result c.write_all.result c.ended.ensures c.write_all.ensures.all c.write_all.ensures.front;
}

pub returns-in-Err-TooLong-clause-ends : goal.returns-in-Err-TooLong-clause-ends
returns-in-Err-TooLong-clause-ends g c = record {
  verdict = statuses.Refused;
  text = too_long_line;
  right = inl (rw c.in-Err-TooLong.field-0-is at c.in-Err-TooLong.ensures.taken, refl);
  cause = λ is. absurd cc;
  written = written_by _ _ _ statuses.Refused c.ended-in-Err-TooLong.result c.write_all-in-Err-TooLong.result c.ended-in-Err-TooLong.ensures c.write_all-in-Err-TooLong.ensures.all c.write_all-in-Err-TooLong.ensures.front;
}

pub returns-in-Err-Memory-clause-ends : goal.returns-in-Err-Memory-clause-ends
returns-in-Err-Memory-clause-ends g c = record {
  verdict = statuses.Memory;
  text = memory_line;
  right = ((rw c.in-Err-Memory.field-0-is at c.in-Err-Memory.ensures.taken), refl);
  cause = λ is. absurd cc;
  written = written_by _ _ _ statuses.Memory c.ended-in-Err-Memory.result c.write_all-in-Err-Memory.result c.ended-in-Err-Memory.ensures c.write_all-in-Err-Memory.ensures.all c.write_all-in-Err-Memory.ensures.front;
}

pub returns-in-Ok-answer-clause-ends : goal.returns-in-Ok-answer-clause-ends
returns-in-Ok-answer-clause-ends g c = record {
  verdict = c.in-Ok-answer.told.status;
  text = string_bytes c.in-Ok-answer.told.text;
  right = right_by _ _ c.args.command c.in-Ok.bytes.items c.in-Ok-answer.told.status _
      (record { all = c.in-Ok.ensures.all; end = c.in-Ok.ensures.end; fits = c.in-Ok.ensures.fits })
      (rw c.deref.ensures.value at c.in-Ok-answer.ensures.told);
  cause = λ is. answer_is_no_fault c.args.command _ _ _ is (rw c.deref.ensures.value at c.in-Ok-answer.ensures.told);
  written = written_by _ _ _ c.in-Ok-answer.told.status c.ended-in-Ok-answer.result c.write_lines.result c.ended-in-Ok-answer.ensures
      (rw c.as_bytes.ensures.value at c.write_lines.ensures.all) (rw c.as_bytes.ensures.value at c.write_lines.ensures.front);
}

pub returns-in-Err-Refused-clause-ends : goal.returns-in-Err-Refused-clause-ends
returns-in-Err-Refused-clause-ends g c = record {
  verdict = statuses.Refused;
  text = c.in-Err-Refused.line.items;
  right = inr (
    c.in-Ok.bytes.items,
    (record { all = c.in-Ok.ensures.all; end = c.in-Ok.ensures.end; fits = c.in-Ok.ensures.fits }),
    (rw (c.deref.ensures.value, c.in-Err-Refused.field-0-is) at c.in-Err-Refused.ensures.refused),
  );
  cause = λ is. absurd cc;
  written = written_by _ _ _ statuses.Refused c.ended-in-Err-Refused.result c.write_all-in-Err-Refused.result c.ended-in-Err-Refused.ensures
      (rw c.deref-in-Err-Refused.ensures.value at c.write_all-in-Err-Refused.ensures.all) (rw c.deref-in-Err-Refused.ensures.value at c.write_all-in-Err-Refused.ensures.front);
}

pub returns-clause-ends : goal.returns-clause-ends
returns-clause-ends g c = record {
  verdict = statuses.Memory;
  text = memory_line;
  right = (taken_whole _ _ c.in-Ok.bytes.items (record { all = c.in-Ok.ensures.all; end = c.in-Ok.ensures.end; fits = c.in-Ok.ensures.fits }), refl);
  cause = λ is. absurd cc;
  written = written_by _ _ _ statuses.Memory c.ended-in-Err-Memory-answer.result c.write_all-in-Err-Memory-answer.result c.ended-in-Err-Memory-answer.ensures c.write_all-in-Err-Memory-answer.ensures.all c.write_all-in-Err-Memory-answer.ensures.front;
}
