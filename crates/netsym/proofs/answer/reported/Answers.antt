use Rattle.kn_report.specs.Texts.{report_text}
use Rattle.netsym.proofs.Ends.{limited_either}
use Rattle.netsym.proofs.answer.reported.Goals as goal

pub returns-in_ok-told-in-Err-Limit : goal.returns-in_ok-told-in-Err-Limit
returns-in_ok-told-in-Err-Limit c =
    limited_either report_text c.args.net.now.network _ _ c.in_ok-told-in-Err-Limit.told.status _ (rw c.in-Err-Limit.field-0-is at c.in-Err-Limit.ensures.passed) c.in_ok-told-in-Err-Limit.ensures.status c.in_ok-told-in-Err-Limit.ensures.text
