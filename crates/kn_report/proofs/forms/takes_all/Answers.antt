-- Other counts.
use Rattle.std.proofs.Common.{length, refl}
use Rattle.kn_report.proofs.Takes.{takes_unlike}
use Rattle.kn_report.proofs.forms.takes_all.Goals as goal

pub returns-else-lists-pick : goal.returns-else-lists-pick
returns-else-lists-pick c = takes_unlike (length c.args.lists.now) c.args.lists.now c.args.pick.now refl c.if-lists-pick.false
