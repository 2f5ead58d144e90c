use Rattle.std.proofs.Common.{◌∙◌, ap}
use Rattle.netsym.proofs.Ends.{line_joined}
use Rattle.netsym.proofs.answer.line_of.Goals as goal

pub returns : goal.returns
returns c =
    line_joined c.args.number c.args.place.now c.into_bytes-line.result.items c.extend_from_slice.new.self.items c.push.new.self.items (ap (λ v. v.items) c.into_bytes-line.ensures.value ∙ c.in_ok-format.ensures.ok)
    c.in_ok-extend_from_slice.ensures.items c.in_ok-push.ensures.items
