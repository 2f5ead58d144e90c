use Rattle.std.proofs.Common.{string_bytes}
use Rattle.std.proofs.lemmas.Result.{on_ok_weaker}
use Rattle.kn_netfile.proofs.Written.{link_written}
use Rattle.kn_netfile.proofs.printing.put_link.Goals as goal

pub returns : goal.returns
returns c =
    on_ok_weaker c.put_number-3.result
    (link_written (string_bytes c.args.text.now) _ _ _ (string_bytes c.put_number-3.new.text) c.args.link c.in_ok-put_header.ensures c.in_ok-put_number.ensures c.in_ok-put_number-2.ensures) c.put_number-3.ensures
