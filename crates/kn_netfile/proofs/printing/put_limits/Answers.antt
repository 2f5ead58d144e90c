use Rattle.std.proofs.Common.{string_bytes}
use Rattle.std.proofs.lemmas.Result.{on_ok_weaker}
use Rattle.kn_netfile.proofs.Written.{limits_written}
use Rattle.kn_netfile.proofs.printing.put_limits.Goals as goal

pub returns : goal.returns
returns c =
    on_ok_weaker c.put_number-6.result
    (limits_written (string_bytes c.args.text.now) _ _ _ _ _ (string_bytes c.put_number-6.new.text) c.args.limits c.in_ok-put_number.ensures c.in_ok-put_number-2.ensures c.in_ok-put_number-3.ensures
    c.in_ok-put_number-4.ensures c.in_ok-put_number-5.ensures) c.put_number-6.ensures
