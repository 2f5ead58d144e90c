use Rattle.std.proofs.Common.{string_bytes}
use Rattle.std.proofs.lemmas.Result.{on_ok_weaker}
use Rattle.kn_netfile.proofs.Written.{input_written}
use Rattle.kn_netfile.proofs.printing.put_input.Goals as goal

pub returns : goal.returns
returns c =
    on_ok_weaker c.put_number-3.result
    (input_written (string_bytes c.args.text.now) _ _ _ (string_bytes c.put_number-3.new.text) (record { node = c.args.node; index = c.args.index; word = c.args.value })
    c.in_ok-put_header.ensures c.in_ok-put_number.ensures c.in_ok-put_number-2.ensures) c.put_number-3.ensures
