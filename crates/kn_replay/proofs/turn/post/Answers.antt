-- Nothing is posted where nothing was sent.
use Rattle.std.proofs.Common.{◌≡◌, length, rules}
use Rattle.kn_replay.proofs.Posting.{none_mailed}
use Rattle.kn_replay.proofs.turn.post.Goals as goal

pub returns-then-is_empty : goal.returns-then-is_empty
returns-then-is_empty c =
    let none : length c.args.sends.now ≡ 0 = search rules in
    none_mailed c.args.sends.now c.args.nodes.now none
