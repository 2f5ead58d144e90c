-- One node more.
use Rattle.std.proofs.Common.{◌≡◌, ◌+◌, ◌++◌, ◌∷◌, [], length, sym, ap, subst, ◌∙◌, arith}
use Rattle.std.proofs.lemmas.List.{length-append}
use Rattle.kn_replay.specs.Nodes.{AreStarts, IsStart}
use Rattle.kn_replay.proofs.Posting.{one_more}
use Rattle.kn_replay.proofs.replaying.open_all.Goals as goal

pub loop-node-preserved : goal.loop-node-preserved
loop-node-preserved c =
    let net = c.args.net.now.network in
    let xs = c.loop-node.nodes.items in
    let x = c.in_ok-open_at.field-0 in
    let whole = c.loop-node.invariant.whole in
    let long = length-append xs (x ∷ []) in
    let all : c.push.new.self.items ≡ xs ++ x ∷ [] = c.in_ok-push.ensures.items in
    let one : IsStart net c.loop-node.node x = record { of_node = c.in_ok-open_at.ensures.node; state = c.in_ok-open_at.ensures.state } in
    let last : c.loop-node.node ≡ 0 + length xs = omega (arith, whole) in
    record {
      starts = subst (AreStarts net 0) (sym all) (one_more net 0 xs x c.loop-node.invariant.starts (subst (λ k. IsStart net k x) last one));
      whole = ap length all ∙ omega (arith, long, whole);
    }
