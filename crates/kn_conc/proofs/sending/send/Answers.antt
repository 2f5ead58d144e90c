-- One packet more is sent.
use Rattle.std.proofs.Common.{[]}
use Rattle.std.proofs.lemmas.Result.{on_ok_weaker}
use Rattle.kn_model.specs.Terms.{words}
use Rattle.kn_model.specs.Rows.{packet_on, span}
use Rattle.kn_conc.specs.Ways.{here_of, way_of}
use Rattle.kn_conc.proofs.Sends.{packet_goes}
use Rattle.kn_conc.proofs.sending.send.Goals as goal

pub returns-clause-way : goal.returns-clause-way
returns-clause-way c net =
    let v = c.args.way.now in
    on_ok_weaker c.post.result
    (λ is. packet_goes (way_of v) (way_of c.post.new.self) c.in_ok-packet.packet (packet_on (words []) (here_of net c.args.spot.now) (way_of v) (span (words []) v.node.state.registers c.args.b c.args.n) c.args.link) (c.in_ok-packet.ensures net) is)
    c.post.ensures.way
