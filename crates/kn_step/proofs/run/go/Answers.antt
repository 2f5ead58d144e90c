-- One side of a decision, and its literal.
use Rattle.std.proofs.Common.{subst, sym}
use Rattle.std.specs.Prelude.{List}
use Rattle.kn_cond.specs.Meanings.{literal_of}
use Rattle.kn_packet.specs.Packets.{PacketView}
use Rattle.kn_machine.specs.Ways.{known_of, AreStamped}
use Rattle.kn_machine.specs.Effects.{here_of}
use Rattle.kn_step.proofs.Turning.{go_way, go_side, go_implied, sound_still}
use Rattle.kn_step.proofs.run.go.Goals as goal

pub decide-requires-clause-implied : goal.decide-requires-clause-implied
decide-requires-clause-implied c =
    let old = c.args.way.now in
    let mid = c.take_side.new.way in
    let conflicts = c.args.net.now.network.limits.conflicts in
    let row = c.in_ok-take_side.ensures.row in
    go_implied conflicts (known_of mid) (literal_of mid.terms c.args.literal) c.args.further (go_side conflicts old mid c.args.literal c.args.further c.in_ok-take_side.ensures.grows c.requires.at.stands row.known c.requires.further)

pub returns-clause-way : goal.returns-clause-way
returns-clause-way c =
    go_way (here_of c.args.net.now.network c.args.spot.now) c.args.instr c.args.bit c.args.way.now c.take_side.new.way c.decide.new.way c.args.literal
    c.in_ok-take_side.ensures.grows c.requires.at.stands c.in_ok-take_side.ensures.way c.in_ok-decide.ensures.way

pub returns-clause-on : goal.returns-clause-on
returns-clause-on c =
    let old = c.args.way.now in
    let mid = c.take_side.new.way in
    let conflicts = c.args.net.now.network.limits.conflicts in
    let row = c.in_ok-take_side.ensures.row in
    let side = go_side conflicts old mid c.args.literal c.args.further c.in_ok-take_side.ensures.grows c.requires.at.stands row.known c.requires.further in
    record {
      sound = c.in_ok-decide.ensures.sound conflicts side (sound_still conflicts old mid row.known row.standing c.requires.sound);
      stamps = λ h. subst (λ (ps : List PacketView). AreStamped c.args.spot.now.node c.args.spot.now.history ps) (sym c.in_ok-decide.ensures.sends) (row.stamps h);
    }
