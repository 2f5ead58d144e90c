use Rattle.std.proofs.Common.{ap, ◌∙◌}
use Rattle.kn_dstate.specs.Graphs.{known_of}
use Rattle.kn_dstate.proofs.Changing.{map-kept, noted-known}
use Rattle.kn_dstate.proofs.members.note_at.Goals as goal

pub returns-then-contains-clause-seen : goal.returns-then-contains-clause-seen
returns-then-contains-clause-seen c =
    map-kept known_of c.args.states.now.slots c.args.s c.index_mut.result.now c.note.new.self c.index_mut.ensures.value (ap known_of c.note.ensures ∙ noted-known c.args.d c.index_mut.result.now)
