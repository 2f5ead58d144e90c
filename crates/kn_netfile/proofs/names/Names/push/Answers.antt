-- The names and their places stay together.
use Rattle.std.proofs.Common.{rules}
use Rattle.indexmap.specs.IndexMap.{get_by_text}
use Rattle.kn_netfile.proofs.Walks.{named}
use Rattle.kn_netfile.proofs.names.Names.push.Goals as goal

pub invariant_of-self-2 : goal.invariant_of-self-2
invariant_of-self-2 c =
    named (get_by_text c.note.new.places) (get_by_text c.self.inside.places) c.self.inside.list.items _ c.args.name.now c.len-place.result (search (rules, c.len-place.ensures)) c.in_ok-note.ensures.ok c.self.invariant (search (rules, c.push_reserved.ensures.items, c.in_ok-reserve.ensures.items, c.in_ok-bytes.ensures.items, c.as_bytes.ensures.value))
