use Rattle.std.proofs.Common.{◌≡◌, ◌++◌, drop}
use Rattle.std.specs.Vec.Iter.{into_iter_items}
use Rattle.netsym_main.proofs.texts_after_name.Given as goal

-- what is listed, and what is still to come
abbrev pub invariant-loop-text : goal.invariant-loop-text
invariant-loop-text l = l.texts.items ++ into_iter_items l.text-iterator ≡ drop 1 (into_iter_items l.fn.args)
