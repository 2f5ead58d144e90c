-- What is done, and what is left.
use Rattle.std.proofs.Common.{◌≡◌, ◌++◌, drop}
use Rattle.std.specs.List.{flat_map}
use Rattle.indexmap.specs.IndexMap.{get_by_text}
use Rattle.kn_asm.specs.Assembling.{settled_lem}
use Rattle.kn_asm.proofs.assembling.instrs_of.Given as goal

abbrev pub invariant-loop-line : goal.invariant-loop-line
invariant-loop-line l = l.instrs.items ++ flat_map (λ x. settled_lem (λ q. get_by_text l.labels q) x.content) (drop l.line-index l.lines) ≡ flat_map (λ x. settled_lem (λ q. get_by_text l.labels q) x.content) l.lines
