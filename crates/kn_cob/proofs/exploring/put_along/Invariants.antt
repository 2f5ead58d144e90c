use Rattle.std.proofs.Common.{◌≡◌, ◌++◌, map}
use Rattle.kn_cob.specs.Copies.{along}
use Rattle.kn_cob.proofs.exploring.put_along.Given as goal

abbrev pub invariant-loop-path : goal.invariant-loop-path
invariant-loop-path l = l.out.items ≡ l.fn.out.items ++ map (along l.copy l.node) l.yielded
