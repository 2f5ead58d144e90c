-- What is brought so far.
use Rattle.std.proofs.Common.{◌≡◌, ◌++◌, ℕ, take}
use Rattle.kn_built.specs.Built.{Extends}
use Rattle.kn_term.specs.Blocks.{front, Stands, new_place, Has, AreBrought}
use Rattle.kn_term.specs.Reached.{IsAmong}
use Rattle.kn_term.proofs.bring.bring_all.Given as goal

abbrev pub invariant-loop-place : goal.invariant-loop-place
invariant-loop-place l = record {
  stands : Stands (front l.blocks) l.tail l.before;
  grows : Extends l.fn.tail l.tail;
  known : ((k : ℕ) → IsAmong l.reached k → Has (front l.blocks ++ l.fn.tail) l.other k) → l.tail ≡ l.fn.tail;
  brought : AreBrought l.other (front l.blocks ++ l.tail) (new_place l.places) (take l.place-index l.reached);
}
