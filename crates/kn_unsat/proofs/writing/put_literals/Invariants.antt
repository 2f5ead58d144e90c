-- The literals written so far.
use Rattle.std.proofs.Common.{◌≡◌, ◌<◌, ◌^◌, ◌++◌, take}
use Rattle.std.specs.Prelude.{string_bytes, flat_map}
use Rattle.std.specs.List.{AllByRecursion}
use Rattle.kn_cnf.specs.declared.clauses.Lit.{Lit}
use Rattle.kn_unsat.specs.Text.{literal_word}
use Rattle.kn_unsat.proofs.writing.put_literals.Given as goal

abbrev pub invariant-loop-l : goal.invariant-loop-l
invariant-loop-l l = record {
  text : string_bytes l.text ≡ string_bytes l.fn.text ++ flat_map literal_word (take l.l-index l.clause);
  numbered : AllByRecursion (λ (m : Lit). m.var < 2 ^ 64) (take l.l-index l.clause);
}
