-- The next line, the first one that is not of the form, and the end.
use Rattle.std.proofs.Common.{◌≡◌, ◌∷◌, ◌++◌, ◌<◌, [], List, length, rules, sym, subst}
use Rattle.std.specs.List.{AllByRecursion}
use Rattle.kn_cnf.specs.Formulas.{Step}
use Rattle.kn_unsat.specs.Text.{IsNumbered, text_of}
use Rattle.kn_unsat.specs.Words.{IsLineRead}
use Rattle.kn_unsat.proofs.Lines.{LeftLines, found_more, numbered_more, left_more, left_wrong, left_none}
use Rattle.kn_unsat.proofs.reading.read_log.Goals as goal

pub loop-rest-preserved : goal.loop-rest-preserved
loop-rest-preserved c =
    let read : IsLineRead c.loop-rest.rest.now c.in-Ok-Some.line c.in-Ok-Some.after.now = rw c.in-Ok-Some.field-0-is at c.in-Ok-Some.ensures in
    let lines = c.loop-rest.lines.items in
    let now = c.put_line.new.lines.items in
    let is : now ≡ lines ++ c.in-Ok-Some.line ∷ [] = c.in-Ok.ensures in
    record {
      found = subst (λ (ls : List Step). c.args.text.now ≡ text_of ls ++ c.in-Ok-Some.after.now) (sym is) (found_more c.args.text.now lines c.loop-rest.rest.now c.in-Ok-Some.line c.in-Ok-Some.after.now c.loop-rest.invariant.found read.whole);
      numbered = subst (AllByRecursion IsNumbered) (sym is) (numbered_more lines c.in-Ok-Some.line c.loop-rest.invariant.numbered read.numbered);
      only = λ log n from. subst (λ (ls : List Step). LeftLines log ls c.in-Ok-Some.after.now) (sym is) (left_more log lines c.loop-rest.rest.now c.in-Ok-Some.line c.in-Ok-Some.after.now (c.loop-rest.invariant.only log n from) read);
    }

pub returns-in-Ok-None-clause-only : goal.returns-in-Ok-None-clause-only
returns-in-Ok-None-clause-only c = λ log n from.
    let some : 0 < length c.loop-rest.rest.now = search rules in
    left_wrong log c.loop-rest.lines.items c.loop-rest.rest.now (c.loop-rest.invariant.only log n from) some (rw c.in-Ok-None.field-0-is at c.in-Ok-None.ensures)

pub returns-clause-only : goal.returns-clause-only
returns-clause-only c = λ log n from.
    let none : length c.loop-rest.rest.now ≡ 0 = search rules in
    left_none log c.loop-rest.lines.items c.loop-rest.rest.now (c.loop-rest.invariant.only log n from) none
