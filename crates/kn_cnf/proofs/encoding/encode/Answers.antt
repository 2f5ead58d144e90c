-- The clauses of one node more.
use Rattle.std.proofs.Common.{[], List, ℕ, sym, subst, ap, arith}
use Rattle.std.specs.Prelude.{map}
use Rattle.kn_aig.specs.Circuits.{inputs_of}
use Rattle.kn_cnf.specs.declared.clauses.Lit.{Lit}
use Rattle.kn_cnf.specs.Formulas.{items_of}
use Rattle.kn_cnf.specs.SoFar.{Encoded, Spreads}
use Rattle.kn_cnf.proofs.Marks.{mark_is}
use Rattle.kn_cnf.proofs.Encoded.{encoded_start, encoded_step}
use Rattle.kn_cnf.proofs.Spreading.{spread_start, spread_step}
use Rattle.kn_cnf.proofs.encoding.encode.Goals as goal

pub loop-place-init : goal.loop-place-init
loop-place-init c =
    let ns = c.args.aig.now in
    let marks = c.in_ok-marks.marks.items in
    let from = λ (P : List ℕ → ℕ → List (List Lit) → Type 0) (start : P [] (inputs_of ns) []).
    subst (λ (l : List ℕ). P l c.inputs-vars.result (map items_of c.new-clauses.result.items)) (sym c.new-names.ensures.items)
    (subst (λ (k : ℕ). P [] k (map items_of c.new-clauses.result.items)) (sym c.inputs-vars.ensures)
    (subst (λ (l : List (List Lit)). P [] (inputs_of ns) l) (sym (ap (map items_of) c.new-clauses.ensures.items)) start)) in
    record {
      encoded = from (λ l k cs. Encoded ns marks 0 l k cs) (encoded_start ns marks);
      spreads = from (λ l k cs. Spreads ns marks 0 l k cs) (spread_start ns marks);
    }

pub loop-place-preserved : goal.loop-place-preserved
loop-place-preserved c =
    let marked = mark_is c.in_ok-marks.marks.items c.loop-place.place c.index.result.now (omega (arith, c.loop-place-test.true, c.in_ok-marks.ensures.long, c.size-place-end.ensures.count)) c.index.ensures in
    record {
      encoded = encoded_step c.args.aig.now c.in_ok-marks.marks.items c.args.root c.loop-place.place c.loop-place.names.items _ c.loop-place.vars _ _ _ c.gate.result c.index.result.now c.size-place-end.ensures.circuit c.in_ok-marks.ensures c.loop-place.invariant.encoded c.gate.ensures.node marked c.in_ok-vars.ensures.names c.in_ok-vars.ensures.clauses c.in_ok-vars.ensures.vars;
      spreads = spread_step c.args.aig.now c.in_ok-marks.marks.items c.args.root c.loop-place.place c.loop-place.names.items _ c.loop-place.vars _ _ _ c.gate.result c.index.result.now c.size-place-end.ensures.circuit c.in_ok-marks.ensures c.loop-place.invariant.encoded c.loop-place.invariant.spreads c.gate.ensures.node marked c.in_ok-vars.ensures.names c.in_ok-vars.ensures.clauses c.in_ok-vars.ensures.vars;
    }
