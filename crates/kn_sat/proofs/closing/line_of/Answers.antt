-- The chain with one entry more, or without it.
use Rattle.std.proofs.Common.{◌≡◌, ◌+◌, ◌-◌, ◌<◌, ◌++◌, ◌∷◌, [], List, length, ap, sym, subst, ◌∙◌, arith}
use Rattle.kn_cnf.specs.declared.clauses.Lit.{Lit}
use Rattle.kn_cnf.specs.Good.{before}
use Rattle.kn_sat.specs.Resting.{AreMarked, Rests}
use Rattle.kn_sat.proofs.Resting.{read, begun, left_out, decided, followed, rest}
use Rattle.kn_sat.proofs.closing.line_of.Goals as goal

pub walk-init : goal.walk-init
walk-init c = record {
  inside = omega arith;
  rests = λ n d t at f.
      begun (before c.args.clauses.now c.args.lines.now) n c.args.entries.now t d c.args.conflict c.args.marks.now c.mark_each.new.marks c.new-clause.result.items c.new-hints.result.items c.push.new.self.items f
      (subst (λ (b : List Lit). AreMarked c.args.marks.now b c.mark_each.new.marks) (c.numbered.ensures d at) c.mark_each.ensures) c.new-clause.ensures.items c.new-hints.ensures.items c.in_ok-push.ensures.items;
}

pub walk-preserved-in-Decision : goal.walk-preserved-in-Decision
walk-preserved-in-Decision c =
    let cs = before c.args.clauses.now c.args.lines.now in
    let es = c.args.entries.now in
    let low : c.walk.place - 1 < length es = omega (arith, c.walk-test.true, c.walk.invariant.inside) in
    let next : c.walk.place ≡ (c.walk.place - 1) + 1 = omega (arith, c.walk-test.true) in
    record {
      inside = omega (arith, c.walk.invariant.inside);
      rests = λ n d t at f.
          subst (λ o. Rests cs es d c.args.conflict (c.walk.place - 1) c.unmark.new.marks c.push-in-Decision.new.self.items c.walk.hints.items o) (sym c.sooner_place-latest.ensures)
          (decided cs n es t d c.args.conflict (c.walk.place - 1) _ c.walk.marks c.unmark.new.marks c.walk.clause.items c.push-in-Decision.new.self.items c.walk.hints.items c.walk.latest (read es (c.walk.place - 1) _ low) c.in-Decision.is c.unmark.ensures
          (c.in_ok-push-in-Decision.ensures.items ∙ ap (λ (l : Lit). c.walk.clause.items ++ l ∷ []) c.negated.ensures)
          (subst (λ k. Rests cs es d c.args.conflict k c.walk.marks c.walk.clause.items c.walk.hints.items c.walk.latest) next (c.walk.invariant.rests n d t at f)));
    }

pub walk-preserved-in-Clause : goal.walk-preserved-in-Clause
walk-preserved-in-Clause c =
    let cs = before c.args.clauses.now c.args.lines.now in
    let es = c.args.entries.now in
    let low : c.walk.place - 1 < length es = omega (arith, c.walk-test.true, c.walk.invariant.inside) in
    let next : c.walk.place ≡ (c.walk.place - 1) + 1 = omega (arith, c.walk-test.true) in
    record {
      inside = omega (arith, c.walk.invariant.inside);
      rests = λ n d t at f.
          followed cs n es t d c.args.conflict (c.walk.place - 1) _ c.in-Clause.number c.numbered-in-Clause.result.now c.walk.marks c.mark_each-in-Clause.new.marks c.unmark-in-Clause.new.marks c.walk.clause.items c.walk.hints.items c.push-in-Clause.new.self.items c.walk.latest (read es (c.walk.place - 1) _ low) c.in-Clause.is c.numbered-in-Clause.ensures c.mark_each-in-Clause.ensures c.unmark-in-Clause.ensures c.in_ok-push-in-Clause.ensures.items
          (subst (λ k. Rests cs es d c.args.conflict k c.walk.marks c.walk.clause.items c.walk.hints.items c.walk.latest) next (c.walk.invariant.rests n d t at f));
    }

pub walk-preserved : goal.walk-preserved
walk-preserved c =
    let cs = before c.args.clauses.now c.args.lines.now in
    let es = c.args.entries.now in
    let low : c.walk.place - 1 < length es = omega (arith, c.walk-test.true, c.walk.invariant.inside) in
    let next : c.walk.place ≡ (c.walk.place - 1) + 1 = omega (arith, c.walk-test.true) in
    record {
      inside = omega (arith, c.walk.invariant.inside);
      rests = λ n d t at f.
          left_out cs n es t d c.args.conflict (c.walk.place - 1) _ c.walk.marks c.walk.clause.items c.walk.hints.items c.walk.latest (read es (c.walk.place - 1) _ low) (sym c.is_marked.ensures ∙ c.if-is_marked.false)
          (subst (λ k. Rests cs es d c.args.conflict k c.walk.marks c.walk.clause.items c.walk.hints.items c.walk.latest) next (c.walk.invariant.rests n d t at f));
    }

pub returns : goal.returns
returns c = λ n t conflict.
    let cs = before c.args.clauses.now c.args.lines.now in
    let es = c.args.entries.now in
    let first : c.walk.place ≡ 0 = omega (arith, c.walk-test.false) in
    rest cs n es t conflict.0 c.args.conflict c.walk.marks c.walk.clause.items _ c.walk.hints.items _ c.walk.latest conflict.1
    (subst (λ k. Rests cs es conflict.0 c.args.conflict k c.walk.marks c.walk.clause.items c.walk.hints.items c.walk.latest) first (c.walk.invariant.rests n conflict.0 t conflict.1 conflict.2)) c.reverse.ensures.items c.reverse-2.ensures.items
