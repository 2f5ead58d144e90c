use Rattle.std.proofs.Common.{refl, ◌≡◌, ◌<◌, ◌++◌, ◌∷◌, [], ℕ, List, length, sym, subst, ◌∙◌, ap, arith, inl, rules}
use Rattle.std.specs.Prelude.{IfErr}
use Rattle.std.specs.List.{AllByRecursion}
use Rattle.kn_plan.specs.Files.{File}
use Rattle.kn_model.specs.Terms.{terms}
use Rattle.kn_model.specs.Scenarios.{opening, cob}
use Rattle.kn_cob.specs.Nodes.{NodeView}
use Rattle.kn_cob.specs.Copies.{AreCopies}
use Rattle.kn_cob.specs.Closing.{AreShut}
use Rattle.kn_cob.specs.Ticks.{AreIdleUntil, StopsAt, IsPassed}
use Rattle.kn_cob.proofs.Opening.{opening_copy}
use Rattle.kn_cob.proofs.Idle.{idle_tick, after_first}
use Rattle.kn_cob.proofs.Turning.{starts_shut, err_weaker, stop_passed}
use Rattle.kn_cob.proofs.exploring.copies_at_end.Goals as goal

pub loop-tick-init : goal.loop-tick-init
loop-tick-init g c =
    let net = c.args.net.now.network in
    let xs = c.in_ok-opening.field-0 in
    let opened = c.in_ok-opening.ensures in
    let list : c.push.new.out.items ≡ xs ∷ [] = c.in_ok-push.ensures ∙ ap (λ (l : List (List NodeView)). l ++ xs ∷ []) c.new-list.ensures.items in
    let one = ap length list in
    let least = c.bounds.ensures.network.limits.some_dstates in
    record {
      made = subst (λ (l : List (List NodeView)). AreCopies net 0 l (opening terms net ∷ [])) (sym list) (inl (opening_copy net xs opened.whole opened.starts, tt));
      shut = subst (AllByRecursion AreShut) (sym list) (starts_shut net 0 xs opened.starts, tt);
      few = omega (arith, one, least);
      idle = λ t after before. absurd (omega (arith, before));
      start = λ e. refl;
    }

pub returns-clause-given : goal.returns-clause-given
returns-clause-given g c =
    let net = c.args.net.now.network in
    let ticks : c.net.inside.limits.ticks ≡ net.limits.ticks = ap (λ (f : File). f.network.limits.ticks) c.net.view_is in
    let all : c.loop-tick.tick ≡ net.limits.ticks = omega (arith, c.loop-tick-test.false, c.loop-tick.auto.tick-end, ticks) in
    subst (λ (t : ℕ). AreCopies net t c.loop-tick.list.items (cob terms net t)) all c.loop-tick.invariant.made

pub returns-in_err-run-clause-passed : goal.returns-in_err-run-clause-passed
returns-in_err-run-clause-passed g c =
    let net = c.args.net.now.network in
    let ticks : c.net.inside.limits.ticks ≡ net.limits.ticks = ap (λ (f : File). f.network.limits.ticks) c.net.view_is in
    let early : c.loop-tick.tick < net.limits.ticks = omega (arith, c.loop-tick-test.true, ticks) in
    let so : IfErr c.run_tick.result (IsPassed net) = err_weaker c.run_tick.result (StopsAt net c.loop-tick.tick) (IsPassed net) (λ e h. stop_passed net c.loop-tick.tick e early h) c.run_tick.ensures.stop in
    search rules

pub loop-tick-preserved-then-tick-quiet : goal.loop-tick-preserved-then-tick-quiet
loop-tick-preserved-then-tick-quiet g c =
    let net = c.args.net.now.network in
    let t = c.loop-tick.tick in
    let ticks : c.net.inside.limits.ticks ≡ net.limits.ticks = ap (λ (f : File). f.network.limits.ticks) c.net.view_is in
    let early : t < net.limits.ticks = omega (arith, c.loop-tick-test.true, ticks) in
    let after = after_first t c.loop-tick.quiet c.loop-tick.invariant.start c.if-tick-quiet.true in
    record {
      made = idle_tick net t c.requires.sound early c.loop-tick.list.items c.loop-tick.invariant.shut (c.loop-tick.invariant.idle t after c.if-tick-quiet.true) c.loop-tick.invariant.made;
      shut = c.loop-tick.invariant.shut;
      few = c.loop-tick.invariant.few;
      idle = c.loop-tick.invariant.idle;
      start = λ e. absurd (omega (arith, e));
    }

pub loop-tick-preserved : goal.loop-tick-preserved
loop-tick-preserved g c =
    let few = c.in_ok-run.ensures.few in
    let fewer = c.in_ok-list.ensures.few in
    record {
      made = c.in_ok-list.ensures.given;
      shut = c.in_ok-list.ensures.shut;
      few = omega (arith, few, fewer);
      idle = subst (λ (l : List (List NodeView)). AreIdleUntil c.quiet_until-quiet.result l) c.deref.ensures.value c.quiet_until-quiet.ensures;
      start = λ e. absurd (omega (arith, e));
    }
