-- Neither is the next one.
use Rattle.std.proofs.Common.{◌<◌, None, get_or, arith, refl}
use Rattle.std.specs.Prelude.{unwrap_or}
use Rattle.kn_node.proofs.Quiet.{timer_more, set_later}
use Rattle.kn_node.proofs.due.first_timer.Goals as goal

pub loop-timer-preserved : goal.loop-timer-preserved
loop-timer-preserved c = λ tick less.
    let timers = c.args.timers.now in
    let i = c.loop-timer.timer-index in
    let o = get_or timers i None in
    let so_far : tick < c.loop-timer.first = omega (arith, less, c.min-first.ensures) in
    let later : tick < unwrap_or o 4294967295 = omega (arith, less, c.min-first.ensures, c.unwrap_or.ensures) in
    timer_more tick timers i None o c.loop-timer-test.true refl (c.loop-timer.invariant tick so_far) (set_later tick 4294967295 o later)
