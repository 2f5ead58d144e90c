use Rattle.std.proofs.Common.{◌<◌, ap, sym, ◌∙◌, arith, length}
use Rattle.kn_packet.specs.Histories.{Done, followed}
use Rattle.kn_dstate.specs.Histories.{history_in, told, entry_count, entry_history}
use Rattle.kn_dstate.proofs.Orders.{followed-none, followed-assoc}
use Rattle.kn_dstate.proofs.Rows.{goes_on, starts}
use Rattle.kn_dstate.proofs.order.beginning.Goals as goal

pub back-init : goal.back-init
back-init c = record { within = omega arith; begins = (Done, sym (followed-none (history_in (told c.args.rows.now) c.args.whole))); count = c.requires.count }

pub returns-in-Nothing-clause-count : goal.returns-in-Nothing-clause-count
returns-in-Nothing-clause-count c =
    let here : c.back.place < length c.args.rows.now = omega arith in
    let none = ap entry_count (starts c.args.rows.now c.back.place c.index-rows-place.result c.requires.table here c.in-Nothing.is) in
    omega (arith, none, c.count_of.ensures.count)

pub back-smaller : goal.back-smaller
back-smaller c =
    let here : c.back.place < length c.args.rows.now = omega arith in
    (goes_on c.args.rows.now c.back.place c.index-rows-place.result c.in-After.before c.in-After.entry c.requires.table here c.in-After.is).below

pub back-preserved : goal.back-preserved
back-preserved c =
    let here : c.back.place < length c.args.rows.now = omega arith in
    let on = goes_on c.args.rows.now c.back.place c.index-rows-place.result c.in-After.before c.in-After.entry c.requires.table here c.in-After.is in
    let more = entry_history (told c.args.rows.now) c.in-After.entry in
    let rest = c.back.invariant.begins.0 in
    record {
      within = omega (arith, on.below);
      begins = (followed more rest, c.back.invariant.begins.1 ∙ (ap (λ h. followed h rest) on.history ∙ followed-assoc (history_in (told c.args.rows.now) c.in-After.before) more rest));
      count = omega (arith, on.count, c.count_of.ensures.count);
    }
