use Rattle.std.proofs.Common.{◌≡◌, ◌<◌, ap, sym, ◌∙◌, arith, length, rules}
use Rattle.std.specs.declared.cmp.Ordering.{Ordering}
use Rattle.std.specs.Ordering.{ordering_then}
use Rattle.kn_packet.specs.Histories.{history_cmp}
use Rattle.kn_dstate.specs.Histories.{history_in, told, entry_count}
use Rattle.kn_dstate.proofs.Orders.{nothing_left, further, compared, count-none}
use Rattle.kn_dstate.proofs.Rows.{goes_on, starts, NamesBelow-weaker}
use Rattle.kn_dstate.proofs.order.+histories.Goals as goal

pub cmp_even-returns-in-Nothing : goal.cmp_even-returns-in-Nothing
cmp_even-returns-in-Nothing t c =
    let left : c.back.left < length c.args.rows.now = omega arith in
    let none = starts c.args.rows.now c.back.left c.index-rows-left.result c.requires.table left c.in-Nothing.is in
    let other = count-none (history_in (told c.args.rows.now) c.back.right) (sym c.back.invariant.even ∙ ap entry_count none) in
    nothing_left (history_in (told c.args.rows.now) c.back.left) (history_in (told c.args.rows.now) c.back.right) c.back.order _ (none ∙ sym other) c.back.invariant.same

pub cmp_even-returns-in-Nothing-past : goal.cmp_even-returns-in-Nothing-past
cmp_even-returns-in-Nothing-past t c =
    let right : c.back.right < length c.args.rows.now = omega arith in
    let none = starts c.args.rows.now c.back.right c.index-rows-right.result c.requires.table right c.in-Nothing-past.is in
    let other = count-none (history_in (told c.args.rows.now) c.back.left) (c.back.invariant.even ∙ ap entry_count none) in
    nothing_left (history_in (told c.args.rows.now) c.back.left) (history_in (told c.args.rows.now) c.back.right) c.back.order _ (other ∙ sym none) c.back.invariant.same

pub cmp_even-cmp_entries-requires : goal.cmp_even-cmp_entries-requires
cmp_even-cmp_entries-requires t c =
    let left : c.back.left < length c.args.rows.now = omega arith in
    let right : c.back.right < length c.args.rows.now = omega arith in
    let on = goes_on c.args.rows.now c.back.left c.index-rows-left.result c.in-After.before c.in-After.entry c.requires.table left c.in-After.is in
    let other = goes_on c.args.rows.now c.back.right c.index-rows-right.result c.in-After-past.other_before c.in-After-past.other c.requires.table right c.in-After-past.is in
    (omega arith, (c.requires.table, (left, (on.names, NamesBelow-weaker c.back.right (length c.args.rows.now) c.in-After-past.other (omega arith) other.names))))

pub cmp_even-back-smaller : goal.cmp_even-back-smaller
cmp_even-back-smaller t c =
    let left : c.back.left < length c.args.rows.now = omega arith in
    (goes_on c.args.rows.now c.back.left c.index-rows-left.result c.in-After.before c.in-After.entry c.requires.table left c.in-After.is).below

pub cmp_even-back-preserved : goal.cmp_even-back-preserved
cmp_even-back-preserved t c =
    let left : c.back.left < length c.args.rows.now = omega arith in
    let right : c.back.right < length c.args.rows.now = omega arith in
    let on = goes_on c.args.rows.now c.back.left c.index-rows-left.result c.in-After.before c.in-After.entry c.requires.table left c.in-After.is in
    let other = goes_on c.args.rows.now c.back.right c.index-rows-right.result c.in-After-past.other_before c.in-After-past.other c.requires.table right c.in-After-past.is in
    let even : entry_count (history_in (told c.args.rows.now) c.in-After.before) ≡ entry_count (history_in (told c.args.rows.now) c.in-After-past.other_before) = omega (arith, on.count, other.count, c.back.invariant.even) in
    record {
      left = omega (arith, on.below);
      right = omega (arith, other.below);
      even = even;
      same = ap (λ (o : Ordering). ordering_then (history_cmp (history_in (told c.args.rows.now) c.in-After.before) (history_in (told c.args.rows.now) c.in-After-past.other_before)) o) c.then-order.ensures
          ∙ further (told c.args.rows.now) _ _ (history_in (told c.args.rows.now) c.in-After.before) (history_in (told c.args.rows.now) c.in-After-past.other_before) c.in-After.entry c.in-After-past.other c.back.order c.cmp_entries.result _ on.history other.history even c.cmp_entries.ensures c.back.invariant.same;
    }

pub cmp_even-returns : goal.cmp_even-returns
cmp_even-returns t c =
    let same : c.back.left ≡ c.back.right = search rules in
    nothing_left (history_in (told c.args.rows.now) c.back.left) (history_in (told c.args.rows.now) c.back.right) c.back.order _ (ap (history_in (told c.args.rows.now)) same) c.back.invariant.same

pub cmp_rows-returns : goal.cmp_rows-returns
cmp_rows-returns t c =
    let hs = told c.args.rows.now in
    let lengths = compared (history_in hs c.args.a) (history_in hs c.args.b) (history_in hs c.beginning-left.result) (history_in hs c.beginning-right.result) c.count_of-first.result c.count_of-second.result c.min-shared.result c.cmp_even.result
    c.beginning-left.ensures.begins c.beginning-right.ensures.begins c.beginning-left.ensures.count c.beginning-right.ensures.count c.min-shared.ensures c.count_of-first.ensures.count c.count_of-second.ensures.count c.cmp_even.ensures in
    cc (lengths, c.then.ensures, c.cmp.ensures)
