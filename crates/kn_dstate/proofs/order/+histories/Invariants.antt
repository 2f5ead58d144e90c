use Rattle.std.proofs.Common.{◌≡◌, ◌+◌, ◌*◌, ◌≤◌}
use Rattle.std.specs.Ordering.{ordering_then}
use Rattle.kn_packet.specs.Histories.{history_cmp}
use Rattle.kn_dstate.specs.Histories.{history_in, told, entry_count}
use Rattle.kn_dstate.proofs.order.+histories.Given as goal

abbrev pub decreases-cmp_rows : goal.decreases-cmp_rows
decreases-cmp_rows l = 3 * l.a + 2

abbrev pub decreases-cmp_even : goal.decreases-cmp_even
decreases-cmp_even l = 3 * l.a + 1

abbrev pub decreases-cmp_entries : goal.decreases-cmp_entries
decreases-cmp_entries l = 3 * l.place

abbrev pub invariant-cmp_even-back : goal.invariant-cmp_even-back
invariant-cmp_even-back l = record {
  left : l.left ≤ l.a;
  right : l.right ≤ l.b;
  even : entry_count (history_in (told l.rows) l.left) ≡ entry_count (history_in (told l.rows) l.right);
  same : ordering_then (history_cmp (history_in (told l.rows) l.left) (history_in (told l.rows) l.right)) l.order ≡ history_cmp (history_in (told l.rows) l.a) (history_in (told l.rows) l.b);
}

abbrev pub decreases-cmp_even-back : goal.decreases-cmp_even-back
decreases-cmp_even-back l = l.left
