use Rattle.std.proofs.Common.{◌≡◌, ◌≤◌}
use Rattle.kn_packet.specs.Histories.{History, followed}
use Rattle.kn_dstate.specs.Histories.{history_in, told, entry_count}
use Rattle.kn_dstate.proofs.order.beginning.Given as goal

abbrev pub invariant-back : goal.invariant-back
invariant-back l = record {
  within : l.place ≤ l.whole;
  begins : (rest : History) × (history_in (told l.rows) l.whole ≡ followed (history_in (told l.rows) l.place) rest);
  count : l.count ≤ entry_count (history_in (told l.rows) l.place);
}

abbrev pub decreases-back : goal.decreases-back
decreases-back l = l.place
