-- The widths at the places that the roots reach are those with which roots read inputs.
use Rattle.std.proofs.Common.{sym, subst}
use Rattle.kn_term.specs.Reached.{AreInOrder}
use Rattle.kn_blast.proofs.Opened.{opened_order, opened_covers, opened_read}
use Rattle.kn_blast.proofs.inputs.InputMap.open.Goals as goal

pub invariant_of-result : goal.invariant_of-result
invariant_of-result c = opened_order c.args.terms.now c.deref.result.now c.in_ok-widths.widths c.in_ok-entries.entries.items c.order.ensures.order c.in_ok-widths.ensures.read c.in_ok-widths.ensures.entries c.in_ok-entries.ensures.entries

pub returns-clause-order : goal.returns-clause-order
returns-clause-order c = opened_order c.args.terms.now c.deref.result.now c.in_ok-widths.widths c.in_ok-entries.entries.items c.order.ensures.order c.in_ok-widths.ensures.read c.in_ok-widths.ensures.entries c.in_ok-entries.ensures.entries

pub returns-clause-covers : goal.returns-clause-covers
returns-clause-covers c = opened_covers c.args.terms.now c.args.roots.now c.in_ok-places.places.items c.deref.result.now c.in_ok-widths.widths c.in_ok-entries.entries.items c.deref.ensures.value c.order.ensures.order c.requires.roots c.in_ok-places.ensures.exact c.in_ok-widths.ensures.wide c.in_ok-entries.ensures.entries

pub returns-clause-read : goal.returns-clause-read
returns-clause-read c = opened_read c.args.terms.now c.args.roots.now c.in_ok-places.places.items c.deref.result.now c.in_ok-widths.widths c.in_ok-entries.entries.items c.deref.ensures.value c.order.ensures.order c.in_ok-places.ensures.exact c.in_ok-widths.ensures.read c.in_ok-entries.ensures.entries

pub widths_read-requires : goal.widths_read-requires
widths_read-requires c = subst (AreInOrder c.args.terms.now) (sym c.deref.ensures.value) c.in_ok-places.ensures.order
