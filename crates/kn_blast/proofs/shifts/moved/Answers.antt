-- One place more.
use Rattle.std.proofs.Common.{subst, sym, ap, length, ◌∙◌}
use Rattle.kn_blast.specs.Spelling.{AllStand}
use Rattle.kn_blast.proofs.Moving.{spells_moved, spells_still}
use Rattle.kn_blast.proofs.shifts.moved.Goals as goal

pub loop-place-init : goal.loop-place-init
loop-place-init c = spells_still c.args.aig.now c.args.xs.now _ c.args.way c.args.above c.requires.stand c.requires.many c.in_ok-word.ensures.items

pub loop-place-preserved : goal.loop-place-preserved
loop-place-preserved c = spells_moved c.args.aig.now c.args.xs.now c.loop-place.word.items _ _ c.args.way c.args.above c.loop-place._place c.requires.many c.deref.ensures.value c.loop-place.invariant c.in_ok-word-2.ensures

pub moved_once-requires : goal.moved_once-requires
moved_once-requires c =
    let e = c.deref.ensures.value in
    record { above = c.requires.above; stand = subst (AllStand c.args.aig.now) (sym e) c.loop-place.invariant.stand; many = ap length e ∙ c.loop-place.invariant.many }
