-- One more bit.
use Rattle.std.proofs.Common.{◌∙◌, ◌<◌, ap, subst, sym, refl, length, arith, false, get_or, replicate}
use Rattle.kn_blast.specs.Spelling.{AllStand, Has}
use Rattle.kn_blast.proofs.Growing.{grows_same, grows_twice, longer}
use Rattle.kn_blast.proofs.Numbers.{AllStand-at, has_kept, spells_items}
use Rattle.kn_blast.proofs.Moving.{spells_still}
use Rattle.kn_blast.specs.declared.shifts.Way.TheVariants as ways
use Rattle.kn_blast.proofs.Arithmetic.{zeros_spell, product_total, product_shifted}
use Rattle.kn_blast.proofs.arith.product.Goals as goal

pub loop-i-init : goal.loop-i-init
loop-i-init c = record {
  grows = grows_same _;
  total = spells_items _ _ _ _ _ c.in_ok-total.ensures.items (zeros_spell c.args.aig.now c.constant-zero.result _ c.constant-zero.ensures (λ bits. omega arith));
  shifted = spells_still c.args.aig.now c.args.xs.now _ ways.Left c.constant-zero.result c.requires.x c.requires.many c.in_ok-shifted.ensures.items;
}

pub choice-requires : goal.choice-requires
choice-requires c =
    let within : c.loop-i.i < length c.args.ys.now = omega (arith, c.loop-i-test.true, c.requires.same) in
    let none : Has c.loop-i.aig c.constant-zero.result (λ bits. false) = has_kept _ _ _ _ c.loop-i.invariant.grows c.constant-zero.ensures in
    record {
      c = longer c.args.aig.now c.loop-i.aig (get_or c.args.ys.now c.loop-i.i (record { node = 0; inverted = false })).node c.loop-i.invariant.grows
          (AllStand-at c.args.aig.now c.args.ys.now c.loop-i.i (record { node = 0; inverted = false }) c.requires.y within);
      x = subst (AllStand c.loop-i.aig) (sym c.deref.ensures.value) c.loop-i.invariant.shifted.stand;
      y = (zeros_spell c.loop-i.aig c.constant-zero.result (λ bits. 0) none (λ bits. refl)).stand;
      same = sym (ap length c.deref.ensures.value ∙ c.loop-i.invariant.shifted.many);
    }

pub loop-i-preserved : goal.loop-i-preserved
loop-i-preserved c =
    let a = c.args.aig.now in
    let b = c.loop-i.aig in
    let d = c.choice.new.aig in
    let e = c.added.new.aig in
    let z = c.constant-zero.result in
    let so_far = c.loop-i.invariant in
    let within : c.loop-i.i < length c.args.ys.now = omega (arith, c.loop-i-test.true, c.requires.same) in
    let none : Has b z (λ bits. false) = has_kept a b z _ so_far.grows c.constant-zero.ensures in
    let rest = grows_twice b d e c.in_ok-part.ensures.grows c.in_ok-total-2.ensures.grows in
    record {
      grows = grows_twice a b e so_far.grows rest;
      total = product_total a b d e c.args.xs.now c.args.ys.now c.loop-i.total.items c.loop-i.shifted.items c.in_ok-part.part.items c.in_ok-total-2.total.items _ _ _ (replicate 16 z) _ c.loop-i.i _ so_far.grows c.in_ok-part.ensures.grows c.requires.y within
          c.deref-in-loop-i.ensures.value c.deref-in-loop-i-2.ensures.value c.deref.ensures.value (zeros_spell b z (λ bits. 0) none (λ bits. refl)).value so_far.total so_far.shifted c.in_ok-part.ensures.word c.in_ok-total-2.ensures.word;
      shifted = product_shifted a b e c.args.xs.now c.loop-i.shifted.items _ c.in_ok-shifted-2.shifted.items z c.loop-i.i c.requires.many rest c.deref-in-loop-i-3.ensures.value so_far.shifted c.in_ok-shifted-2.ensures;
    }
