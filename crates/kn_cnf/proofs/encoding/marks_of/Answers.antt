-- One node further down.
use Rattle.std.proofs.Common.{◌≡◌, ◌+◌, ◌-◌, ℕ, Bool, List, true, false, set, replicate, sym, subst, ◌∙◌, arith, rules}
use Rattle.kn_aig.specs.declared.gates.AigNode.TheVariants as nodes
use Rattle.kn_cnf.specs.Encoding.{mark}
use Rattle.kn_cnf.proofs.Marks.{MarkedDown, marked_gate, marked_other, marked_done, marked_start, mark_read, some_is}
use Rattle.kn_cnf.proofs.encoding.marks_of.Goals as goal

pub loop-place-init : goal.loop-place-init
loop-place-init c =
    let items : c.in_ok-marks.marks.items ≡ replicate c.size-place.result false = search rules in
    subst (λ (ms : List Bool). MarkedDown c.args.aig.now c.args.root c.size-place.result (set ms c.args.root true)) (sym items) (marked_start c.args.aig.now c.args.root c.size-place.result c.size-place.ensures.count (omega (arith, c.requires, c.size-place.ensures.count)))

pub loop-place-preserved-in-And : goal.loop-place-preserved-in-And
loop-place-preserved-in-And c =
    let e : (c.loop-place.place - 1) + 1 ≡ c.loop-place.place = omega arith in
    let here : mark c.loop-place.marks.items (c.loop-place.place - 1) ≡ true = mark_read c.loop-place.marks.items (c.loop-place.place - 1) c.index.result.now (omega (arith, c.loop-place.invariant.long, c.loop-place.invariant.bound)) c.index.ensures c.if-index.true in
    marked_gate c.args.aig.now c.args.root c.loop-place.place (c.loop-place.place - 1) c.loop-place.marks.items c.in-And.x c.in-And.y e c.loop-place.invariant here c.in-And.ensures.node c.in-And.ensures.fits.1 c.in-And.ensures.fits.2

pub loop-place-preserved-in-Input : goal.loop-place-preserved-in-Input
loop-place-preserved-in-Input c =
    let e : (c.loop-place.place - 1) + 1 ≡ c.loop-place.place = omega arith in
    marked_other c.args.aig.now c.args.root c.loop-place.place (c.loop-place.place - 1) c.loop-place.marks.items e c.loop-place.invariant (λ x y m at. let wrong = some_is _ (nodes.And x y) (sym c.in-Input.ensures.node ∙ at) in absurd cc)

pub loop-place-preserved-in-Constant : goal.loop-place-preserved-in-Constant
loop-place-preserved-in-Constant c =
    let e : (c.loop-place.place - 1) + 1 ≡ c.loop-place.place = omega arith in
    marked_other c.args.aig.now c.args.root c.loop-place.place (c.loop-place.place - 1) c.loop-place.marks.items e c.loop-place.invariant (λ x y m at. let wrong = some_is nodes.Constant (nodes.And x y) (sym c.in-Constant.ensures.node ∙ at) in absurd cc)

pub loop-place-preserved : goal.loop-place-preserved
loop-place-preserved c =
    let e : (c.loop-place.place - 1) + 1 ≡ c.loop-place.place = omega arith in
    let no : mark c.loop-place.marks.items (c.loop-place.place - 1) ≡ false = search rules in
    marked_other c.args.aig.now c.args.root c.loop-place.place (c.loop-place.place - 1) c.loop-place.marks.items e c.loop-place.invariant (λ x y m at. let wrong : true ≡ false = sym m ∙ no in cc)

pub returns : goal.returns
returns c =
    let zero_place : c.loop-place.place ≡ 0 = omega arith in
    marked_done c.args.aig.now c.args.root c.loop-place.marks.items (subst (λ (n : ℕ). MarkedDown c.args.aig.now c.args.root n c.loop-place.marks.items) zero_place c.loop-place.invariant)
