use Rattle.std.proofs.Common.{◌≡◌, ℕ, ◌*◌, ◌≤◌, List, map, length, ap, sym, ◌∙◌, arith, rules, Vec, Global}
use Rattle.std.proofs.lemmas.List.{length-map}
use Rattle.kn_dstate.specs.declared.number.StateNo.{StateNo}
use Rattle.kn_dstate.proofs.Choices.{product_more, product_past}
use Rattle.kn_dstate.proofs.place.product.Goals as goal

pub returns-in_default : goal.returns-in_default
returns-in_default c =
    let f : Vec StateNo Global → List ℕ = λ v. map (λ s. s.0) v.items in
    let v = c.column-item.result in
    let size : length (f v) ≡ c.len.result = omega (arith, length-map v.items (λ (s : StateNo). s.0), c.len.ensures, v.ok) in
    let past : 340282366920938463463374607431768211456 ≤ c.loop-column.count * length (f v) = rw size (omega (arith, c.in_default.ensures)) in
    product_past f c.args.columns.now c.loop-column.column-index v c.loop-column.count 340282366920938463463374607431768211456 _ c.loop-column-test.true c.column-item.is c.requires c.loop-column.invariant past

pub loop-column-preserved : goal.loop-column-preserved
loop-column-preserved c =
    let f : Vec StateNo Global → List ℕ = λ v. map (λ s. s.0) v.items in
    let v = c.column-item.result in
    let size : length (f v) ≡ c.len.result = omega (arith, length-map v.items (λ (s : StateNo). s.0), c.len.ensures, v.ok) in
    let next : c.in-Some.next ≡ c.loop-column.count * c.len.result = search rules in
    product_more f c.args.columns.now c.loop-column.column-index v c.loop-column.count c.in-Some.next _ c.loop-column-test.true c.column-item.is c.loop-column.invariant (next ∙ ap (λ (n : ℕ). c.loop-column.count * n) (sym size))
