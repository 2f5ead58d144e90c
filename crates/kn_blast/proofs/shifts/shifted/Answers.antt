-- The stages, or what comes in alone.
use Rattle.std.proofs.Common.{◌≡◌, ◌∙◌, ◌-◌, ap, sym, subst, not, length, drop, take, arith, refl, List, Bool, ℕ}
use Rattle.std.specs.Prelude.{nat_eq}
use Rattle.kn_aig.specs.Circuits.{value_of}
use Rattle.kn_blast.specs.Spelling.{AllStand, Grows, number}
use Rattle.kn_blast.proofs.Growing.{if_each, grows_twice}
use Rattle.kn_blast.proofs.Numbers.{AllStand-kept, spells_kept, number-kept}
use Rattle.kn_blast.proofs.Moving.{tail_is, AllStand-drop, shift_whole, choice_seen}
use Rattle.kn_blast.proofs.shifts.shifted.Goals as goal

pub is_not_zero-requires : goal.is_not_zero-requires
is_not_zero-requires c =
    let here : take (length c.args.ys.now - 4) (drop 4 c.args.ys.now) ≡ drop 4 c.args.ys.now = tail_is c.args.ys.now 4 (length c.args.ys.now - 4) (omega (arith, c.requires.same)) in
    AllStand-kept c.args.aig.now _ _ c.in_ok-near.ensures.grows (subst (AllStand c.args.aig.now) (sym here) (AllStand-drop c.args.aig.now c.args.ys.now 4 c.requires.y))

pub choice-requires-clause-y : goal.choice-requires-clause-y
choice-requires-clause-y c =
    let near = spells_kept _ _ _ _ _ c.in_ok-is_far.ensures.grows c.in_ok-near.ensures.word in
    subst (AllStand c.is_not_zero.new.aig) (sym c.deref-2.ensures.value) near.stand

pub returns-clause-word : goal.returns-clause-word
returns-clause-word c =
    let a = c.args.aig.now in
    let b = c.moved_by_stages.new.aig in
    let d = c.is_not_zero.new.aig in
    let ys = c.args.ys.now in
    let near = c.in_ok-near.near.items in
    let far = c.in_ok-far.far.items in
    let g : Grows a d = grows_twice _ _ _ c.in_ok-near.ensures.grows c.in_ok-is_far.ensures.grows in
    let tail = take (length ys - 4) (drop 4 ys) in
    let here : tail ≡ drop 4 ys = tail_is ys 4 (length ys - 4) (omega (arith, c.requires.same)) in
    let all : AllStand a tail = subst (AllStand a) (sym here) (AllStand-drop a ys 4 c.requires.y) in
    let test : (bits : List Bool) → value_of bits d c.in_ok-is_far.is_far ≡ not (nat_eq (number bits a (drop 4 ys)) 0) =
    λ bits. c.in_ok-is_far.ensures.edge.value bits ∙ ap (λ (k : ℕ). not (nat_eq k 0)) (number-kept bits a b tail c.in_ok-near.ensures.grows all ∙ ap (number bits a) here) in
    if_each c.choice.result _ _ (λ v made. shift_whole a d c.choice.new.aig c.args.way c.args.xs.now ys near far v.items near far c.args.above c.in_ok-is_far.is_far c.incoming-edge.result g c.requires.above c.requires.y c.requires.many c.requires.same refl refl
    (spells_kept b d near 16 _ c.in_ok-is_far.ensures.grows c.in_ok-near.ensures.word) test c.incoming-edge.ensures.value c.in_ok-far.ensures
    (choice_seen d c.choice.new.aig v.items c.deref.result.now c.deref-2.result.now far near (λ bits. value_of bits d c.in_ok-is_far.is_far) 16 c.deref.ensures.value c.deref-2.ensures.value c.in_ok-far.ensures.many made)) c.choice.ensures.word
