-- The gates along the sum of three bits.
use Rattle.kn_blast.specs.Spelling.{Grows}
use Rattle.kn_blast.proofs.Growing.{grows_made, grows_twice, sum_has, carry_has}
use Rattle.kn_blast.proofs.gates.full_sum.Goals as goal

pub returns-clause-sum : goal.returns-clause-sum
returns-clause-sum c =
    let g1 : Grows c.args.aig.now c.xor.new.self = grows_made _ _ c.in_ok-one.ensures.grows c.in_ok-one.ensures.inputs in
    let g3 : Grows c.xor-2.new.self c.and.new.self = grows_made _ _ c.in_ok-both.ensures.grows c.in_ok-both.ensures.inputs in
    let g4 : Grows c.and.new.self c.and-2.new.self = grows_made _ _ c.in_ok-passed.ensures.grows c.in_ok-passed.ensures.inputs in
    let rest : Grows c.xor-2.new.self c.either.new.aig = grows_twice _ _ _ g3 (grows_twice _ _ _ g4 c.in_ok-carry.ensures.grows) in
    sum_has _ _ _ _ c.args.x c.args.y c.args.c c.in_ok-one.one c.in_ok-sum.sum g1 rest c.requires.c c.in_ok-sum.ensures.stands c.in_ok-one.ensures.value c.in_ok-sum.ensures.value

pub returns-clause-carry : goal.returns-clause-carry
returns-clause-carry c =
    let g1 : Grows c.args.aig.now c.xor.new.self = grows_made _ _ c.in_ok-one.ensures.grows c.in_ok-one.ensures.inputs in
    let g2 : Grows c.xor.new.self c.xor-2.new.self = grows_made _ _ c.in_ok-sum.ensures.grows c.in_ok-sum.ensures.inputs in
    let g3 : Grows c.xor-2.new.self c.and.new.self = grows_made _ _ c.in_ok-both.ensures.grows c.in_ok-both.ensures.inputs in
    let g4 : Grows c.and.new.self c.and-2.new.self = grows_made _ _ c.in_ok-passed.ensures.grows c.in_ok-passed.ensures.inputs in
    carry_has _ _ _ _ _ _ c.args.x c.args.y c.args.c c.in_ok-one.one c.in_ok-both.both c.in_ok-passed.passed c.in_ok-carry.carry g1 g2 g3 g4
    c.requires.x c.requires.y c.requires.c c.in_ok-one.ensures.stands c.in_ok-both.ensures.stands c.in_ok-one.ensures.value c.in_ok-both.ensures.value c.in_ok-passed.ensures.value c.in_ok-carry.ensures.edge
