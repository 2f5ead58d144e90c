use Rattle.std.proofs.Common.{refl}
use Rattle.kn_word.specs.declared.Op.TheVariants as ops
use Rattle.kn_code.specs.declared.program.Instr.TheVariants as instrs
use Rattle.kn_machine.proofs.Stepping.{of_operator}
use Rattle.kn_machine.proofs.rows.execute.Goals as goal

pub returns-in-Add : goal.returns-in-Add
returns-in-Add c =
    let net = c.args.net.now.network in
    let arm = c.in-Add in
    of_operator net c.args.spot.now c.args.instr (instrs.Add arm.a arm.b arm.c) ops.Add arm.a arm.b arm.c c.args.way.now c.operate.new.way c.operate.result arm.is refl (c.operate.ensures net c.args.spot.now)

pub returns-in-Sub : goal.returns-in-Sub
returns-in-Sub c =
    let net = c.args.net.now.network in
    let arm = c.in-Sub in
    of_operator net c.args.spot.now c.args.instr (instrs.Sub arm.a arm.b arm.c) ops.Sub arm.a arm.b arm.c c.args.way.now c.operate-in-Sub.new.way c.operate-in-Sub.result arm.is refl (c.operate-in-Sub.ensures net c.args.spot.now)

pub returns-in-Mul : goal.returns-in-Mul
returns-in-Mul c =
    let net = c.args.net.now.network in
    let arm = c.in-Mul in
    of_operator net c.args.spot.now c.args.instr (instrs.Mul arm.a arm.b arm.c) ops.Mul arm.a arm.b arm.c c.args.way.now c.operate-in-Mul.new.way c.operate-in-Mul.result arm.is refl (c.operate-in-Mul.ensures net c.args.spot.now)

pub returns-in-And : goal.returns-in-And
returns-in-And c =
    let net = c.args.net.now.network in
    let arm = c.in-And in
    of_operator net c.args.spot.now c.args.instr (instrs.And arm.a arm.b arm.c) ops.And arm.a arm.b arm.c c.args.way.now c.operate-in-And.new.way c.operate-in-And.result arm.is refl (c.operate-in-And.ensures net c.args.spot.now)

pub returns-in-Or : goal.returns-in-Or
returns-in-Or c =
    let net = c.args.net.now.network in
    let arm = c.in-Or in
    of_operator net c.args.spot.now c.args.instr (instrs.Or arm.a arm.b arm.c) ops.Or arm.a arm.b arm.c c.args.way.now c.operate-in-Or.new.way c.operate-in-Or.result arm.is refl (c.operate-in-Or.ensures net c.args.spot.now)

pub returns-in-Xor : goal.returns-in-Xor
returns-in-Xor c =
    let net = c.args.net.now.network in
    let arm = c.in-Xor in
    of_operator net c.args.spot.now c.args.instr (instrs.Xor arm.a arm.b arm.c) ops.Xor arm.a arm.b arm.c c.args.way.now c.operate-in-Xor.new.way c.operate-in-Xor.result arm.is refl (c.operate-in-Xor.ensures net c.args.spot.now)

pub returns-in-Shl : goal.returns-in-Shl
returns-in-Shl c =
    let net = c.args.net.now.network in
    let arm = c.in-Shl in
    of_operator net c.args.spot.now c.args.instr (instrs.Shl arm.a arm.b arm.c) ops.Shl arm.a arm.b arm.c c.args.way.now c.operate-in-Shl.new.way c.operate-in-Shl.result arm.is refl (c.operate-in-Shl.ensures net c.args.spot.now)

pub returns-in-Shr : goal.returns-in-Shr
returns-in-Shr c =
    let net = c.args.net.now.network in
    let arm = c.in-Shr in
    of_operator net c.args.spot.now c.args.instr (instrs.Shr arm.a arm.b arm.c) ops.Shr arm.a arm.b arm.c c.args.way.now c.operate-in-Shr.new.way c.operate-in-Shr.result arm.is refl (c.operate-in-Shr.ensures net c.args.spot.now)

pub returns-in-Sar : goal.returns-in-Sar
returns-in-Sar c =
    let net = c.args.net.now.network in
    let arm = c.in-Sar in
    of_operator net c.args.spot.now c.args.instr (instrs.Sar arm.a arm.b arm.c) ops.Sar arm.a arm.b arm.c c.args.way.now c.operate-in-Sar.new.way c.operate-in-Sar.result arm.is refl (c.operate-in-Sar.ensures net c.args.spot.now)

pub returns-in-Udiv : goal.returns-in-Udiv
returns-in-Udiv c =
    let net = c.args.net.now.network in
    let arm = c.in-Udiv in
    of_operator net c.args.spot.now c.args.instr (instrs.Udiv arm.a arm.b arm.c) ops.Udiv arm.a arm.b arm.c c.args.way.now c.operate-in-Udiv.new.way c.operate-in-Udiv.result arm.is refl (c.operate-in-Udiv.ensures net c.args.spot.now)

pub returns-in-Urem : goal.returns-in-Urem
returns-in-Urem c =
    let net = c.args.net.now.network in
    let arm = c.in-Urem in
    of_operator net c.args.spot.now c.args.instr (instrs.Urem arm.a arm.b arm.c) ops.Urem arm.a arm.b arm.c c.args.way.now c.operate-in-Urem.new.way c.operate-in-Urem.result arm.is refl (c.operate-in-Urem.ensures net c.args.spot.now)

pub returns-in-Eq : goal.returns-in-Eq
returns-in-Eq c =
    let net = c.args.net.now.network in
    let arm = c.in-Eq in
    of_operator net c.args.spot.now c.args.instr (instrs.Eq arm.a arm.b arm.c) ops.Eq arm.a arm.b arm.c c.args.way.now c.operate-in-Eq.new.way c.operate-in-Eq.result arm.is refl (c.operate-in-Eq.ensures net c.args.spot.now)

pub returns-in-Ult : goal.returns-in-Ult
returns-in-Ult c =
    let net = c.args.net.now.network in
    let arm = c.in-Ult in
    of_operator net c.args.spot.now c.args.instr (instrs.Ult arm.a arm.b arm.c) ops.Ult arm.a arm.b arm.c c.args.way.now c.operate-in-Ult.new.way c.operate-in-Ult.result arm.is refl (c.operate-in-Ult.ensures net c.args.spot.now)

pub returns-in-Slt : goal.returns-in-Slt
returns-in-Slt c =
    let net = c.args.net.now.network in
    let arm = c.in-Slt in
    of_operator net c.args.spot.now c.args.instr (instrs.Slt arm.a arm.b arm.c) ops.Slt arm.a arm.b arm.c c.args.way.now c.operate-in-Slt.new.way c.operate-in-Slt.result arm.is refl (c.operate-in-Slt.ensures net c.args.spot.now)
