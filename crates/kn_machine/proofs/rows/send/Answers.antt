use Rattle.std.proofs.Common.{◌≤◌, List, length, ap, sym, subst}
use Rattle.std.specs.List.{AllByRecursion}
use Rattle.kn_model.specs.Nets.{Link}
use Rattle.std.proofs.lemmas.Result.{IfOk-weaker}
use Rattle.kn_code.specs.declared.program.Instr.TheVariants as instrs
use Rattle.kn_model.specs.Terms.{terms}
use Rattle.kn_model.specs.Rows.{sends_over}
use Rattle.kn_machine.specs.Ways.{way_of}
use Rattle.kn_machine.specs.Effects.{here_of}
use Rattle.kn_machine.proofs.Stepping.{sent_step, link_few, link_short}
use Rattle.kn_machine.proofs.rows.send.Goals as goal

pub send_over-requires-clause-spot : goal.send_over-requires-clause-spot
send_over-requires-clause-spot c = c.requires.spot

pub send_over-requires-clause-registers : goal.send_over-requires-clause-registers
send_over-requires-clause-registers c = c.requires.registers

pub send_over-requires-clause-few : goal.send_over-requires-clause-few
send_over-requires-clause-few c = c.requires.few

pub send_over-requires-clause-place : goal.send_over-requires-clause-place
send_over-requires-clause-place c = c.requires.place

pub send_over-requires-clause-fan : goal.send_over-requires-clause-fan
send_over-requires-clause-fan c = subst (λ (ls : List Link). length ls ≤ 16) (sym c.link.ensures) (link_few c.args.spot.now.links.items c.args.l)

pub send_over-requires-clause-delays : goal.send_over-requires-clause-delays
send_over-requires-clause-delays c = subst (λ (ls : List Link). AllByRecursion (λ (l : Link). l.delay ≤ 65535) ls) (sym c.link.ensures) (link_short c.args.spot.now.links.items c.args.l c.requires.spot.delays)

pub returns : goal.returns
returns c net =
    let v = c.args.way.now in
    let spot = c.args.spot.now in
    let w = c.send_over.new.way in
    IfOk-weaker c.send_over.result _ _ (λ s h. sent_step net spot (instrs.Send c.args.l c.args.b c.args.n) c.args.b c.args.n c.link.result.now v w s (ap (λ ls. sends_over terms (here_of net spot) (way_of v) c.args.b c.args.n ls) (sym c.link.ensures)) h) (c.send_over.ensures net)
