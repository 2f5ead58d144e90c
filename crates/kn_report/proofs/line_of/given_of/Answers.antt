-- The parts of an entry.
use Rattle.std.proofs.Common.{refl}
use Rattle.std.specs.Prelude.{codes, decimal}
use Rattle.kn_report.proofs.Fields.{given_node, given_index}
use Rattle.kn_report.proofs.line_of.given_of.Goals as goal

pub returns : goal.returns
returns c = λ g fits is.
    let u = c.until.ensures in
    let a = given_node g c.until.result.0.now c.until.result.1.now c.args.text.now fits is u.whole u.without u.begins in
    let rest = c.behind.ensures (codes ".") _ refl a.1 in
    let v = c.until-2.ensures in
    let b = given_index g c.until-2.result.0.now c.until-2.result.1.now c.behind.result.now fits rest v.whole v.without v.begins in
    let last = c.behind-2.ensures (codes "=") (decimal g.word) refl b.1 in
    c.given_with.ensures g (c.u32_of.ensures g.node fits.node a.0) (c.u32_of-2.ensures g.index fits.index b.0) (c.u16_of.ensures g.word fits.word last)
