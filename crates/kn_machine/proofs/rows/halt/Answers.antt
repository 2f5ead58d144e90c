use Rattle.std.proofs.Common.{◌≡◌, ap, sym, rules}
use Rattle.kn_code.specs.declared.program.Instr.TheVariants as instrs
use Rattle.kn_model.specs.Terms.{terms}
use Rattle.kn_model.specs.Nodes.{Halted}
use Rattle.kn_model.specs.Nets.{Network}
use Rattle.kn_model.specs.Rows.{Stops, with_outcome}
use Rattle.kn_machine.specs.Ways.{WayView, way_of, IsStill}
use Rattle.kn_machine.specs.Effects.{IsStep}
use Rattle.kn_machine.specs.declared.spot.Spot.{Spot}
use Rattle.kn_machine.specs.declared.rows.Step.TheVariants as steps
use Rattle.kn_machine.proofs.Stepping.{stop_step}
use Rattle.kn_machine.proofs.rows.halt.Goals as goal

halts : (net : Network) (spot : Spot) (v w : WayView) → IsStill v w → way_of w ≡ with_outcome terms (way_of v) Halted → IsStep net spot instrs.Halt v w steps.Stops
halts net spot v w still is = stop_step net spot instrs.Halt v w still (ap (λ z. Stops z) (sym is))

pub returns : goal.returns
returns c net = halts net c.args.spot.now c.args.way.now _ (search rules) (search rules)
