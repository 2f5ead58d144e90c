-- Registers and memory stay.
use Rattle.std.proofs.Common.{subst, sym}
use Rattle.kn_node.specs.declared.config.Config.TheInside.{Inside}
use Rattle.kn_node.specs.Views.{IsConfig}
use Rattle.kn_node.proofs.tests.quiet_of.Goals as goal

pub invariant_of-config : goal.invariant_of-config
invariant_of-config c =
    let was = subst (λ (x : Inside). IsConfig x.terms x.machine x.cond) (sym c.config-inside.view_is) c.config.invariant in
    record { registers = was.registers; memory = was.memory; literals = was.literals }
