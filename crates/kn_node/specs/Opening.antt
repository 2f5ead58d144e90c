-- A node state before anything has run.
use Rattle.std.specs.Prelude.{◌≡◌, ℕ, false, [], replicate, None}
use Rattle.kn_term.specs.declared.node.Ref.{Ref}
use Rattle.kn_term.specs.Terms.{Word}
use Rattle.kn_term.specs.Nodes.{term_at}
use Rattle.kn_cond.specs.declared.standing.Standing.TheVariants.{Inputs}
use Rattle.kn_plan.specs.Nets.{Plan}
use Rattle.kn_node.specs.declared.machine.Outcome.TheVariants.{Running}
use Rattle.kn_node.specs.Views.{MachineView, ConfigView}

-- the machine of a plan, with this term in each register and word of memory
abbrev pub at_start : Plan → Ref → MachineView
at_start plan zero = record {
  registers = replicate 16 zero;
  memory = replicate 64 zero;
  timers = replicate 8 None;
  queue = [];
  inputs = 0;
  sent = 0;
  losses = plan.loss;
  duplications = plan.duplicate;
  outcome = Running;
  booted = false;
  reboots = plan.reboot;
}

-- the state of a node of this plan at its start: all its words are 0, and its condition asks nothing
pub record IsOpened (plan : Plan) (node : ℕ) (c : ConfigView) : Type 0 where
  pub zero : Ref
  pub machine : c.machine ≡ at_start plan zero
  pub is_zero : term_at c.terms zero.index ≡ Word 0
  pub of : c.node ≡ node
  pub cond : c.cond ≡ []
  pub trace : c.trace ≡ []
  pub history : c.history ≡ 0
  pub standing : c.standing ≡ Inputs []
