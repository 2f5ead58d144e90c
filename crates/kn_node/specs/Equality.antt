-- When `==` says of two machines, and of two node states, that they are equal.
use Rattle.std.specs.Prelude.{Bool, nat_eq}
use Rattle.std.specs.Bool.{beq}
use Rattle.std.specs.Option.{option_eq}
use Rattle.std.specs.Cmp.{IsPartialEquivalence, and_per, on_per, nat_eq_equiv, bool_eq_equiv, partial_equiv_from_equiv}
use Rattle.std.specs.Ordering.{on, eq_of_both}
use Rattle.std.specs.Cmp.Lexicographic.{pointwise, lists_per, options_equiv}
use Rattle.kn_trace.specs.contracts.trace.TracePartialEq.TheImpl as trace_eq
use Rattle.kn_trace.specs.contracts.trace.TracePartialEq.TheImpl.Laws.{laws-law as trace_law}
use Rattle.kn_term.specs.contracts.node.RefPartialEq.TheImpl as ref_eq
use Rattle.kn_term.specs.contracts.node.RefPartialEq.TheImpl.Laws.{laws-law as ref_law}
use Rattle.kn_term.specs.contracts.terms.TermsPartialEq.TheImpl as terms_eq
use Rattle.kn_term.specs.contracts.terms.TermsPartialEq.TheImpl.Laws.{laws-law as terms_law}
use Rattle.kn_cond.specs.contracts.condition.CondPartialEq.TheImpl as cond_eq
use Rattle.kn_cond.specs.contracts.condition.CondPartialEq.TheImpl.Laws.{laws-law as cond_law}
use Rattle.kn_cond.specs.contracts.standing.StandingPartialEq.TheImpl as standing_eq
use Rattle.kn_cond.specs.contracts.standing.StandingPartialEq.TheImpl.Laws.{laws-law as standing_law}
use Rattle.kn_packet.specs.contracts.queue.QueuePartialEq.TheImpl as queue_eq
use Rattle.kn_packet.specs.contracts.queue.QueuePartialEq.TheImpl.Laws.{laws-law as queue_law}
use Rattle.kn_node.specs.contracts.machine.OutcomePartialEq.TheImpl as outcome_eq
use Rattle.kn_node.specs.contracts.machine.OutcomePartialEq.TheImpl.Laws.{laws-law as outcome_law}
use Rattle.kn_node.specs.Views.{MachineView, ConfigView}

nat_per : IsPartialEquivalence nat_eq
nat_per = partial_equiv_from_equiv nat_eq_equiv

-- registers, memory, timers and packets are equal
abbrev pub stores_eq : MachineView → MachineView → Bool
stores_eq = eq_of_both (on (λ m. m.registers) (pointwise ref_eq.eq-value.it)) (eq_of_both (on (λ m. m.memory) (pointwise ref_eq.eq-value.it)) (eq_of_both (on (λ m. m.timers) (pointwise (option_eq nat_eq))) (on (λ m. m.queue) queue_eq.eq-value.it)))

-- what was made and sent, and what is left of losses and duplications, are equal
abbrev pub counts_eq : MachineView → MachineView → Bool
counts_eq = eq_of_both (on (λ m. m.inputs) nat_eq) (eq_of_both (on (λ m. m.sent) nat_eq) (eq_of_both (on (λ m. m.losses) nat_eq) (on (λ m. m.duplications) nat_eq)))

-- outcome, boot and reboots are equal
abbrev pub course_eq : MachineView → MachineView → Bool
course_eq = eq_of_both (on (λ m. m.outcome) outcome_eq.eq-value.it) (eq_of_both (on (λ m. m.booted) beq) (on (λ m. m.reboots) (pointwise nat_eq)))

-- all fields of two machines are equal
abbrev pub machine_eq : MachineView → MachineView → Bool
machine_eq = eq_of_both stores_eq (eq_of_both counts_eq course_eq)

-- this is an equality in the sense of `==`
pub machine_per : IsPartialEquivalence machine_eq
machine_per =
    and_per
    (and_per (on_per (λ (m : MachineView). m.registers) (lists_per ref_law)) (and_per (on_per (λ (m : MachineView). m.memory) (lists_per ref_law))
    (and_per (on_per (λ (m : MachineView). m.timers) (lists_per (partial_equiv_from_equiv (options_equiv nat_eq_equiv)))) (on_per (λ (m : MachineView). m.queue) queue_law))))
    (and_per
    (and_per (on_per (λ (m : MachineView). m.inputs) nat_per) (and_per (on_per (λ (m : MachineView). m.sent) nat_per)
    (and_per (on_per (λ (m : MachineView). m.losses) nat_per) (on_per (λ (m : MachineView). m.duplications) nat_per))))
    (and_per (on_per (λ (m : MachineView). m.outcome) outcome_law) (and_per (on_per (λ (m : MachineView). m.booted) (partial_equiv_from_equiv bool_eq_equiv)) (on_per (λ (m : MachineView). m.reboots) (lists_per nat_per)))))

-- node, trace and history are equal
abbrev pub names_eq : ConfigView → ConfigView → Bool
names_eq = eq_of_both (on (λ c. c.node) nat_eq) (eq_of_both (on (λ c. c.trace) trace_eq.eq-value.it) (on (λ c. c.history) nat_eq))

-- machine, terms, condition and standing are equal
abbrev pub contents_eq : ConfigView → ConfigView → Bool
contents_eq = eq_of_both (on (λ c. c.machine) machine_eq) (eq_of_both (on (λ c. c.terms) terms_eq.eq-value.it) (eq_of_both (on (λ c. c.cond) cond_eq.eq-value.it) (on (λ c. c.standing) standing_eq.eq-value.it)))

-- all fields of two node states are equal
abbrev pub config_eq : ConfigView → ConfigView → Bool
config_eq = eq_of_both names_eq contents_eq

-- this is an equality in the sense of `==`
pub config_per : IsPartialEquivalence config_eq
config_per =
    and_per
    (and_per (on_per (λ (c : ConfigView). c.node) nat_per) (and_per (on_per (λ (c : ConfigView). c.trace) trace_law) (on_per (λ (c : ConfigView). c.history) nat_per)))
    (and_per (on_per (λ (c : ConfigView). c.machine) machine_per) (and_per (on_per (λ (c : ConfigView). c.terms) terms_law)
    (and_per (on_per (λ (c : ConfigView). c.cond) cond_law) (on_per (λ (c : ConfigView). c.standing) standing_law))))
