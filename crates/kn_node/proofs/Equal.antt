-- Outcomes, standings, machines and node states are equal exactly where `==` says so.
use Rattle.std.proofs.Common.{◌≡◌, ℕ, List, Bool, true, Option, Some, None, refl, ap, sym, subst, ◌∙◌, rules}
use Rattle.std.specs.Prelude.{nat_eq}
use Rattle.std.specs.Bool.{Decides}
use Rattle.std.specs.Cmp.{booleans_Decides}
use Rattle.std.specs.Option.{option_eq}
use Rattle.std.proofs.lemmas.Bool.Decides.{Decides-eqb}
use Rattle.std.proofs.lemmas.Slice.Eq.{slice_eq-Decides}
use denote.Enum.Bare.{same_true}
use Rattle.kn_built.proofs.Deciding.{decides_both, decides_same}
use Rattle.kn_term.specs.declared.node.Node.{Node}
use Rattle.kn_term.specs.declared.node.Ref.{Ref}
use Rattle.kn_term.specs.declared.node.Literal.{Literal}
use Rattle.kn_term.specs.Terms.{Valuation}
use Rattle.kn_term.proofs.Equal.{ref_decides, literal_decides, terms_decides, given_decides}
use Rattle.kn_cond.specs.declared.standing.Standing.{Standing}
use Rattle.kn_cond.specs.declared.standing.Standing.TheVariants.{Inputs, Open}
use Rattle.kn_cond.specs.contracts.standing.StandingPartialEq.TheImpl as standing_eq
use Rattle.kn_packet.specs.Packets.{PacketView}
use Rattle.kn_packet.proofs.Equal.{packet_decides}
use Rattle.kn_node.specs.declared.machine.FailKind.{FailKind}
use Rattle.kn_node.specs.declared.machine.FailKind.TheVariants.{Assert, Bounds, Fuel}
use Rattle.kn_node.specs.declared.machine.Outcome.{Outcome}
use Rattle.kn_node.specs.declared.machine.Outcome.TheVariants.{Running, Halted, Failed}
use Rattle.kn_node.specs.contracts.machine.FailKind.{the_type}
use Rattle.kn_node.specs.contracts.machine.FailKindPartialEq.TheImpl as kind_eq
use Rattle.kn_node.specs.contracts.machine.OutcomePartialEq.TheImpl as outcome_eq
use Rattle.kn_node.specs.Views.{MachineView, ConfigView}
use Rattle.kn_node.specs.Equality.{stores_eq, counts_eq, course_eq, machine_eq, names_eq, contents_eq, config_eq}

like_itself : (k : FailKind) → kind_eq.eq-value.it k k ≡ true
like_itself Assert = refl
like_itself Bounds = refl
like_itself Fuel = refl

kind_decides : (j k : FailKind) → Decides (kind_eq.eq-value.it j k) (j ≡ k)
kind_decides j k = (same_true the_type (search rules) j k, λ e. subst (λ (l : FailKind). kind_eq.eq-value.it j l ≡ true) e (like_itself j))

failed_is : (j k : FailKind) (p q t u : ℕ) → Failed j p t ≡ Failed k q u → (j ≡ k) × ((p ≡ q) × (t ≡ u))
failed_is j k p q t u e = (cc, (cc, cc))

is_failed : (j k : FailKind) (p q t u : ℕ) → (j ≡ k) × ((p ≡ q) × (t ≡ u)) → Failed j p t ≡ Failed k q u
is_failed j k p q t u e = ap (λ (l : FailKind). Failed l p t) e.0 ∙ (ap (λ (v : ℕ). Failed k v t) e.1.0 ∙ ap (λ (v : ℕ). Failed k q v) e.1.1)

outcome_decides : (x y : Outcome) → Decides (outcome_eq.eq-value.it x y) (x ≡ y)
outcome_decides Running Running = (λ e. refl, λ e. refl)
outcome_decides Halted Halted = (λ e. refl, λ e. refl)
outcome_decides (Failed j p t) (Failed k q u) =
    decides_same _ (is_failed j k p q t u) (failed_is j k p q t u) (decides_both _ _ (kind_decides j k) (decides_both _ _ (Decides-eqb p q) (Decides-eqb t u)))
outcome_decides x y = (λ e. absurd cc, λ e. absurd cc)

inputs_are : (a b : Valuation) → Inputs a ≡ Inputs b → a ≡ b
inputs_are a b e = cc

leaves_are : (m n : ℕ) → Open m ≡ Open n → m ≡ n
leaves_are m n e = cc

standing_decides : (x y : Standing) → Decides (standing_eq.eq-value.it x y) (x ≡ y)
standing_decides (Inputs a) (Inputs b) = decides_same _ (λ e. ap (λ (v : Valuation). Inputs v) e) (inputs_are a b) (slice_eq-Decides given_decides a b _ refl)
standing_decides (Open m) (Open n) = decides_same _ (λ e. ap (λ (v : ℕ). Open v) e) (leaves_are m n) (Decides-eqb m n)
standing_decides x y = (λ e. absurd cc, λ e. absurd cc)

tick_is : (m n : ℕ) → Some m ≡ Some n → m ≡ n
tick_is m n e = cc

timer_decides : (x y : Option ℕ) → Decides (option_eq nat_eq x y) (x ≡ y)
timer_decides None None = (λ e. refl, λ e. refl)
timer_decides (Some m) (Some n) = decides_same _ (λ e. ap (λ (v : ℕ). Some v) e) (tick_is m n) (Decides-eqb m n)
timer_decides x y = (λ e. absurd cc, λ e. absurd cc)

same_machine : (m n : MachineView) → ((m.registers ≡ n.registers) × ((m.memory ≡ n.memory) × ((m.timers ≡ n.timers) × (m.queue ≡ n.queue)))) × (((m.inputs ≡ n.inputs) × ((m.sent ≡ n.sent) × ((m.losses ≡ n.losses) × (m.duplications ≡ n.duplications)))) × ((m.outcome ≡ n.outcome) × ((m.booted ≡ n.booted) × (m.reboots ≡ n.reboots)))) → m ≡ n
same_machine m n e =
    ap (λ (v : List Ref). record m { registers = v }) e.0.0
    ∙ (ap (λ (v : List Ref). record m { registers = n.registers; memory = v }) e.0.1.0
    ∙ (ap (λ (v : List (Option ℕ)). record m { registers = n.registers; memory = n.memory; timers = v }) e.0.1.1.0
    ∙ (ap (λ (v : List PacketView). record m { registers = n.registers; memory = n.memory; timers = n.timers; queue = v }) e.0.1.1.1
    ∙ (ap (λ (v : ℕ). record m { registers = n.registers; memory = n.memory; timers = n.timers; queue = n.queue; inputs = v }) e.1.0.0
    ∙ (ap (λ (v : ℕ). record m { registers = n.registers; memory = n.memory; timers = n.timers; queue = n.queue; inputs = n.inputs; sent = v }) e.1.0.1.0
    ∙ (ap (λ (v : ℕ). record n { losses = v; duplications = m.duplications; outcome = m.outcome; booted = m.booted; reboots = m.reboots }) e.1.0.1.1.0
    ∙ (ap (λ (v : ℕ). record n { duplications = v; outcome = m.outcome; booted = m.booted; reboots = m.reboots }) e.1.0.1.1.1
    ∙ (ap (λ (v : Outcome). record n { outcome = v; booted = m.booted; reboots = m.reboots }) e.1.1.0
    ∙ (ap (λ (v : Bool). record n { booted = v; reboots = m.reboots }) e.1.1.1.0
    ∙ ap (λ (v : List ℕ). record n { reboots = v }) e.1.1.1.1)))))))))

stores_decide : (m n : MachineView) → Decides (stores_eq m n) ((m.registers ≡ n.registers) × ((m.memory ≡ n.memory) × ((m.timers ≡ n.timers) × (m.queue ≡ n.queue))))
stores_decide m n =
    decides_both _ _ (slice_eq-Decides ref_decides m.registers n.registers _ refl) (decides_both _ _ (slice_eq-Decides ref_decides m.memory n.memory _ refl)
    (decides_both _ _ (slice_eq-Decides timer_decides m.timers n.timers _ refl) (slice_eq-Decides packet_decides m.queue n.queue _ refl)))

counts_decide : (m n : MachineView) → Decides (counts_eq m n) ((m.inputs ≡ n.inputs) × ((m.sent ≡ n.sent) × ((m.losses ≡ n.losses) × (m.duplications ≡ n.duplications))))
counts_decide m n =
    decides_both _ _ (Decides-eqb m.inputs n.inputs) (decides_both _ _ (Decides-eqb m.sent n.sent)
    (decides_both _ _ (Decides-eqb m.losses n.losses) (Decides-eqb m.duplications n.duplications)))

course_decides : (m n : MachineView) → Decides (course_eq m n) ((m.outcome ≡ n.outcome) × ((m.booted ≡ n.booted) × (m.reboots ≡ n.reboots)))
course_decides m n =
    decides_both _ _ (outcome_decides m.outcome n.outcome) (decides_both _ _ (booleans_Decides m.booted n.booted) (slice_eq-Decides Decides-eqb m.reboots n.reboots _ refl))

pub machine_decides : (m n : MachineView) → Decides (machine_eq m n) (m ≡ n)
machine_decides m n =
    decides_same _ (same_machine m n) (λ e. ((ap (λ (x : MachineView). x.registers) e, (ap (λ (x : MachineView). x.memory) e, (ap (λ (x : MachineView). x.timers) e, ap (λ (x : MachineView). x.queue) e))), ((ap (λ (x : MachineView). x.inputs) e, (ap (λ (x : MachineView). x.sent) e, (ap (λ (x : MachineView). x.losses) e, ap (λ (x : MachineView). x.duplications) e))), (ap (λ (x : MachineView). x.outcome) e, (ap (λ (x : MachineView). x.booted) e, ap (λ (x : MachineView). x.reboots) e)))))
    (decides_both _ _ (stores_decide m n) (decides_both _ _ (counts_decide m n) (course_decides m n)))

same_config : (m n : ConfigView) → ((m.node ≡ n.node) × ((m.trace ≡ n.trace) × (m.history ≡ n.history))) × ((m.machine ≡ n.machine) × ((m.terms ≡ n.terms) × ((m.cond ≡ n.cond) × (m.standing ≡ n.standing)))) → m ≡ n
same_config m n e =
    ap (λ (v : ℕ). record m { node = v }) e.0.0
    ∙ (ap (λ (v : List Bool). record m { node = n.node; trace = v }) e.0.1.0
    ∙ (ap (λ (v : ℕ). record m { node = n.node; trace = n.trace; history = v }) e.0.1.1
    ∙ (ap (λ (v : MachineView). record m { node = n.node; trace = n.trace; history = n.history; machine = v }) e.1.0
    ∙ (ap (λ (v : List Node). record n { terms = v; cond = m.cond; standing = m.standing }) e.1.1.0
    ∙ (ap (λ (v : List Literal). record n { cond = v; standing = m.standing }) e.1.1.1.0
    ∙ ap (λ (v : Standing). record n { standing = v }) e.1.1.1.1)))))

names_decide : (m n : ConfigView) → Decides (names_eq m n) ((m.node ≡ n.node) × ((m.trace ≡ n.trace) × (m.history ≡ n.history)))
names_decide m n =
    decides_both _ _ (Decides-eqb m.node n.node) (decides_both _ _ (slice_eq-Decides booleans_Decides m.trace n.trace _ refl) (Decides-eqb m.history n.history))

contents_decide : (m n : ConfigView) → Decides (contents_eq m n) ((m.machine ≡ n.machine) × ((m.terms ≡ n.terms) × ((m.cond ≡ n.cond) × (m.standing ≡ n.standing))))
contents_decide m n =
    decides_both _ _ (machine_decides m.machine n.machine) (decides_both _ _ (terms_decides m.terms n.terms)
    (decides_both _ _ (slice_eq-Decides literal_decides m.cond n.cond _ refl) (standing_decides m.standing n.standing)))

pub config_decides : (m n : ConfigView) → Decides (config_eq m n) (m ≡ n)
config_decides m n =
    decides_same _ (same_config m n) (λ e. ((ap (λ (x : ConfigView). x.node) e, (ap (λ (x : ConfigView). x.trace) e, ap (λ (x : ConfigView). x.history) e)), (ap (λ (x : ConfigView). x.machine) e, (ap (λ (x : ConfigView). x.terms) e, (ap (λ (x : ConfigView). x.cond) e, ap (λ (x : ConfigView). x.standing) e)))))
    (decides_both _ _ (names_decide m n) (contents_decide m n))

-- a test that has the answer of `==` decides
pub by_machine_eq : (m n : MachineView) (b : Bool) → b ≡ machine_eq m n → Decides b (m ≡ n)
by_machine_eq m n b is = (λ e. (machine_decides m n).0 (sym is ∙ e), λ s. is ∙ (machine_decides m n).1 s)

pub by_config_eq : (m n : ConfigView) (b : Bool) → b ≡ config_eq m n → Decides b (m ≡ n)
by_config_eq m n b is = (λ e. (config_decides m n).0 (sym is ∙ e), λ s. is ∙ (config_decides m n).1 s)
