-- Programs, plans, links, limits, networks and what files give are equal exactly where `==` says so.
use Rattle.std.proofs.Common.{◌≡◌, ℕ, List, Bool, true, false, eqb, refl, ap, sym, ◌∙◌}
use Rattle.std.specs.Prelude.{◌&&◌}
use Rattle.std.specs.Bool.{Decides}
use Rattle.std.specs.Option.{option_eq}
use Rattle.std.specs.Cmp.Lexicographic.{pointwise}
use Rattle.std.proofs.lemmas.Bool.Decides.{Decides-eqb}
use Rattle.std.proofs.lemmas.Slice.Eq.{slice_eq-Decides}
use Rattle.kn_built.proofs.Deciding.{decides_both, decides_same}
use Rattle.kn_code.specs.Code.{Code}
use Rattle.kn_code.specs.contracts.program.InstrPartialEq.TheImpl as instr_eq
use Rattle.kn_code.specs.contracts.program.ProgramPartialEq.TheImpl as program_eq
use Rattle.kn_code.proofs.Equal.{same_handlers, other_instrs}
use Rattle.kn_term.specs.Terms.{Valuation}
use Rattle.kn_term.proofs.Equal.{given_decides}
use Rattle.kn_plan.specs.contracts.net.LinkPartialEq.TheImpl as link_eq
use Rattle.kn_plan.specs.contracts.net.LimitsPartialEq.TheImpl as limits_eq
use Rattle.kn_plan.specs.Nets.{Plan, Link, Limits, Network}
use Rattle.kn_plan.specs.Files.{File}
use Rattle.kn_plan.specs.Equality.{plan_eq, network_eq, name_eq, file_eq}

pub program_decides : (p q : Code) → Decides (program_eq.eq-value.it p q) (p ≡ q)
program_decides p q = go (pointwise instr_eq.eq-value.it p.instrs q.instrs) refl where
  go : (b : Bool) → b ≡ pointwise instr_eq.eq-value.it p.instrs q.instrs → Decides (b && pointwise (option_eq eqb) p.handlers q.handlers) (p ≡ q)
  go true e = same_handlers p q true (pointwise (option_eq eqb) p.handlers q.handlers) e refl refl
  go false e = other_instrs p q false e refl

same_plan : (p q : Plan) → (p.program ≡ q.program) × ((p.loss ≡ q.loss) × ((p.duplicate ≡ q.duplicate) × (p.reboot ≡ q.reboot))) → p ≡ q
same_plan p q e =
    ap (λ (v : ℕ). record p { program = v }) e.0
    ∙ (ap (λ (v : ℕ). record p { program = q.program; loss = v }) e.1.0
    ∙ (ap (λ (v : ℕ). record p { program = q.program; loss = q.loss; duplicate = v }) e.1.1.0
    ∙ ap (λ (v : List ℕ). record p { program = q.program; loss = q.loss; duplicate = q.duplicate; reboot = v }) e.1.1.1))

pub plan_decides : (p q : Plan) → Decides (plan_eq p q) (p ≡ q)
plan_decides p q =
    decides_same _ (same_plan p q) (λ e. (ap (λ (x : Plan). x.program) e, (ap (λ (x : Plan). x.loss) e, (ap (λ (x : Plan). x.duplicate) e, ap (λ (x : Plan). x.reboot) e))))
    (decides_both _ _ (Decides-eqb p.program q.program) (decides_both _ _ (Decides-eqb p.loss q.loss)
    (decides_both _ _ (Decides-eqb p.duplicate q.duplicate) (slice_eq-Decides Decides-eqb p.reboot q.reboot _ refl))))

same_link : (k l : Link) → (k.from ≡ l.from) × ((k.to ≡ l.to) × (k.delay ≡ l.delay)) → k ≡ l
same_link k l e =
    ap (λ (v : ℕ). record k { from = v }) e.0
    ∙ (ap (λ (v : ℕ). record k { from = l.from; to = v }) e.1.0
    ∙ ap (λ (v : ℕ). record k { from = l.from; to = l.to; delay = v }) e.1.1)

pub link_decides : (k l : Link) → Decides (link_eq.eq-value.it k l) (k ≡ l)
link_decides k l =
    decides_same _ (same_link k l) (λ e. (ap (λ (x : Link). x.from) e, (ap (λ (x : Link). x.to) e, ap (λ (x : Link). x.delay) e)))
    (decides_both _ _ (Decides-eqb k.from l.from) (decides_both _ _ (Decides-eqb k.to l.to) (Decides-eqb k.delay l.delay)))

same_limits : (k l : Limits) → (k.ticks ≡ l.ticks) × ((k.fuel ≡ l.fuel) × ((k.conflicts ≡ l.conflicts) × ((k.states ≡ l.states) × (k.dstates ≡ l.dstates)))) → k ≡ l
same_limits k l e =
    ap (λ (v : ℕ). record k { ticks = v }) e.0
    ∙ (ap (λ (v : ℕ). record k { ticks = l.ticks; fuel = v }) e.1.0
    ∙ (ap (λ (v : ℕ). record k { ticks = l.ticks; fuel = l.fuel; conflicts = v }) e.1.1.0
    ∙ (ap (λ (v : ℕ). record k { ticks = l.ticks; fuel = l.fuel; conflicts = l.conflicts; states = v }) e.1.1.1.0
    ∙ ap (λ (v : ℕ). record k { ticks = l.ticks; fuel = l.fuel; conflicts = l.conflicts; states = l.states; dstates = v }) e.1.1.1.1)))

pub limits_decide : (k l : Limits) → Decides (limits_eq.eq-value.it k l) (k ≡ l)
limits_decide k l =
    decides_same _ (same_limits k l) (λ e. (ap (λ (x : Limits). x.ticks) e, (ap (λ (x : Limits). x.fuel) e, (ap (λ (x : Limits). x.conflicts) e, (ap (λ (x : Limits). x.states) e, ap (λ (x : Limits). x.dstates) e)))))
    (decides_both _ _ (Decides-eqb k.ticks l.ticks) (decides_both _ _ (Decides-eqb k.fuel l.fuel)
    (decides_both _ _ (Decides-eqb k.conflicts l.conflicts) (decides_both _ _ (Decides-eqb k.states l.states) (Decides-eqb k.dstates l.dstates)))))

same_network : (m n : Network) → (m.programs ≡ n.programs) × ((m.nodes ≡ n.nodes) × ((m.links ≡ n.links) × (m.limits ≡ n.limits))) → m ≡ n
same_network m n e =
    ap (λ (v : List Code). record m { programs = v }) e.0
    ∙ (ap (λ (v : List Plan). record m { programs = n.programs; nodes = v }) e.1.0
    ∙ (ap (λ (v : List Link). record m { programs = n.programs; nodes = n.nodes; links = v }) e.1.1.0
    ∙ ap (λ (v : Limits). record m { programs = n.programs; nodes = n.nodes; links = n.links; limits = v }) e.1.1.1))

pub network_decides : (m n : Network) → Decides (network_eq m n) (m ≡ n)
network_decides m n =
    decides_same _ (same_network m n) (λ e. (ap (λ (x : Network). x.programs) e, (ap (λ (x : Network). x.nodes) e, (ap (λ (x : Network). x.links) e, ap (λ (x : Network). x.limits) e))))
    (decides_both _ _ (slice_eq-Decides program_decides m.programs n.programs _ refl) (decides_both _ _ (slice_eq-Decides plan_decides m.nodes n.nodes _ refl)
    (decides_both _ _ (slice_eq-Decides link_decides m.links n.links _ refl) (limits_decide m.limits n.limits))))

pub names_decide : (m n : List ℕ) → Decides (name_eq m n) (m ≡ n)
names_decide m n = slice_eq-Decides Decides-eqb m n (name_eq m n) refl

same_file : (f g : File) → (f.network ≡ g.network) × ((f.names ≡ g.names) × (f.inputs ≡ g.inputs)) → f ≡ g
same_file f g e =
    ap (λ (v : Network). record f { network = v }) e.0
    ∙ (ap (λ (v : List (List ℕ)). record f { network = g.network; names = v }) e.1.0
    ∙ ap (λ (v : Valuation). record f { network = g.network; names = g.names; inputs = v }) e.1.1)

pub file_decides : (f g : File) → Decides (file_eq f g) (f ≡ g)
file_decides f g =
    decides_same _ (same_file f g) (λ e. (ap (λ (x : File). x.network) e, (ap (λ (x : File). x.names) e, ap (λ (x : File). x.inputs) e)))
    (decides_both _ _ (network_decides f.network g.network)
    (decides_both _ _ (slice_eq-Decides names_decide f.names g.names _ refl) (slice_eq-Decides given_decides f.inputs g.inputs _ refl)))

-- a test that has the answer of `==` decides
pub by_plan_eq : (p q : Plan) (b : Bool) → b ≡ plan_eq p q → Decides b (p ≡ q)
by_plan_eq p q b is = (λ e. (plan_decides p q).0 (sym is ∙ e), λ s. is ∙ (plan_decides p q).1 s)

pub by_name_eq : (m n : List ℕ) (b : Bool) → b ≡ name_eq m n → Decides b (m ≡ n)
by_name_eq m n b is = slice_eq-Decides Decides-eqb m n b is

pub by_file_eq : (f g : File) (b : Bool) → b ≡ file_eq f g → Decides b (f ≡ g)
by_file_eq f g b is = (λ e. (file_decides f g).0 (sym is ∙ e), λ s. is ∙ (file_decides f g).1 s)
