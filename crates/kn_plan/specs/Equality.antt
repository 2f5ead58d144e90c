-- When `==` says of two plans, of two networks, and of what two files give, that they are equal.
use Rattle.std.specs.Prelude.{ℕ, Bool, List, nat_eq}
use Rattle.std.specs.Cmp.{IsPartialEquivalence, and_per, on_per, nat_eq_equiv, partial_equiv_from_equiv}
use Rattle.std.specs.Ordering.{on, eq_of_both}
use Rattle.std.specs.Cmp.Lexicographic.{pointwise, lists_per}
use Rattle.kn_code.specs.contracts.program.ProgramPartialEq.TheImpl as program_eq
use Rattle.kn_code.specs.contracts.program.ProgramPartialEq.TheImpl.Laws.{laws-law as program_law}
use Rattle.kn_term.specs.contracts.valuation.ValuationPartialEq.TheImpl as valuation_eq
use Rattle.kn_term.specs.contracts.valuation.ValuationPartialEq.TheImpl.Laws.{laws-law as valuation_law}
use Rattle.kn_plan.specs.contracts.net.LinkPartialEq.TheImpl as link_eq
use Rattle.kn_plan.specs.contracts.net.LinkPartialEq.TheImpl.Laws.{laws-law as link_law}
use Rattle.kn_plan.specs.contracts.net.LimitsPartialEq.TheImpl as limits_eq
use Rattle.kn_plan.specs.contracts.net.LimitsPartialEq.TheImpl.Laws.{laws-law as limits_law}
use Rattle.kn_plan.specs.Nets.{Plan, Network}
use Rattle.kn_plan.specs.Files.{File}

nat_per : IsPartialEquivalence nat_eq
nat_per = partial_equiv_from_equiv nat_eq_equiv

-- all fields of two plans are equal
abbrev pub plan_eq : Plan → Plan → Bool
plan_eq = eq_of_both (on (λ p. p.program) nat_eq) (eq_of_both (on (λ p. p.loss) nat_eq) (eq_of_both (on (λ p. p.duplicate) nat_eq) (on (λ p. p.reboot) (pointwise nat_eq))))

-- this is an equality in the sense of `==`
pub plan_per : IsPartialEquivalence plan_eq
plan_per =
    and_per (on_per (λ (p : Plan). p.program) nat_per) (and_per (on_per (λ (p : Plan). p.loss) nat_per)
    (and_per (on_per (λ (p : Plan). p.duplicate) nat_per) (on_per (λ (p : Plan). p.reboot) (lists_per nat_per))))

-- all parts of two networks are equal
abbrev pub network_eq : Network → Network → Bool
network_eq = eq_of_both (on (λ p. p.programs) (pointwise program_eq.eq-value.it)) (eq_of_both (on (λ p. p.nodes) (pointwise plan_eq)) (eq_of_both (on (λ p. p.links) (pointwise link_eq.eq-value.it)) (on (λ p. p.limits) limits_eq.eq-value.it)))

-- this is an equality in the sense of `==`
pub network_per : IsPartialEquivalence network_eq
network_per =
    and_per (on_per (λ (p : Network). p.programs) (lists_per program_law)) (and_per (on_per (λ (p : Network). p.nodes) (lists_per plan_per))
    (and_per (on_per (λ (p : Network). p.links) (lists_per link_law)) (on_per (λ (p : Network). p.limits) limits_law)))

-- all bytes of two names are equal
abbrev pub name_eq : List ℕ → List ℕ → Bool
name_eq = pointwise nat_eq

-- this is an equality in the sense of `==`
pub name_per : IsPartialEquivalence name_eq
name_per = lists_per nat_per

-- two networks are equal, with the names of their programs and the inputs
abbrev pub file_eq : File → File → Bool
file_eq = eq_of_both (on (λ f. f.network) network_eq) (eq_of_both (on (λ f. f.names) (pointwise name_eq)) (on (λ f. f.inputs) valuation_eq.eq-value.it))

-- this is an equality in the sense of `==`
pub file_per : IsPartialEquivalence file_eq
file_per =
    and_per (on_per (λ (f : File). f.network) network_per) (and_per (on_per (λ (f : File). f.names) (lists_per name_per)) (on_per (λ (f : File). f.inputs) valuation_law))
