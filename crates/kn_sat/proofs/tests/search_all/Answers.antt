-- Where each variable is an input, each assignment of the inputs is complete.
use Rattle.std.proofs.Common.{◌≡◌, ℕ, ◌+◌, false, [], get_or, ap, sym, ◌∙◌, inl, arith}
use Rattle.kn_cnf.specs.Formulas.{Formula}
use Rattle.kn_cnf.specs.Units.{valued, assigned_from, IsDecided}
use Rattle.kn_cnf.proofs.Spreading.{assigned_value}
use Rattle.kn_sat.proofs.tests.search_all.Goals as goal

whole : (n : ℕ) (f : Formula) → n ≡ f.vars → IsDecided n f
whole n f same bits long = (
  [],
  tt,
  inl (λ q low.
      let e : 0 + q ≡ q = omega arith in
      (get_or bits q false, ap (valued (assigned_from 0 bits)) (sym e) ∙ assigned_value 0 bits q (omega (arith, low, same, long)))),
)

pub search-requires-clause-decided : goal.search-requires-clause-decided
search-requires-clause-decided c = whole c.cnf.inside.vars c.args.cnf.now (ap (λ (f : Formula). f.vars) c.cnf.view_is)
