-- The values with one literal more.
use Rattle.std.proofs.Common.{◌≡◌, ◌<◌, subst, sym}
use Rattle.std.specs.Prelude.{None}
use Rattle.kn_cnf.specs.Units.{valued}
use Rattle.kn_sat.specs.Trails.{Assignment, latest}
use Rattle.kn_sat.proofs.Values.{values_more}
use Rattle.kn_sat.proofs.trail.Trail.assign.Goals as goal

pub invariant_of-self-2 : goal.invariant_of-self-2
invariant_of-self-2 c =
    values_more c.self.inside.values.items c.self.inside.entries.items c.push.new.self.items (record { literal = c.args.literal; reason = c.args.reason }) c.in_ok-push.ensures.items c.self.invariant
    (subst (λ (a : Assignment). (c.args.literal).var < a.vars) (sym c.self.view_is) c.requires.var) (subst (λ (a : Assignment). valued (latest a.entries) (c.args.literal).var ≡ None) (sym c.self.view_is) c.requires.opens)
