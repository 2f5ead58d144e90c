-- The values with the latest literal taken back.
use Rattle.kn_sat.proofs.Values.{values_less, last_opened}
use Rattle.std.proofs.Common.{◌<◌, arith, subst, sym}
use Rattle.std.proofs.lemmas.List.{length-set}
use Rattle.std.specs.Prelude.{None, ℕ}
use Rattle.kn_sat.proofs.trail.Trail.pop.Goals as goal

pub index_mut-requires : goal.index_mut-requires
index_mut-requires c =
    let parts = last_opened c.self.inside.values.items c.pop.new.self.items c.self.inside.entries.items c.in_ok-entry.entry c.in_ok-entry.ensures.items c.self.invariant in
    omega (arith, parts.1)

pub invariant_of-self-2 : goal.invariant_of-self-2
invariant_of-self-2 c = values_less c.self.inside.values.items c.pop.new.self.items c.self.inside.entries.items c.in_ok-entry.entry c.in_ok-entry.ensures.items c.self.invariant

pub returns-clause-opens : goal.returns-clause-opens
returns-clause-opens c =
    let parts = last_opened c.self.inside.values.items c.pop.new.self.items c.self.inside.entries.items c.in_ok-entry.entry c.in_ok-entry.ensures.items c.self.invariant in
    (subst (λ (n : ℕ). (c.in_ok-entry.entry.literal).var < n) (sym (length-set c.self.inside.values.items (c.in_ok-entry.entry.literal).var None)) parts.1, parts.2)
