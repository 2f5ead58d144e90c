use Rattle.std.proofs.Common.{◌≡◌, map}
use Rattle.toml.specs.View.{members_view}
use Rattle.kn_netfile.specs.Keys.{all_listed}
use Rattle.kn_netfile.proofs.keys.all_listed.Given as goal

abbrev pub invariant-keys : goal.invariant-keys
invariant-keys l = all_listed (map (λ k. k.now) l.keys) (members_view l.key-iterator) ≡ all_listed (map (λ k. k.now) l.keys) (members_view l.table.entries)
