-- What is known of the tables so far, before that of those that are left.
use Rattle.std.proofs.Common.{◌≡◌, ◌++◌, [], map, drop}
use Rattle.toml.specs.View.{table_view}
use Rattle.kn_netfile.specs.Faults.{lower}
use Rattle.kn_netfile.specs.Tables.{programs_fault, programs_of, names_of}
use Rattle.kn_netfile.proofs.programs.programs_of.Given as goal

abbrev pub invariant-loop-index : goal.invariant-loop-index
invariant-loop-index l = record {
  fault : lower l.fault (programs_fault l.index l.names (map (λ t. table_view t.now) (drop l.index l.tables))) ≡ programs_fault 0 [] (map (λ t. table_view t.now) l.tables);
  programs : l.programs.items ++ programs_of (map (λ t. table_view t.now) (drop l.index l.tables)) ≡ programs_of (map (λ t. table_view t.now) l.tables);
  names : l.names ++ names_of (map (λ t. table_view t.now) (drop l.index l.tables)) ≡ names_of (map (λ t. table_view t.now) l.tables);
}
