-- A file whose tables have no fault gives a network, names and inputs that are valid.
use Rattle.std.proofs.Common.{◌≡◌, ◌≤◌, true, false, [], length, codes, None, sym, subst, ◌∙◌, arith}
use Rattle.std.specs.Prelude.{max}
use Rattle.std.specs.List.{AllByRecursion}
use Rattle.std.proofs.lemmas.List.{length-map}
use Rattle.std.proofs.Math.Nat.{le-max_right, max-le}
use Rattle.toml.specs.Data.{Members}
use Rattle.kn_plan.specs.Valid.{IsPlan, AreLimits, IsNet}
use Rattle.kn_plan.specs.Files.{IsFile}
use Rattle.kn_netfile.specs.Faults.{top, wrong_version, out_of_range}
use Rattle.kn_netfile.specs.Keys.{unknown_fault, number_at, number_fault}
use Rattle.kn_netfile.specs.Tables.{at_key, names_of, programs_of, plans_of, programs_fault, nodes_fault, links_fault, inputs_fault, top_keys, elements, node_count, limit_fault, array_fault, top_fault, file_fault, limits_at, file_at}
use Rattle.kn_netfile.proofs.ValidKeys.{both_none, IsWithin, needed_within, optional_within, tables_counted}
use Rattle.kn_netfile.proofs.ValidPrograms.{programs_count, names_valid, names_differ}
use Rattle.kn_netfile.proofs.ValidNodes.{nodes_valid}
use Rattle.kn_netfile.proofs.ValidLinks.{links_valid, fan_valid}
use Rattle.kn_netfile.proofs.ValidInputs.{inputs_valid, inputs_few, inputs_ordered}

-- what holds of the outermost table where it has no fault
record IsTop (ms : Members) : Type 0 where
  programs : IsWithin 1 64 (length (elements (codes "program") ms))
  nodes : IsWithin 1 64 (node_count ms)
  links : IsWithin 0 1024 (length (elements (codes "link") ms))
  inputs : IsWithin 0 65536 (length (elements (codes "input") ms))
  limits : AreLimits (node_count ms) (limits_at ms)

top_valid : (ms : Members) → top_fault ms ≡ None → IsTop ms
top_valid ms e =
    let (a, e1) = both_none (unknown_fault top_keys top ms) _ e in
    let (b, e2) = both_none (number_fault true wrong_version (codes "version") (number_at 1 1 (at_key (codes "version") ms))) _ e1 in
    let (t, e3) = both_none (limit_fault true (codes "ticks") 0 4096 ms) _ e2 in
    let (f, e4) = both_none (limit_fault false (codes "fuel") 1 4096 ms) _ e3 in
    let (c, e5) = both_none (limit_fault false (codes "conflicts") 1 1048576 ms) _ e4 in
    let (s, e6) = both_none (limit_fault false (codes "states") (max 1 (node_count ms)) 16384 ms) _ e5 in
    let (d, e7) = both_none (limit_fault false (codes "dstates") 1 16384 ms) _ e6 in
    let (p, e8) = both_none (array_fault (codes "program") 1 64 ms) _ e7 in
    let (n, e9) = both_none (array_fault (codes "node") 1 64 ms) _ e8 in
    let (l, i) = both_none (array_fault (codes "link") 0 1024 ms) (array_fault (codes "input") 0 65536 ms) e9 in
    let nodes = tables_counted 1 64 (codes "node") (at_key (codes "node") ms) n in
    let enough : max 1 (node_count ms) ≤ 4096 = max-le (omega arith) (omega (arith, nodes.most)) in
    let ticks = needed_within 0 4096 out_of_range (codes "ticks") 0 (at_key (codes "ticks") ms) t in
    let fuel = optional_within 1 4096 out_of_range (codes "fuel") 512 (at_key (codes "fuel") ms) (record { least = omega arith; most = omega arith }) f in
    let conflicts = optional_within 1 1048576 out_of_range (codes "conflicts") 65536 (at_key (codes "conflicts") ms) (record { least = omega arith; most = omega arith }) c in
    let states = optional_within (max 1 (node_count ms)) 16384 out_of_range (codes "states") 4096 (at_key (codes "states") ms) (record { least = enough; most = omega arith }) s in
    let dstates = optional_within 1 16384 out_of_range (codes "dstates") 4096 (at_key (codes "dstates") ms) (record { least = omega arith; most = omega arith }) d in
    record {
      programs = tables_counted 1 64 (codes "program") (at_key (codes "program") ms) p;
      nodes = nodes;
      links = tables_counted 0 1024 (codes "link") (at_key (codes "link") ms) l;
      inputs = tables_counted 0 65536 (codes "input") (at_key (codes "input") ms) i;
      limits = record {
        ticks = ticks.most;
        some_fuel = fuel.least;
        fuel = fuel.most;
        some_conflicts = conflicts.least;
        conflicts = conflicts.most;
        each_node = omega (arith, le-max_right 1 (node_count ms), states.least);
        states = states.most;
        some_dstates = dstates.least;
        dstates = dstates.most;
      };
    }

-- the five parts of a file's fault
record AreNone (ms : Members) : Type 0 where
  outermost : top_fault ms ≡ None
  programs : programs_fault 0 [] (elements (codes "program") ms) ≡ None
  nodes : nodes_fault (names_of (elements (codes "program") ms)) 0 (elements (codes "node") ms) ≡ None
  links : links_fault (node_count ms) 0 [] (elements (codes "link") ms) ≡ None
  inputs : inputs_fault (node_count ms) 0 None (elements (codes "input") ms) ≡ None

all_none : (ms : Members) → file_fault ms ≡ None → AreNone ms
all_none ms e =
    let (t, e1) = both_none (top_fault ms) _ e in
    let (p, e2) = both_none (programs_fault 0 [] (elements (codes "program") ms)) _ e1 in
    let (n, e3) = both_none (nodes_fault (names_of (elements (codes "program") ms)) 0 (elements (codes "node") ms)) _ e2 in
    let (l, i) = both_none (links_fault (node_count ms) 0 [] (elements (codes "link") ms)) _ e3 in
    record { outermost = t; programs = p; nodes = n; links = l; inputs = i }

net_valid : (ms : Members) → IsTop ms → AreNone ms → IsNet (file_at ms).network
net_valid ms t a =
    let programs = elements (codes "program") ms in
    let nodes = elements (codes "node") ms in
    let links = elements (codes "link") ms in
    let count = programs_count 0 [] programs a.programs in
    let same : length (names_of programs) ≡ length (programs_of programs) = length-map programs _ ∙ sym count in
    record {
      some_programs = rw count t.programs.least;
      programs = rw count t.programs.most;
      some_nodes = rw length-map t.nodes.least;
      nodes = rw length-map t.nodes.most;
      plans = subst (λ n. AllByRecursion (IsPlan n) (plans_of (names_of programs) nodes)) same (nodes_valid (names_of programs) 0 nodes a.nodes);
      links = rw length-map t.links.most;
      joins = rw length-map (links_valid (node_count ms) 0 [] links t.nodes.least a.links);
      fan = λ n. fan_valid (node_count ms) 0 [] links t.nodes.least a.links n (omega arith);
      limits = rw length-map t.limits;
    }

pub file_valid : (ms : Members) → file_fault ms ≡ None → IsFile (file_at ms)
file_valid ms e =
    let a = all_none ms e in
    let t = top_valid ms a.outermost in
    let programs = elements (codes "program") ms in
    let inputs = elements (codes "input") ms in
    record {
      network = net_valid ms t a;
      each = length-map programs _ ∙ sym (programs_count 0 [] programs a.programs);
      names = names_valid 0 [] programs a.programs;
      different = names_differ 0 [] programs a.programs;
      few = omega (arith, inputs_few (node_count ms) inputs, t.inputs.most);
      inputs = rw length-map (inputs_valid (node_count ms) inputs t.nodes.least a.inputs);
      order = inputs_ordered (node_count ms) 0 None inputs t.nodes.least a.inputs;
    }
