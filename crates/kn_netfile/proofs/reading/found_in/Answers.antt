-- The fault of a table, or its network.
use Rattle.std.proofs.Common.{◌≡◌, None, Some, Ok, sym, ap, ◌∙◌}
use Rattle.std.proofs.lemmas.List.{length-map}
use Rattle.toml.specs.View.{table_view}
use Rattle.kn_plan.specs.Files.{File}
use Rattle.kn_netfile.specs.Tables.{file_fault}
use Rattle.kn_netfile.proofs.Cases.{has_fault, has_none, fault_of_arrays}
use Rattle.kn_netfile.proofs.Valid.{file_valid}
use Rattle.kn_netfile.proofs.reading.found_in.Goals as goal

pub returns-in-Some : goal.returns-in-Some
returns-in-Some c =
    let ms = table_view c.args.table.now in
    let all = fault_of_arrays ms _ _ _ _ _ _ _ _ _ _ c.lower-2.result c.in_ok-top.ensures.nodes c.in_ok-top.ensures.links c.in_ok-top.ensures.inputs c.in_ok-fault.ensures.names c.in_ok-top.ensures.fault c.in_ok-fault.ensures.fault c.in_ok-elements.ensures c.lower.ensures c.lower-2.ensures
    (rw c.deref.ensures.value c.in_ok-top.ensures.programs) (sym (length-map c.in_ok-top.field-0.arrays.nodes.items (λ t. table_view t.now))) in
    let found : file_fault ms ≡ Some c.in-Some.refusal = sym all ∙ c.in-Some.is in
    sym (has_fault ms c.in-Some.refusal found)

pub net_of-requires-clause-valid : goal.net_of-requires-clause-valid
net_of-requires-clause-valid c =
    let ms = table_view c.args.table.now in
    let all = fault_of_arrays ms _ _ _ _ _ _ _ _ _ _ c.lower-2.result c.in_ok-top.ensures.nodes c.in_ok-top.ensures.links c.in_ok-top.ensures.inputs c.in_ok-fault.ensures.names c.in_ok-top.ensures.fault c.in_ok-fault.ensures.fault c.in_ok-elements.ensures c.lower.ensures c.lower-2.ensures
    (rw c.deref.ensures.value c.in_ok-top.ensures.programs) (sym (length-map c.in_ok-top.field-0.arrays.nodes.items (λ t. table_view t.now))) in
    let none : file_fault ms ≡ None = sym all ∙ c.in-None.is in
    file_valid ms none

pub returns : goal.returns
returns c =
    let ms = table_view c.args.table.now in
    let all = fault_of_arrays ms _ _ _ _ _ _ _ _ _ _ c.lower-2.result c.in_ok-top.ensures.nodes c.in_ok-top.ensures.links c.in_ok-top.ensures.inputs c.in_ok-fault.ensures.names c.in_ok-top.ensures.fault c.in_ok-fault.ensures.fault c.in_ok-elements.ensures c.lower.ensures c.lower-2.ensures
    (rw c.deref.ensures.value c.in_ok-top.ensures.programs) (sym (length-map c.in_ok-top.field-0.arrays.nodes.items (λ t. table_view t.now))) in
    let none : file_fault ms ≡ None = sym all ∙ c.in-None.is in
    ap (λ (f : File). Ok f) c.in_ok-net_of-in-None.ensures ∙ sym (has_none ms none)
