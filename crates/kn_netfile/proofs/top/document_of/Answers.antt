-- The faults of the outermost table, in the order of its keys.
use Rattle.std.proofs.Common.{codes, length, ap, sym, ◌∙◌, rules}
use Rattle.std.proofs.lemmas.List.{length-map}
use Rattle.toml.specs.View.{table_view}
use Rattle.kn_netfile.proofs.Walks.{document_fault}
use Rattle.kn_netfile.proofs.top.document_of.Goals as goal

pub returns-clause-fault : goal.returns-clause-fault
returns-clause-fault c =
    document_fault (table_view c.args.table.now) c.len.result _ _ _ _ _ _ _ _ _ (c.len.ensures ∙ search rules ∙ sym (length-map c.in_ok-nodes.nodes.tables.items (λ t. table_view t.now)) ∙ ap length c.in_ok-nodes.ensures.tables) (c.in_ok-programs.ensures.fault (codes "program")) (c.in_ok-nodes.ensures.fault (codes "node")) (c.in_ok-links.ensures.fault (codes "link"))
    (c.in_ok-inputs.ensures.fault (codes "input")) c.in_ok-version.ensures c.in_ok-limits.ensures c.in_ok-arrays.ensures c.lower.ensures c.lower-2.ensures
