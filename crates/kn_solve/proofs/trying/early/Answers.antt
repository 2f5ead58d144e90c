-- The inputs that were opened are those that the term reads.
use Rattle.std.proofs.Common.{map, refl, sym, ap, ◌∙◌}
use Rattle.kn_solve.proofs.Stating.{if_each}
use Rattle.kn_solve.specs.Asking.{read_of}
use Rattle.kn_solve.proofs.Opening.{opened_reads}
use Rattle.kn_solve.proofs.trying.early.Goals as goal

pub returns : goal.returns
returns c = if_each c.first_of.result _ _ (λ o all q asked. all q asked (opened_reads c.one_list.ensures q c.args.terms.now c.args.root _ asked c.order.ensures.order c.requires c.in_ok-inputs.ensures.order (c.in_ok-inputs.ensures.covers 0 c.args.root refl) c.in_ok-inputs.ensures.read ∙ ap (map read_of) (sym c.inputs-2.ensures.list))) c.first_of.ensures
