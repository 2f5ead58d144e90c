-- Lines without a fault give a valid program.
use Rattle.std.proofs.Common.{◌≡◌, None, sym, ◌∙◌}
use Rattle.indexmap.specs.IndexMap.{get_by_text}
use Rattle.kn_asm.specs.Assembling.{first_fault_lem}
use Rattle.kn_asm.proofs.Whole.{few_labels, code_is, valid_code}
use Rattle.kn_asm.proofs.assembling.program_of.Goals as goal

pub handlers_of-handlers-requires : goal.handlers_of-handlers-requires
handlers_of-handlers-requires c =
    let none : first_fault_lem c.args.lines.now ≡ None = sym c.in-Ok-None.ensures ∙ c.in-Ok-None.field-0-is in
    few_labels c.args.lines.now (λ q. get_by_text c.in-Ok.labels q) c.in-Ok.ensures none

pub instrs_of-requires : goal.instrs_of-requires
instrs_of-requires c =
    let none : first_fault_lem c.args.lines.now ≡ None = sym c.in-Ok-None.ensures ∙ c.in-Ok-None.field-0-is in
    few_labels c.args.lines.now (λ q. get_by_text c.in-Ok.labels q) c.in-Ok.ensures none

pub invariant_of-result : goal.invariant_of-result
invariant_of-result c =
    let none : first_fault_lem c.args.lines.now ≡ None = sym c.in-Ok-None.ensures ∙ c.in-Ok-None.field-0-is in
    valid_code c.args.lines.now _ c.requires.some c.requires.sound none
    (code_is c.args.lines.now (λ q. get_by_text c.in-Ok.labels q) c.in-Ok.ensures c.in-Ok-instrs_of.instrs.items c.handlers_of-handlers.result c.in-Ok-instrs_of.ensures c.handlers_of-handlers.ensures)
