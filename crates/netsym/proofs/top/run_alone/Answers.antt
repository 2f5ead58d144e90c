use Rattle.netsym.proofs.Exactly.{usage_exactly, exact_by, made_by}
use Rattle.netsym.proofs.top.run_alone.Goals as goal

pub returns-clause-usage : goal.returns-clause-usage
returns-clause-usage g c = usage_exactly _ _ _ _ _ _ _ _ c.run_once.ensures.runs

pub returns-clause-exact : goal.returns-clause-exact
returns-clause-exact g c = λ command bytes is holds. exact_by _ _ _ _ _ _ _ _ c.run_once.ensures.runs command c.one_line.ensures is bytes holds

pub returns-clause-made : goal.returns-clause-made
returns-clause-made g c = λ making number is. made_by _ _ _ _ _ _ _ _ c.run_once.ensures.runs making number c.one_line.ensures is
