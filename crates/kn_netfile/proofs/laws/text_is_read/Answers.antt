use Rattle.std.proofs.Common.{subst, ap, ◌∙◌}
use Rattle.std.specs.List.{AllByRecursion}
use Rattle.kn_code.specs.Code.{IsValid}
use Rattle.kn_plan.specs.Files.{File}
use Rattle.kn_netfile.proofs.Back.{text_back}
use Rattle.kn_netfile.proofs.laws.text_is_read.Goals as goal

pub returns : goal.returns
returns c = text_back c.args.net.now c.bounds.ensures (subst (AllByRecursion IsValid) (c.deref.ensures.value ∙ ap (λ (f : File). f.network.programs) c.net.view_is) c.all_valid.ensures)
