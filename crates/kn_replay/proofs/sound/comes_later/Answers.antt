-- The network of a file whose programs are valid.
use Rattle.std.proofs.Common.{subst, sym, ap, ◌∙◌}
use Rattle.std.specs.List.{AllByRecursion}
use Rattle.std.proofs.lemmas.List.{drop_all}
use Rattle.kn_code.specs.Code.{IsValid}
use Rattle.kn_plan.specs.Files.{File}
use Rattle.kn_replay.proofs.SoundNets.{later_net}
use Rattle.kn_replay.proofs.sound.comes_later.Goals as goal

pub returns : goal.returns
returns c =
    let items = c.deref-program-items.result.now in
    let none = drop_all c.loop-program.program-index items c.loop-program-test.false in
    let all = c.loop-program.invariant (subst (AllByRecursion IsValid) (sym none) tt) in
    later_net c.args.net.now c.bounds.ensures (subst (AllByRecursion IsValid) (c.deref-program-items.ensures.value ∙ ap (λ (f : File). f.network.programs) c.net.view_is) all)
