-- Nobody is sent anything where no packet was sent.
use Rattle.std.proofs.Common.{◌≡◌, ◌∙◌, sym, ap, []}
use Rattle.std.specs.Prelude.{slice_set}
use Rattle.std.proofs.lemmas.List.{nil_from_length}
use Rattle.std.proofs.lemmas.Bool.{eqb-true}
use Rattle.kn_node.specs.Views.{ConfigView}
use Rattle.kn_machine.specs.Paths.{PathView}
use Rattle.kn_cob.specs.Copies.{node_in}
use Rattle.kn_cob.proofs.Idle.{mailed_none}
use Rattle.kn_cob.proofs.copies.NetworkCopy.along.Goals as goal

pub returns-then-is_empty : goal.returns-then-is_empty
returns-then-is_empty c =
    let sends : c.path.inside.sends.items ≡ c.args.path.sends = ap (λ (p : PathView). p.sends) c.path.view_is in
    let config : c.path.inside.config ≡ c.args.path.config = ap (λ (p : PathView). p.config) c.path.view_is in
    let none : c.args.path.sends ≡ [] = sym sends ∙ nil_from_length c.path.inside.sends.items (sym c.path.inside.sends.ok.0 ∙ eqb-true _ 0 (sym c.if-is_empty.ensures)) in
    c.in_ok-next.ensures ∙ ap (λ (d : ConfigView). slice_set c.args.self.now c.args.node (record (node_in c.args.self.now c.args.node) { config = d })) config ∙ sym (mailed_none c.args.path.sends _ none)
