use Rattle.std.proofs.Common.{◌≡◌, ℕ, ◌<◌, List, [], ◌∷◌, length, ap, sym, arith, subst, refl, below_more, Some, length-append}
use Rattle.std.specs.Prelude.{slice_get}
use Rattle.kn_built.proofs.BuiltLaws.{length-built}
use Rattle.kn_packet.specs.Histories.{Done}
use Rattle.kn_dstate.specs.declared.row.Past.TheVariants.{Nothing}
use Rattle.kn_dstate.specs.Histories.{Told, told, told_by}
use Rattle.kn_dstate.proofs.Growing.{pushed, get_left}
use Rattle.kn_dstate.proofs.table.open_rows.Goals as goal

pub loop-node-preserved : goal.loop-node-preserved
loop-node-preserved c =
    let rows = c.loop-node.rows.items in
    let so = pushed rows c.push.new.self.items (record { node = c.loop-node.node; count = 0; past = Nothing }) c.loop-node.node c.loop-node.invariant.table tt refl (omega arith) c.in_ok-push.ensures.items (sym c.loop-node.invariant.many) in
    let kept : (n : ℕ) → n < c.loop-node.node → slice_get (told c.push.new.self.items) n ≡ Some (record { node = n; history = Done }) = λ n low.
    subst (λ (l : List Told). slice_get l n ≡ Some (record { node = n; history = Done })) (sym so.grows.1) (get_left (told rows) so.grows.0 n (record { node = n; history = Done }) (c.loop-node.invariant.each n low)) in
    record {
      table = so.table;
      many = omega (arith, ap length c.in_ok-push.ensures.items, length-append rows (record { node = c.loop-node.node; count = 0; past = Nothing } ∷ []), c.loop-node.invariant.many);
      each = below_more (λ n. slice_get (told c.push.new.self.items) n ≡ Some (record { node = n; history = Done })) c.loop-node.node kept so.tells;
    }

pub returns-clause-many : goal.returns-clause-many
returns-clause-many c = omega (arith, length-built told_by c.loop-node.rows.items, c.loop-node.invariant.many)
