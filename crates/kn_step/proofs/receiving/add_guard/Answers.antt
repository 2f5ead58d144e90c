-- One literal of the guard more.
use Rattle.std.proofs.Common.{[], ◌++◌, sym, ap, subst, ◌∙◌, append-nil, rules}
use Rattle.kn_cond.specs.Conditions.{Condition}
use Rattle.kn_cond.specs.Meanings.{condition_of}
use Rattle.kn_cond.proofs.Kept.{StandIn-extends}
use Rattle.kn_packet.specs.Packets.{PacketView}
use Rattle.kn_model.specs.Alikes.{ConditionAlike}
use Rattle.kn_model.proofs.AlikeTerms.{condition_self}
use Rattle.kn_step.proofs.Received.{guard_more, longer_through}
use Rattle.kn_step.proofs.receiving.add_guard.Goals as goal

pub loop-literal-init : goal.loop-literal-init
loop-literal-init c =
    let ns = c.args.terms.now in
    let said : Condition = condition_of ns c.args.c.now ++ condition_of ns c.args.more.now in
    record {
      alike = subst (ConditionAlike said) (sym (append-nil said)) (condition_self said);
      known = c.requires.c;
      stands = c.requires.more;
      grows = ([], sym (append-nil ns));
    }

pub loop-literal-preserved : goal.loop-literal-preserved
loop-literal-preserved c =
    let old = c.loop-literal.terms in
    let new = c.add_literal.new.terms in
    let own = c.args.c.now in
    let i = c.loop-literal.invariant in
    let first = c.args.terms.now in
    record {
      alike = guard_more c.packet.inside.terms c.args.packet.now.terms c.deref-literal-items.result.now c.args.packet.now.guard c.loop-literal.literal-index _ (condition_of new own ++ condition_of new c.add_literal.new.more) (condition_of old own ++ condition_of old c.loop-literal.more)
          (condition_of first own ++ condition_of first c.args.more.now) (c.deref-literal-items.ensures.value ∙ ap (λ (v : PacketView). v.guard) c.packet.view_is) (ap (λ (v : PacketView). v.terms) c.packet.view_is) c.loop-literal-test.true (search rules)
          c.in_ok-add_literal.ensures.alike i.alike;
      known = StandIn-extends old new own c.in_ok-add_literal.ensures.grows i.known;
      stands = c.in_ok-add_literal.ensures.stands;
      grows = longer_through first old new i.grows c.in_ok-add_literal.ensures.grows;
    }
