-- One packet's guard more.
use Rattle.std.proofs.Common.{List, [], ◌++◌, sym, subst, append-nil}
use Rattle.kn_term.specs.declared.node.Literal.{Literal}
use Rattle.kn_cond.specs.Conditions.{Condition}
use Rattle.kn_cond.specs.Meanings.{condition_of, StandIn}
use Rattle.kn_cond.proofs.Kept.{StandIn-extends}
use Rattle.kn_model.specs.Alikes.{ConditionAlike}
use Rattle.kn_model.proofs.AlikeTerms.{condition_self}
use Rattle.kn_step.proofs.Received.{guards_more, longer_through}
use Rattle.kn_step.proofs.receiving.guards.Goals as goal

pub loop-packet-init : goal.loop-packet-init
loop-packet-init c =
    let ns = c.args.terms.now in
    let own : Condition = condition_of ns c.args.c.now in
    record {
      alike = subst (λ (ls : List Literal). ConditionAlike (own ++ condition_of ns ls) (own ++ [])) (sym c.new-more.ensures) (condition_self (own ++ []));
      known = c.requires;
      stands = subst (StandIn ns) (sym c.new-more.ensures) (λ place l e. absurd cc);
      grows = ([], sym (append-nil ns));
    }

pub loop-packet-preserved : goal.loop-packet-preserved
loop-packet-preserved c =
    let old = c.loop-packet.terms in
    let new = c.add_guard.new.terms in
    let own = c.args.c.now in
    let i = c.loop-packet.invariant in
    record {
      alike = guards_more (condition_of new own ++ condition_of new c.add_guard.new.more) (condition_of old own ++ condition_of old c.loop-packet.more) (condition_of c.args.terms.now own) c.args.inbox.now c.loop-packet.packet-index c.packet-item.result
          c.loop-packet-test.true c.packet-item.is c.in_ok-add_guard.ensures.alike i.alike;
      known = StandIn-extends old new own c.in_ok-add_guard.ensures.grows i.known;
      stands = c.in_ok-add_guard.ensures.stands;
      grows = longer_through c.args.terms.now old new i.grows c.in_ok-add_guard.ensures.grows;
    }
