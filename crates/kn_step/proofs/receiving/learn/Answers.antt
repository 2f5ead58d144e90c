-- What is known with more literals.
use Rattle.std.proofs.Common.{◌++◌, sym, subst}
use Rattle.std.specs.Prelude.{MatchOption, Option}
use Rattle.kn_cond.specs.Conditions.{Query, that, IsImpossible, StandsFor}
use Rattle.kn_cond.specs.Meanings.{condition_of, StandIn}
use Rattle.kn_cond.specs.declared.standing.Standing.{Standing}
use Rattle.kn_cond.proofs.Kept.{StandIn-append}
use Rattle.kn_node.specs.Views.{ConfigView}
use Rattle.kn_machine.specs.Views.{own_of}
use Rattle.kn_step.proofs.Received.{learned_none, learned_more}
use Rattle.kn_step.proofs.receiving.learn.Goals as goal

pub returns-then-is_empty : goal.returns-then-is_empty
returns-then-is_empty g c = learned_none c.args.budget c.args.c c.args.more c.literals.result.now c.is_empty.result c.literals.ensures c.is_empty.ensures c.if-is_empty.true c.requires.standing

pub ask_more-requires-clause-further : goal.ask_more-requires-clause-further
ask_more-requires-clause-further g c = subst (λ (v : ConfigView). StandIn v.terms c.args.more) (sym c.c.view_is) c.requires.stands

pub ask_more-requires-clause-known : goal.ask_more-requires-clause-known
ask_more-requires-clause-known g c = subst (λ (v : ConfigView). StandsFor c.args.budget (that (own_of v)) v.standing) (sym c.c.view_is) c.requires.standing

pub invariant_of-learned : goal.invariant_of-learned
invariant_of-learned g c =
    let i = c.c.inside in
    record {
      registers = c.c.invariant.registers;
      memory = c.c.invariant.memory;
      literals = subst (StandIn i.terms) (sym c.in_ok-join.ensures.ok) (StandIn-append i.terms i.cond c.args.more c.c.invariant.literals (subst (λ (v : ConfigView). StandIn v.terms c.args.more) (sym c.c.view_is) c.requires.stands));
    }

pub returns-in_default : goal.returns-in_default
returns-in_default g c =
    let i = c.c.inside in
    let more = c.args.more in
    let q : Query = that (condition_of i.terms i.cond ++ condition_of i.terms more) in
    let budget = c.args.budget in
    let never : IsImpossible q = subst (λ (o : Option Standing). MatchOption o (IsImpossible q) (StandsFor budget q)) c.in_default.is (c.standing.ensures budget q c.in_ok-judged.ensures) in
    subst (λ (u : ConfigView). IsImpossible (that (own_of u ++ condition_of u.terms more))) c.c.view_is never

pub returns : goal.returns
returns g c =
    let i = c.c.inside in
    let v : ConfigView = record { node = i.node; machine = i.machine; terms = i.terms; cond = i.cond; trace = i.trace; history = i.history; standing = i.standing } in
    let more = c.args.more in
    let standing = c.in-Some.standing in
    let q : Query = that (condition_of i.terms i.cond ++ condition_of i.terms more) in
    let budget = c.args.budget in
    let known : StandsFor budget q standing = subst (λ (o : Option Standing). MatchOption o (IsImpossible q) (StandsFor budget q)) c.in-Some.is (c.standing.ensures budget q c.in_ok-judged.ensures) in
    learned_more budget c.args.c v more c.join.new.self standing c.c.view_is c.in_ok-join.ensures.ok known
