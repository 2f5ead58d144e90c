-- The literals of the part stand, and what is known of it is known of all.
use Rattle.std.proofs.Common.{true, false, List, ◌++◌, sym, subst}
use Rattle.kn_blast.specs.declared.inputs.InputBits.{InputBits}
use Rattle.kn_cond.specs.Conditions.{Condition}
use Rattle.kn_cond.specs.Meanings.{literal_of, condition_of}
use Rattle.kn_cond.proofs.Kept.{StandIn-append, condition_of-append}
use Rattle.kn_solve.specs.Parts.{IsSplit, LiteralsRead}
use Rattle.kn_solve.proofs.Members.{mapped_split}
use Rattle.kn_solve.proofs.Sharing.{stand_among, condition_read}
use Rattle.kn_solve.proofs.more.ask_part.Goals as goal

pub ask_one-requires-clause-condition : goal.ask_one-requires-clause-condition
ask_one-requires-clause-condition g c =
    stand_among c.args.terms.now _ _ c.in_ok-parts.ensures.split.part_in (StandIn-append c.args.terms.now c.args.c.now c.args.more.now c.requires.condition c.requires.further)

pub returns : goal.returns
returns g c =
    let ns = c.args.terms.now in
    let first = c.args.c.now in
    let more = c.args.more.now in
    let p = c.in_ok-parts.parts in
    let split : IsSplit (condition_of ns first ++ condition_of ns more) (condition_of ns first) (condition_of ns p.part) (condition_of ns p.rest) =
    subst (λ (w : Condition). IsSplit w (condition_of ns first) (condition_of ns p.part) (condition_of ns p.rest)) (condition_of-append ns first more) (mapped_split (literal_of ns) (first ++ more) first p.part p.rest c.in_ok-parts.ensures.split) in
    c.of_all.ensures c.args.budget (condition_of ns first ++ condition_of ns more) (condition_of ns first) (condition_of ns p.part) (condition_of ns p.rest) split
    (condition_read ns c.inputs.result.now true p.part (subst (λ (es : List InputBits). LiteralsRead ns es true p.part) (sym c.inputs.ensures.list) c.in_ok-parts.ensures.part))
    (condition_read ns c.inputs.result.now false p.rest (subst (λ (es : List InputBits). LiteralsRead ns es false p.rest) (sym c.inputs.ensures.list) c.in_ok-parts.ensures.rest)) c.requires.least c.in_ok-judged.ensures
