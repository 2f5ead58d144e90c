-- The table's words for the places of the roots.
use Rattle.std.proofs.Common.{◌∙◌, List, ℕ, ap, sym, subst}
use Rattle.std.specs.Prelude.{nat_eq}
use Rattle.std.specs.HashMap.{get}
use Rattle.kn_term.specs.Nodes.{term_at}
use Rattle.kn_term.specs.Reached.{Root, IsAmong, AreInOrder}
use Rattle.kn_blast.specs.Spelling.{number}
use Rattle.kn_blast.specs.Tables.{HasWordOf}
use Rattle.kn_blast.proofs.Growing.{if_each}
use Rattle.kn_blast.proofs.Tabling.{word_given}
use Rattle.kn_blast.proofs.Opened.{covered_reached}
use Rattle.kn_blast.proofs.circuit.blast_all.Goals as goal

pub words_of-requires-clause-order : goal.words_of-requires-clause-order
words_of-requires-clause-order c = subst (AreInOrder c.args.terms.now) (sym c.deref.ensures.value) c.in_ok-needed.ensures.order

pub words_of-requires-clause-covers : goal.words_of-requires-clause-covers
words_of-requires-clause-covers c = λ place among.
    covered_reached c.args.terms.now c.args.roots.now c.args.inputs.now place c.order.ensures.order ((c.in_ok-needed.ensures.exact place).0 (subst (λ (l : List ℕ). IsAmong l place) c.deref.ensures.value among)) c.requires.covers

pub returns-clause-value : goal.returns-clause-value
returns-clause-value c =
    if_each c.words_at.result _ _ (λ words read i r word root is bits a given.
    let among : IsAmong c.deref.result.now r.index = subst (λ (l : List ℕ). IsAmong l r.index) (sym c.deref.ensures.value) ((c.in_ok-needed.ensures.exact r.index).1 (Root r.index (i, root))) in
    let has : HasWordOf c.words_of.new.aig c.args.inputs.now c.args.terms.now (get nat_eq c.in_ok-table.table) r.index = c.in_ok-table.ensures.values r.index among in
    word_given c.words_by_inputs.ensures bits c.args.inputs.now a (term_at c.args.terms.now r.index) _ given (ap (number bits c.words_of.new.aig) (read i r word has.0 root is has.1) ∙ has.2.value bits)) c.words_at.ensures.read
