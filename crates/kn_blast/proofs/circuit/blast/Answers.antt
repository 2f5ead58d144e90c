-- The only word.
use Rattle.std.proofs.Common.{refl, sym, lit<}
use Rattle.std.proofs.lemmas.Option.{slice_get_read}
use Rattle.kn_term.specs.Nodes.{term_at}
use Rattle.kn_term.specs.declared.node.Ref.{Ref}
use Rattle.kn_blast.specs.Inputs.{Covers}
use Rattle.kn_blast.proofs.Opened.{one_root}
use Rattle.kn_blast.proofs.circuit.blast.Goals as goal

pub blast_all-requires-clause-covers : goal.blast_all-requires-clause-covers
blast_all-requires-clause-covers c = one_root (λ (r : Ref). Covers c.args.inputs.now (term_at c.args.terms.now r.index)) c.args.r c.requires.covers

pub returns-clause-value : goal.returns-clause-value
returns-clause-value c = c.in_ok-words.ensures.value 0 c.args.r c.index.result.now refl (slice_get_read c.in_ok-words.words.items 1 0 c.index.result.now (sym c.in_ok-words.ensures.many) (lit< tt) c.index.ensures)
