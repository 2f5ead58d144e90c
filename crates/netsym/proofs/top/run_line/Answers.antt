use Rattle.netsym.specs.declared.command.Making.TheVariants as makings
use Rattle.netsym.proofs.Ends.{ends_made, made_reads_nothing}
use Rattle.netsym.proofs.top.run_line.Goals as goal

pub returns-in-ExploreMade-clause-ends : goal.returns-in-ExploreMade-clause-ends
returns-in-ExploreMade-clause-ends g c = rw c.in-ExploreMade.is (ends_made makings.Explore c.in-ExploreMade.number _ (c.run_made.ensures.ends _ _))

pub returns-in-ExploreMade-clause-read_fault : goal.returns-in-ExploreMade-clause-read_fault
returns-in-ExploreMade-clause-read_fault g c = made_reads_nothing makings.Explore c.in-ExploreMade.number (c.run_made.ensures.ends 0 0)

pub returns-in-Make-clause-ends : goal.returns-in-Make-clause-ends
returns-in-Make-clause-ends g c = rw c.in-Make.is (ends_made makings.Print c.in-Make.number _ (c.run_made-in-Make.ensures.ends _ _))

pub returns-in-Make-clause-read_fault : goal.returns-in-Make-clause-read_fault
returns-in-Make-clause-read_fault g c = made_reads_nothing makings.Print c.in-Make.number (c.run_made-in-Make.ensures.ends 0 0)
