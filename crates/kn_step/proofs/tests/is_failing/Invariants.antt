-- The ledger on which the events are counted.
use Rattle.kn_step.proofs.tests.is_failing.Given as goal

abbrev pub ghosts-ran : goal.ghosts-ran
ghosts-ran a = record { name = a.blank.name; parts = a.blank.parts }
