use Rattle.kn_step.proofs.run.+run.Given as goal

abbrev pub decreases-run : goal.decreases-run
decreases-run g l = l.fuel
