-- Each call is for one candidate fewer.
use Rattle.held.proofs.steps.+steps_for.Given as goal

abbrev pub decreases-steps_for : goal.decreases-steps_for
decreases-steps_for l = l.candidates
