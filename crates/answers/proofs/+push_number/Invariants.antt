-- `push_number` calls itself with the digits before the last.
use Rattle.answers.proofs.+push_number.Given as goal

abbrev pub decreases-push_number : goal.decreases-push_number
decreases-push_number l = l.number
