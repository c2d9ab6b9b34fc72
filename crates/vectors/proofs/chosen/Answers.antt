-- Not exactly one of the three tests passed, and the definition goes by the same tests. Assumes nothing.
use Rattle.std.proofs.Common.{rules}
use Rattle.vectors.specs.Predict.{chosen_mv}
use Rattle.vectors.proofs.chosen.Goals as goal
use Rattle.vectors.proofs.chosen.Goals.{in_default-via-then-p+then-q, in_default-via-then-p+else-q+then-this, in_default-via-else-p+then-this-2+then-this-3, in_default-via-else-p+else-this-2+else-this-4}

pub returns-in_default : goal.returns-in_default
unfolding chosen_mv
returns-in_default c =
    elim c.in_default.branch [
      | in_default-via-then-p+then-q w ↦ search rules
      | in_default-via-then-p+else-q+then-this w ↦ search rules
      | in_default-via-else-p+then-this-2+then-this-3 w ↦ search rules
      | in_default-via-else-p+else-this-2+else-this-4 w ↦ search rules
    ]
