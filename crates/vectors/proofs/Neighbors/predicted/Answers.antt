-- Whether A is alone, and the definition goes by the same test. Assumes nothing.
use Rattle.std.proofs.Common.{sym, ◌∙◌, to_z-of_z}
use Rattle.vectors.specs.Predict.{predicted}
use Rattle.vectors.proofs.Neighbors.predicted.Goals as goal

pub returns-then-alone : goal.returns-then-alone
unfolding predicted
returns-then-alone c = rw (sym c.alone.ensures ∙ c.if-alone.true) (cc (to_z-of_z c.ranges.cur_ref))

pub returns : goal.returns
unfolding predicted
returns c = rw (sym c.alone.ensures ∙ c.if-alone.false) (cc (to_z-of_z c.ranges.cur_ref))
