-- Two sums of the row fit what `mid` takes.
use Rattle.samples.specs.Kernel.{mid_at}
use Rattle.centre.proofs.mid_at.Goals as goal

pub returns : goal.returns
unfolding mid_at
returns c = c.mid.ensures
