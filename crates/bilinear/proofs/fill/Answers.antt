-- `bilinear::fill`: each turn of the inner loop stores one lane of column i. Assumes nothing.
use Rattle.std.proofs.Common.{refl}
use Rattle.grid.proofs.Group.{lanes_set}
use Rattle.bilinear.proofs.fill.Goals as goal

pub loop-j-preserved : goal.loop-j-preserved
loop-j-preserved g c =
    let h = c.loop-j.invariant in
    (lanes_set h.0 h.1 c.loop-j-test.true refl c.sample.ensures, h.1)
