-- The test on each axis.
use Rattle.std.proofs.Common.{◌&&◌, ap₂}
use Rattle.window.proofs.reaches.Goals as goal

pub returns : goal.returns
returns g c = ap₂ ◌&&◌ c.in_reach-across.ensures c.in_reach-down.ensures
