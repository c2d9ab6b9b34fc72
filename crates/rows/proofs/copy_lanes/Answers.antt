-- `rows::copy_lanes` meets its contract. Assumes nothing.
use mathlib.Core.Path.{refl}
use native.Mathlib.Omega.{arith}
use Rattle.grid.proofs.Loop.{filled_none, filled_more, filled_done}
use Rattle.rows.proofs.copy_lanes.Goals as goal

pub loop-i-init : goal.loop-i-init
loop-i-init g c = filled_none _ _ _ _ (omega arith)

pub loop-i-preserved : goal.loop-i-preserved
loop-i-preserved g c = filled_more c.loop-i.invariant (omega arith) refl refl

pub returns : goal.returns
returns g c = filled_done c.loop-i.invariant (omega arith)
