-- One more sample is written at each turn.
use Rattle.std.proofs.Common.{refl, arith}
use Rattle.grid.proofs.Loop.{filled_none, filled_more}
use Rattle.place.proofs.tiles.clamped_row.Goals as goal

pub loop-i-init : goal.loop-i-init
loop-i-init c = filled_none _ _ _ _ (omega arith)

pub loop-i-preserved : goal.loop-i-preserved
loop-i-preserved c = filled_more c.loop-i.invariant (omega arith) refl (rw c.nearest.ensures.0)
