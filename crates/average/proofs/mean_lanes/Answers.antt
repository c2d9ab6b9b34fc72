-- `average::mean_lanes`: each turn writes one average. Assumes nothing.
use Rattle.std.proofs.Common.{◌∙◌, sym, arith}
use native.Mathlib.Nat.{zero-add}
use Rattle.grid.proofs.Loop.{filled_none, filled_more, filled_done}
use Rattle.average.proofs.Runs.{put_all}
use Rattle.average.proofs.mean_lanes.Goals as goal

pub loop-i-init : goal.loop-i-init
loop-i-init c = filled_none _ _ _ _ (omega arith)

pub loop-i-preserved : goal.loop-i-preserved
loop-i-preserved c = filled_more c.loop-i.invariant (omega arith) (sym (zero-add _)) c.avg2.ensures

pub returns : goal.returns
returns c = filled_done c.loop-i.invariant (omega arith) ∙ put_all _ _ _ (omega arith)
