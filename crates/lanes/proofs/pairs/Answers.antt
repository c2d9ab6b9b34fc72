-- `lanes::pairs` meets its contract: each turn writes two rows out of their lanes. Assumes nothing.
use native.Mathlib.Omega.{arith}
use Rattle.grid.proofs.Loop.{rows_none, rows_done}
use Rattle.lanes.proofs.Turns.{pair_stored}
use Rattle.lanes.proofs.pairs.Goals as goal

pub loop-i-init : goal.loop-i-init
loop-i-init g c = rows_none _ _ _ _ (omega arith)

pub loop-i-preserved : goal.loop-i-preserved
loop-i-preserved g c = pair_stored c.pair.result c.loop-i.i c.loop-i.invariant (omega arith) c.requires.1 c.store_pair.ensures c.pair.ensures

pub returns : goal.returns
returns g c = rows_done c.loop-i.invariant (omega arith)
