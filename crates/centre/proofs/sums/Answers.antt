-- `centre::sums` meets its contract: each turn stores a sum. Assumes nothing.
use mathlib.Core.Path.{refl}
use native.Mathlib.Omega.{arith}
use Rattle.grid.proofs.Loop.{filled_none, filled_more, filled_done}
use Rattle.centre.proofs.sums.Goals as goal

pub loop-i-init : goal.loop-i-init
loop-i-init c = filled_none _ _ _ _ (omega arith)

pub loop-i-preserved : goal.loop-i-preserved
loop-i-preserved c = filled_more c.loop-i.invariant (omega arith) refl c.sum6.ensures.0

pub returns : goal.returns
returns c = (filled_done c.loop-i.invariant (omega arith), λ k. omega (arith, c.type_inv.t k))
