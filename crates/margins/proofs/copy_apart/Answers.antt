-- `margins::copy_apart` meets its contract: one more byte, of those that lie apart from what is written. Assumes nothing.
use Rattle.std.proofs.Common.{refl, arith}
use Rattle.grid.proofs.Loop.{filled_none, filled_more, filled_done}
use Rattle.margins.proofs.Put.{filled_rest, each_apart}
use Rattle.margins.proofs.copy_apart.Goals as goal

pub loop-i-init : goal.loop-i-init
loop-i-init c = filled_none _ _ _ _ (omega arith)

pub loop-i-preserved : goal.loop-i-preserved
loop-i-preserved c =
    let inv = c.loop-i.invariant in
    filled_more inv (omega arith) refl (filled_rest inv _ (each_apart _ _ _ _ c.requires.2 _ (omega arith)))

pub returns : goal.returns
returns c = filled_done c.loop-i.invariant (omega arith)
