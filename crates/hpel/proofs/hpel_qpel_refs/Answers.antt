-- The tails of the planes that the lookup names, or nothing.
use Rattle.std.proofs.Common.{refl}
use Rattle.planes.proofs.Laws.{above_zero}
use Rattle.hpel.proofs.Laws.{no_tails, the_tails}
use Rattle.hpel.proofs.hpel_qpel_refs.Goals as goal

pub returns-in-Ok : goal.returns-in-Ok
returns-in-Ok c = the_tails _ _ _ _ _ _ _ _ _ _ _ _ _ c.in-Ok.ensures refl c.tail-a.ensures c.choose.ensures c.tail-b.ensures c.choose-in-Ok.ensures

pub returns-in-Err : goal.returns-in-Err
returns-in-Err c = no_tails _ _ _ _ _ _ _ _ _ _ _ _ _ c.in-Err.ensures (above_zero _)
