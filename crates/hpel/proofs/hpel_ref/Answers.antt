-- The tail of the plane that the lookup names, or nothing.
use Rattle.std.proofs.Common.{refl}
use Rattle.planes.proofs.Laws.{above_zero}
use Rattle.hpel.proofs.Laws.{no_tail, the_tail}
use Rattle.hpel.proofs.hpel_ref.Goals as goal

pub returns-in-Ok : goal.returns-in-Ok
returns-in-Ok c = the_tail _ _ _ _ _ _ _ _ _ _ _ _ _ c.in-Ok.ensures refl c.tail.ensures c.choose.ensures

pub returns-in-Err : goal.returns-in-Err
returns-in-Err c = no_tail _ _ _ _ _ _ _ _ _ _ _ _ _ c.in-Err.ensures (above_zero _)
