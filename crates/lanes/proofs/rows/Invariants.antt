-- The loop of `lanes::rows`: the first r rows are written. Assumes nothing.
use Rattle.grid.proofs.Loop.{Rows}
use Rattle.lanes.proofs.rows.Given as goal

abbrev pub invariant-loop-r : goal.invariant-loop-r
invariant-loop-r g l = Rows l.fn.dst l.fn.size.w l.fn.size.h (g.K.Kernel.sample l.k) l.r l.dst
