-- The loop of `lanes::pairs`: the first 2 * i rows are written. Assumes nothing.
use Rattle.std.proofs.Common.{◌*◌}
use Rattle.grid.proofs.Loop.{Rows}
use Rattle.lanes.proofs.pairs.Given as goal

abbrev pub invariant-loop-i : goal.invariant-loop-i
invariant-loop-i g l = Rows l.fn.dst l.size.w l.size.h (g.K.Kernel.sample l.k) (2 * l.i) l.dst
