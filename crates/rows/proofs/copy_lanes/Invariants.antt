-- The loop of `rows::copy_lanes`: the first i bytes are written. Assumes nothing.
use Rattle.std.proofs.Common.{◌+◌, get_or}
use Rattle.grid.proofs.Loop.{Filled}
use Rattle.rows.proofs.copy_lanes.Given as goal

abbrev pub invariant-loop-i : goal.invariant-loop-i
invariant-loop-i g l = Filled l.fn.dst l.fn.o g.row.N (λ i. get_or l.src (l.fn.p + i) 0) l.i l.dst
