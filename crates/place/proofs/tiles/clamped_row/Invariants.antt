-- The first i samples are written.
use Rattle.std.proofs.Common.{◌+◌, length, slice_index}
use Rattle.grid.proofs.Loop.{Filled}
use Rattle.place.specs.Near.{near}
use Rattle.place.proofs.tiles.clamped_row.Given as goal

abbrev pub invariant-loop-i : goal.invariant-loop-i
invariant-loop-i l = Filled l.fn.dst l.o l.n (λ i. slice_index l.row (near l.base (length l.row) (l.x + i))) l.i l.dst
