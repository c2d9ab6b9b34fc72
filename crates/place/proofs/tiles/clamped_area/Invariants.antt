-- The first r rows are written.
use Rattle.std.proofs.Common.{◌+◌}
use Rattle.grid.proofs.Loop.{Rows}
use Rattle.place.specs.Near.{near_area}
use Rattle.place.proofs.tiles.clamped_area.Given as goal

abbrev pub invariant-loop-r : goal.invariant-loop-r
invariant-loop-r l =
    Rows l.fn.dst l.fn.size.w l.fn.size.h
    (λ i j. near_area l.fn.area.samples.now l.fn.area.at l.fn.area.stride l.fn.area.w l.fn.area.h l.base (l.x + i) (l.y + j)) l.r l.dst
