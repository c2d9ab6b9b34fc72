-- The first y rows of each plane are written.
use Rattle.grid.proofs.Loop.{Rows}
use Rattle.planes.specs.Planes.{across_at, down_at, centre_at}
use Rattle.planes.proofs.build_hpel_rows.Given as goal

abbrev pub invariant-loop-y : goal.invariant-loop-y
invariant-loop-y l =
    Rows l.fn.h l.f.w l.f.h (across_at l.f.samples.now l.f.w l.f.h) l.y l.h
    × Rows l.fn.v l.f.w l.f.h (down_at l.f.samples.now l.f.w l.f.h) l.y l.v
    × Rows l.fn.c l.f.w l.f.h (centre_at l.f.samples.now l.f.w l.f.h) l.y l.c
