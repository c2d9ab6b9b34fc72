-- The first 16 k samples of the row are written in each plane.
use Rattle.std.proofs.Common.{◌*◌}
use Rattle.grid.proofs.Loop.{Filled}
use Rattle.planes.specs.Planes.{across_at, down_at, centre_at}
use Rattle.planes.proofs.build_row.Given as goal

abbrev pub invariant-loop-k : goal.invariant-loop-k
invariant-loop-k l =
    Filled l.fn.h (l.y * l.f.w) l.f.w (λ x. across_at l.f.samples.now l.f.w l.f.h x l.y) (16 * l.k) l.h
    × Filled l.fn.v (l.y * l.f.w) l.f.w (λ x. down_at l.f.samples.now l.f.w l.f.h x l.y) (16 * l.k) l.v
    × Filled l.fn.c (l.y * l.f.w) l.f.w (λ x. centre_at l.f.samples.now l.f.w l.f.h x l.y) (16 * l.k) l.c
