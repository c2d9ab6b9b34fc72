-- `bilinear::by_groups`: the first ROWS * k rows are written. Assumes nothing.
use Rattle.std.proofs.Common.{◌*◌}
use Rattle.grid.proofs.Loop.{Rows}
use Rattle.samples.specs.Bilinear.{chroma_sample}
use Rattle.samples.specs.Kernel.{window_at}
use Rattle.bilinear.proofs.by_groups.Given as goal

abbrev pub invariant-loop-k : goal.invariant-loop-k
invariant-loop-k g l =
    Rows l.initial.dst l.size.w l.size.h (λ c r. chroma_sample l.f.x l.f.y (window_at l.v.samples.now l.v.at l.v.stride c r)) (g.row.ROWS * l.k) l.dst
