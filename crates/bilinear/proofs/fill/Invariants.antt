-- `bilinear::fill`: the columns before i are filled, and of column i the first j rows. Assumes nothing.
use Rattle.std.proofs.Common.{◌<◌}
use Rattle.grid.proofs.Group.{Lanes}
use Rattle.samples.specs.Bilinear.{chroma_sample}
use Rattle.samples.specs.Kernel.{window_at}
use Rattle.bilinear.proofs.fill.Given as goal

abbrev pub invariant-loop-j : goal.invariant-loop-j
invariant-loop-j g l = Lanes g.row.ROWS (λ i j. chroma_sample l.f.x l.f.y (window_at l.v.samples.now l.v.at l.v.stride i j)) l.i l.j l.z × (l.i < 8)

abbrev pub invariant-loop-i : goal.invariant-loop-i
invariant-loop-i g l = Lanes g.row.ROWS (λ i j. chroma_sample l.f.x l.f.y (window_at l.v.samples.now l.v.at l.v.stride i j)) l.i 0 l.z
