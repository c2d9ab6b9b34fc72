-- `average::mean_lanes`: the first i averages are written. Assumes nothing.
use Rattle.std.proofs.Common.{length, get_or}
use Rattle.grid.proofs.Loop.{Filled}
use Rattle.samples.specs.Tap.{mean}
use Rattle.average.proofs.mean_lanes.Given as goal

abbrev pub invariant-loop-i : goal.invariant-loop-i
invariant-loop-i l = Filled l.initial.z 0 (length l.initial.z) (λ i. mean (get_or l.a i 0) (get_or l.b i 0)) l.i l.z
