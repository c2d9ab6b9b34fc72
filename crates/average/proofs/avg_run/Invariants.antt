-- `average::avg_run`: the first 128 * k averages are written. Assumes nothing.
use Rattle.std.proofs.Common.{◌*◌, length, get_or}
use Rattle.grid.proofs.Loop.{Filled}
use Rattle.samples.specs.Tap.{mean}
use Rattle.average.proofs.avg_run.Given as goal

abbrev pub invariant-loop-k : goal.invariant-loop-k
invariant-loop-k l = Filled l.initial.dst 0 (length l.initial.dst) (λ i. mean (get_or l.a i 0) (get_or l.b i 0)) (128 * l.k) l.dst
