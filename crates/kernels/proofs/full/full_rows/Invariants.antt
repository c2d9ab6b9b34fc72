-- The loop of `kernels::full_rows`: the first r rows are written. Assumes nothing.
use Rattle.std.proofs.Common.{◌+◌, ◌*◌, ◌-◌, get_or}
use Rattle.grid.proofs.Loop.{Rows}
use Rattle.kernels.proofs.full.full_rows.Given as goal

abbrev pub invariant-loop-r : goal.invariant-loop-r
invariant-loop-r l =
    Rows l.fn.dst l.fn.size.w l.fn.size.h (λ c r. get_or l.fn.v.samples.now (l.fn.v.at + r * l.fn.v.stride + c) 0) l.r l.dst

abbrev pub decreases-loop-r : goal.decreases-loop-r
decreases-loop-r l = l.fn.size.h - l.r
