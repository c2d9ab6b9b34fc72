-- `average::avg_once`: as many, or none. Assumes nothing.
use Rattle.std.proofs.Common.{◌-◌, ◌≡◌, sym, arith}
use Rattle.grid.proofs.Fill.{put_zero, put_long}
use Rattle.average.proofs.Runs.{means}
use Rattle.average.proofs.avg_once.Goals as goal

pub returns-then-dst-i : goal.returns-then-dst-i
returns-then-dst-i g c =
    let x = c.args in
    let none : x.i - x.i ≡ 0 = omega arith in
    (omega arith, omega arith, put_long x.dst.now x.i (means x.a.now x.b.now x.i) (sym (put_zero x.dst.now x.i (means x.a.now x.b.now x.i))) none)

pub returns : goal.returns
returns g c =
    let x = c.args in
    (omega arith, omega arith, put_long x.dst.now x.i (means x.a.now x.b.now x.i) c.avg_lanes.ensures (omega arith))
