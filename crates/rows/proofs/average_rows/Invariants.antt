-- `rows::average_rows`: the first r rows are written. Assumes nothing.
use Rattle.std.proofs.Common.{◌*◌, ◌+◌, get_or}
use Rattle.grid.proofs.Loop.{Rows}
use Rattle.samples.specs.Tap.{mean}
use Rattle.rows.proofs.average_rows.Given as goal

abbrev pub invariant-loop-r : goal.invariant-loop-r
invariant-loop-r g l = Rows l.initial.dst g.row.N l.h (λ x y. mean (get_or l.a (y * l.stride + x) 0) (get_or l.b (y * l.stride + x) 0)) l.r l.dst
