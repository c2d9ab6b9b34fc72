-- The loop's invariant: the first y rows are written, from what was there at the start.
use Rattle.std.proofs.Common.{◌+◌, ◌*◌, get_or}
use Rattle.margins.specs.Margin.{from_col}
use Rattle.margins.proofs.Put.{RowsAt}
use Rattle.margins.proofs.fill_rows.Given as goal

abbrev pub invariant-loop-y : goal.invariant-loop-y
invariant-loop-y l = RowsAt l.fn.buf l.o l.g.stride l.g.ph (λ x y. get_or l.fn.buf (l.o + y * l.g.stride + from_col l.g.pad l.g.pw x) 0) l.y l.buf
