-- The loop's invariant: the first r rows are written, from what was there at the start.
use Rattle.std.proofs.Common.{◌+◌, get_or}
use Rattle.margins.proofs.Put.{RowsAt}
use Rattle.margins.proofs.copy_rows.Given as goal

abbrev pub invariant-loop-r : goal.invariant-loop-r
invariant-loop-r l = RowsAt l.fn.buf l.to l.stride l.n (λ x y. get_or l.fn.buf (l.from + x) 0) l.r l.buf
