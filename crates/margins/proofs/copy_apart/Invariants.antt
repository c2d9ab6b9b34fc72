-- The loop's invariant: the first i bytes are written, from what was there at the start.
use Rattle.std.proofs.Common.{◌+◌, get_or}
use Rattle.grid.proofs.Loop.{Filled}
use Rattle.margins.proofs.copy_apart.Given as goal

abbrev pub invariant-loop-i : goal.invariant-loop-i
invariant-loop-i l = Filled l.fn.buf l.to l.n (λ i. get_or l.fn.buf (l.from + i) 0) l.i l.buf
