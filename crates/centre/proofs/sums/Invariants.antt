-- The loop of `centre::sums`: the first i sums are written. Assumes nothing.
use Rattle.grid.proofs.Loop.{Filled}
use Rattle.centre.proofs.Unrounded.{sums}
use Rattle.centre.proofs.sums.Given as goal

abbrev pub invariant-loop-i : goal.invariant-loop-i
invariant-loop-i l = Filled l.fn.w l.o l.n (sums l.t l.p l.ts) l.i l.w
