-- The loop of `lanes::Each`'s pair: the lanes before c are made in both rows. Assumes nothing.
use Rattle.std.proofs.Common.{◌+◌}
use Rattle.grid.proofs.Group.{Lanes}
use Rattle.lanes.proofs.EachKernel.pair.Given as goal

abbrev pub invariant-loop-c : goal.invariant-loop-c
invariant-loop-c g l = Lanes 2 (λ c j. g.L.Lane.lane l.self.0 c (l.r + j)) l.c 0 l.z
