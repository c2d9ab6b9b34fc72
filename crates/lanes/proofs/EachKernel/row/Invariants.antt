-- The loop of `lanes::Each`'s row: the lanes before c are made. Assumes nothing.
use Rattle.std.proofs.Common.{◌≡◌, ℕ, ◌<◌, length, get_or}
use Rattle.lanes.proofs.EachKernel.row.Given as goal

abbrev pub invariant-loop-c : goal.invariant-loop-c
invariant-loop-c g l = (length l.z ≡ 16) × ((k : ℕ) → k < l.c → get_or l.z k 0 ≡ g.L.Lane.lane l.self.0 k l.r)
