-- The loop of `centre::mid_pair_lanes`: the lanes before i are made in both rows. Assumes nothing.
use Rattle.std.proofs.Common.{◌≡◌, ℕ, ◌+◌, ◌<◌, length, get_or}
use Rattle.samples.specs.Kernel.{mid_at}
use Rattle.centre.proofs.mid_pair_lanes.Given as goal

abbrev pub invariant-loop-i : goal.invariant-loop-i
invariant-loop-i l =
    (length l.z ≡ 16) × ((k : ℕ) → k < l.i → get_or l.z k 0 ≡ mid_at l.v k) × ((k : ℕ) → k < l.i → get_or l.z (8 + k) 0 ≡ mid_at l.w k)
