-- The loop of `centre::round_lanes`: the lanes before i are made. Assumes nothing.
use Rattle.std.proofs.Common.{◌≡◌, ℕ, ◌+◌, ◌-◌, ◌/◌, ◌<◌, min, length, get_or}
use Rattle.samples.specs.Kernel.{mid_at}
use Rattle.centre.proofs.round_lanes.Given as goal

abbrev pub invariant-loop-i : goal.invariant-loop-i
invariant-loop-i l = (length l.z ≡ 16) × ((k : ℕ) → k < l.i → get_or l.z k 0 ≡ min 255 ((get_or l.w (k + 2) 0 + 16 - 2550) / 32))
