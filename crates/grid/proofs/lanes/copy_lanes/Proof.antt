-- `grid::lanes::copy_lanes` meets its contract. The loop's invariant: the first i bytes are written. Assumes nothing.
use mathlib.Core.Path.{refl}
use Prim.Native.Nat.{◌+◌, ◌-◌}
use native.Mathlib.Omega.{arith}
use lib.ListN.{get_or}
use Rattle.grid.proofs.Loop.{Filled, filled_none, filled_more, filled_done}
use Rattle.grid.proofs.lanes.copy_lanes.Statement.{statement}
use Rattle.grid.proofs.lanes.copy_lanes.Tie as tie

abbrev invariant-loop : tie.invariant-loop-i
invariant-loop src p n dst₀ o i₀ dst i = Filled dst₀ o n (λ i. get_or src (p + i) 0) i dst

abbrev decreases-loop : tie.decreases-loop-i
decreases-loop src p n dst₀ o i₀ dst i = n - i

pub copy_lanes_spec : {M : Type 1} → statement M
copy_lanes_spec =
    tie.close
    (tie.spec
    invariant-loop
    decreases-loop
    (λ c. filled_none _ _ _ _ (omega arith))
    (λ c. omega arith)
    (λ c. omega arith)
    (λ c. omega arith)
    (λ c. omega arith)
    (λ c. omega arith)
    (λ c. omega arith)
    (λ c. filled_more c.before.before.loop-i.invariant (omega arith) refl refl)
    (λ c. omega arith)
    (λ c. filled_done c.before.loop-i.invariant (omega arith)))
