-- `kernels::full_rows` meets its contract: two rows a turn, and the last one of an odd height. Assumes nothing.
use mathlib.Core.Path.{refl}
use native.Mathlib.Omega.{arith}
use Rattle.grid.proofs.Loop.{rows_none, rows_more, rows_done}
use Rattle.grid.proofs.Group.{group_in}
use Rattle.kernels.proofs.Turns.{two_more}
use Rattle.kernels.proofs.full.full_rows.Goals as goal

pub loop-r-init : goal.loop-r-init
loop-r-init c = rows_none _ _ _ _ (omega arith)

pub full_row-requires-in-loop-r : goal.full_row-requires-in-loop-r
full_row-requires-in-loop-r c = omega (arith, group_in 2 c.args.v.stride c.loop-r.invariant c.loop-r-test.true (omega arith))

pub loop-r-preserved : goal.loop-r-preserved
loop-r-preserved c =
    let v = c.args.v in
    two_more c.args.dst.now v.samples.now v.at v.stride c.loop-r.invariant (omega arith) c.full_row.ensures c.full_row-in-loop-r.ensures (omega arith)

pub returns-then-r-h : goal.returns-then-r-h
returns-then-r-h c = rows_done (rows_more c.loop-r.invariant (omega arith) c.full_row-then-r-h.ensures (λ i h. refl)) (omega arith)

pub returns-else-r-h : goal.returns-else-r-h
returns-else-r-h c = rows_done c.loop-r.invariant (omega arith)
