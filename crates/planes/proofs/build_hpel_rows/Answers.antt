-- One more row of each plane is written at each turn.
use Rattle.std.proofs.Common.{refl, arith}
use Rattle.grid.proofs.Loop.{rows_none, rows_more, rows_done}
use Rattle.planes.proofs.build_hpel_rows.Goals as goal

pub loop-y-init : goal.loop-y-init
loop-y-init c = (rows_none _ _ _ _ (omega arith), rows_none _ _ _ _ (omega arith), rows_none _ _ _ _ (omega arith))

pub loop-y-preserved : goal.loop-y-preserved
loop-y-preserved c =
    let i = c.loop-y.invariant in
    let b = c.loop-y-test.true in
    let e = c.build_row.ensures in
    (rows_more i.0 b e.0 (λ x _. refl), rows_more i.1 b e.1 (λ x _. refl), rows_more i.2 b e.2 (λ x _. refl))

pub returns : goal.returns
returns c =
    let i = c.loop-y.invariant in
    (rows_done i.0 (omega arith), rows_done i.1 (omega arith), rows_done i.2 (omega arith))
