-- `rows::average_rows`: each turn writes one row. Assumes nothing.
use Rattle.std.proofs.Common.{refl, arith}
use Rattle.grid.proofs.Loop.{rows_none, rows_more, rows_done}
use Rattle.rows.proofs.average_rows.Goals as goal

pub loop-r-init : goal.loop-r-init
loop-r-init g c = rows_none _ _ _ _ (omega arith)

pub loop-r-preserved : goal.loop-r-preserved
loop-r-preserved g c = rows_more c.loop-r.invariant (omega arith) c.average_row.ensures (λ x h. refl)

pub returns : goal.returns
returns g c = rows_done c.loop-r.invariant (omega arith)
