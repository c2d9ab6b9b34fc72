-- `margins::copy_rows` meets its contract: one more row, apart from the row that is copied. Assumes nothing.
use Rattle.std.proofs.Common.{refl, arith}
use Rattle.margins.proofs.Put.{rows_at_none, rows_at_more, rows_at_room, rows_at_apart, row_apart}
use Rattle.margins.proofs.copy_rows.Goals as goal

pub loop-r-init : goal.loop-r-init
loop-r-init c = rows_at_none _ _ _ _ _ (omega arith)

pub copy_apart-requires : goal.copy_apart-requires
copy_apart-requires c =
    let room = rows_at_room c.loop-r.invariant c.loop-r-test.true in
    (omega arith, omega arith, row_apart _ _ _ _ _ c.loop-r-test.true c.requires.2)

pub loop-r-preserved : goal.loop-r-preserved
loop-r-preserved c =
    let inv = c.loop-r.invariant in
    rows_at_more inv c.loop-r-test.true refl c.copy_apart.ensures (rows_at_apart inv _ c.requires.2)
