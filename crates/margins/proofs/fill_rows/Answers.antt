-- `margins::fill_rows` meets its contract: one more row, of which nothing was written yet. Assumes nothing.
use Rattle.std.proofs.Common.{◌+◌, ◌*◌, get_or, refl, arith}
use Rattle.margins.specs.Margin.{from_col}
use Rattle.margins.proofs.Put.{rows_at_none, rows_at_more, rows_at_rest}
use Rattle.margins.proofs.fill_rows.Goals as goal

pub loop-y-init : goal.loop-y-init
loop-y-init c = rows_at_none _ _ _ _ _ (omega arith)

pub loop-y-preserved : goal.loop-y-preserved
loop-y-preserved c =
    let g = c.args.g in
    let inv = c.loop-y.invariant in
    rows_at_more {g = λ x. get_or c.loop-y.buf (c.args.o + c.loop-y.y * g.stride + from_col g.pad g.pw x) 0} inv c.loop-y-test.true refl c.fill_sides.ensures (λ x h. rows_at_rest inv _ (omega arith))
