-- `margins::fill_sides` meets its contract: two runs, by `margin_row`. Assumes nothing.
use Rattle.std.proofs.Common.{refl, arith}
use Rattle.margins.proofs.Margin.{margin_row}
use Rattle.margins.proofs.fill_sides.Goals as goal

pub returns : goal.returns
returns c = margin_row _ _ _ _ _ _ _ _ _ (omega arith) (omega arith) (omega arith) c.fill_run.ensures c.fill_run-2.ensures refl refl
