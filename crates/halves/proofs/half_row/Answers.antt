-- `halves::half_row` meets its contract: the lanes of one row, stored. Assumes nothing.
use mathlib.Core.Path.{◌∙◌}
use native.Mathlib.Omega.{arith}
use Rattle.grid.proofs.Fill.{put_ext}
use Rattle.halves.proofs.Places.{half_at}
use Rattle.halves.proofs.half_row.Goals as goal

pub returns : goal.returns
returns c = c.store.ensures ∙ put_ext _ _ _ _ _ (λ i b. c.row-row.ensures i (omega arith) ∙ half_at _ _ (omega arith))
