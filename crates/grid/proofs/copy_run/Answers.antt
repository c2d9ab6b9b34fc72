-- `grid::copy_run` meets its contract: the part of one slice is put in the place of the part of the other. Assumes nothing.
use Rattle.grid.proofs.Fill.{part_put}
use Rattle.grid.proofs.copy_run.Goals as goal

pub returns : goal.returns
returns c = part_put _ _ _ _ _ c.copy_from_slice.ensures.after c.requires.0
