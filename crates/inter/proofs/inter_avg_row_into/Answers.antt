-- `inter::inter_avg_row_into` promises what the library does; said here, so that a wrong call is refused where it meets that promise. Assumes nothing.
use Rattle.inter.proofs.inter_avg_row_into.Goals as goal

pub returns : goal.returns
returns c = rw c.number.ensures c.avg_row_into.ensures
