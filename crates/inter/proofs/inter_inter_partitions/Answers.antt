-- `inter::inter_inter_partitions` promises what the library does; said here, so that a wrong call is refused where it meets that promise. Assumes nothing.
use Rattle.inter.proofs.inter_inter_partitions.Goals as goal

pub returns : goal.returns
returns c = c.inter_partitions.ensures
