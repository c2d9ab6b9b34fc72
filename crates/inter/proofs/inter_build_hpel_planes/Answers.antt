-- `inter::inter_build_hpel_planes` promises what the library does; said here, so that a wrong call is refused where it meets that promise. Assumes nothing.
use Rattle.inter.proofs.inter_build_hpel_planes.Goals as goal

pub returns : goal.returns
returns c = rw c.number.ensures c.build_hpel_planes.ensures
