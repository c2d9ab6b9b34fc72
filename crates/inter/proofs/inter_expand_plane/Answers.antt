-- `inter::inter_expand_plane` promises what the library does; said here, so that a wrong call is refused where it meets that promise. Assumes nothing.
use Rattle.inter.proofs.inter_expand_plane.Goals as goal

pub returns : goal.returns
returns c = rw c.number.ensures c.expand_plane.ensures
