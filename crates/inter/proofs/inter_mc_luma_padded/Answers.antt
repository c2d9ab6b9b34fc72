-- `inter::inter_mc_luma_padded` promises what the library does, of the refusal's number; said here, so that a wrong call is refused where it meets that promise. Assumes nothing.
use mir.Facts.{to_z-of_z}
use Rattle.inter.proofs.inter_mc_luma_padded.Goals as goal

pub returns : goal.returns
returns c = rw c.number.ensures (simp (to_z-of_z c.ranges.mvx, to_z-of_z c.ranges.mvy) at c.mc_luma_padded.ensures)
