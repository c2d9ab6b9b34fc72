-- The call promises just this.
use mir.Facts.{to_z-of_z}
use Rattle.inter_c.proofs.inter_mc_luma_padded.Goals as goal

pub returns : goal.returns
returns c = simp (to_z-of_z c.ranges.mvx, to_z-of_z c.ranges.mvy) at c.inter_mc_luma_padded.ensures
