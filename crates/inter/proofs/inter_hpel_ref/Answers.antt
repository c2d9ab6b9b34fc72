-- `inter::inter_hpel_ref` promises what the library does, of the answer as C has it; said here, so that a wrong call is refused where it meets that promise. Assumes nothing.
use Rattle.std.proofs.Common.{◌∙◌}
use mir.Facts.{to_z-of_z}
use Rattle.inter.proofs.inter_hpel_ref.Goals as goal

pub returns : goal.returns
returns c = c.from.ensures ∙ (simp (to_z-of_z c.ranges.mvx, to_z-of_z c.ranges.mvy) at c.hpel_ref_at.ensures)
