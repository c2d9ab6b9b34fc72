-- The call promises just this.
use mir.Facts.{to_z-of_z}
use Rattle.inter_c.proofs.inter_predict_mv.Goals as goal

pub returns : goal.returns
returns c = simp (to_z-of_z c.ranges.cur_ref) at c.inter_predict_mv.ensures
