-- The call promises just this.
use Rattle.inter_c.proofs.inter_build_hpel_planes.Goals as goal

pub returns : goal.returns
returns c = c.inter_build_hpel_planes.ensures
