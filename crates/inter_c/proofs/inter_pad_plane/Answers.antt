-- The call promises just this.
use Rattle.inter_c.proofs.inter_pad_plane.Goals as goal

pub returns : goal.returns
returns c = c.inter_pad_plane.ensures
