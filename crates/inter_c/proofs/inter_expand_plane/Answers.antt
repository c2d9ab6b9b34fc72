-- The call promises just this.
use Rattle.inter_c.proofs.inter_expand_plane.Goals as goal

pub returns : goal.returns
returns c = c.inter_expand_plane.ensures
