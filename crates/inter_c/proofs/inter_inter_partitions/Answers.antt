-- The call promises just this.
use Rattle.inter_c.proofs.inter_inter_partitions.Goals as goal

pub returns : goal.returns
returns c = c.inter_inter_partitions.ensures
