-- The call promises just this.
use Rattle.inter_c.proofs.inter_avg_row_into.Goals as goal

pub returns : goal.returns
returns c = c.inter_avg_row_into.ensures
