-- Any other phase is not served.
use Rattle.std.proofs.Common.{not, ap}
use Rattle.served.specs.Served.{qpel_refusal}
use Rattle.served.proofs.Laws.{same_lookup}
use Rattle.served.proofs.check_qpel.Goals as goal

pub returns : goal.returns
unfolding qpel_refusal
returns c = same_lookup _ _ _ _ _ _ _ c.check_lookup.ensures (ap not c.quarter.ensures)
