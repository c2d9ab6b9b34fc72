-- The call over the parts promises just this; said here, so that a clause that says something else is refused where it differs.
use Rattle.bundle.proofs.hpel_qpel_refs_at.Goals as goal

pub returns : goal.returns
returns c = c.hpel_qpel_refs_at.ensures
