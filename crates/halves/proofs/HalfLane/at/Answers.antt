-- `halves::Half`'s lane meets its contract: the half sample that its view has in the column and row. Assumes nothing.
use Rattle.halves.proofs.HalfLane.at.Goals as goal

pub returns : goal.returns
returns c = c.tap6.ensures
