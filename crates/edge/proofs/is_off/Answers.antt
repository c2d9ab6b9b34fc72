-- The law of the test, 2^29 up.
use Rattle.std.proofs.Common.{◌^◌, sym}
use Rattle.edge.proofs.Count.{off_is}
use Rattle.edge.proofs.is_off.Goals as goal

pub returns : goal.returns
returns c = rw c.base-base.ensures (sym (off_is c.args.at (2 ^ 29) c.args.n))
