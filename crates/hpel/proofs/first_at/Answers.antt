-- A place that is not negative is its size.
use Rattle.std.proofs.Common.{arith}
use Rattle.hpel.proofs.Laws.{first_up}
use Rattle.hpel.proofs.first_at.Goals as goal

pub returns : goal.returns
returns c = let a = c.args in rw c.base-base.ensures (first_up a.a a.pw a.x a.y (omega arith) (omega arith))
