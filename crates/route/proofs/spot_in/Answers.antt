-- What the tests leave.
use Rattle.std.proofs.Common.{arith}
use Rattle.route.proofs.Inside.{lies}
use Rattle.route.proofs.spot_in.Goals as goal

pub returns : goal.returns
returns g c =
    lies c.in_ok-x.x c.in_ok-y.y (omega (arith, c.in_ok-x.ensures, c.base.ensures)) (omega (arith, c.in_ok-y.ensures, c.base.ensures)) (omega arith) (omega arith) (omega arith)
    c.args.area.inside
