-- The component's reach.
use Rattle.std.proofs.Common.{arith}
use Rattle.route.proofs.locate_window.Goals as goal

pub locate-requires : goal.locate-requires
locate-requires g c = let near = g.met.C.Component.near in omega arith

pub returns : goal.returns
returns g c = rw (c.BEFORE.ensures, c.AROUND.ensures, c.LANES.ensures) at c.locate.ensures
