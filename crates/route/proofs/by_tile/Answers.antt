-- The tile is small.
use Rattle.std.proofs.Common.{rules, arith}
use Rattle.route.proofs.by_tile.Goals as goal

pub whole_as_slice-tiled : goal.whole_as_slice-tiled
whole_as_slice-tiled g c = let near = g.met.C.Component.near in omega arith

pub tiled-requires : goal.tiled-requires
tiled-requires g c = (omega arith, (search rules, c.requires.0, omega arith))

pub returns : goal.returns
returns g c = c.tiled.ensures
