-- The kernels read the tile, which reads as the windows.
use Rattle.std.proofs.Common.{◌∙◌, arith}
use Rattle.route.proofs.Inside as inside
use Rattle.route.proofs.tiled.Goals as goal

pub tile_into-requires : goal.tile_into-requires
tile_into-requires g c =
    let m = c.args.aim in
    let near = g.met.C.Component.near in
    let fits = g.met.C.Component.fits m.w m.h m.high m.steps_across m.steps_down in
    rw (c.BEFORE.ensures, c.AROUND.ensures) (omega (arith, near, fits))

pub block-requires : goal.block-requires
block-requires g c =
    let m = c.args.aim in
    let fits = g.met.C.Component.fits m.w m.h m.high m.steps_across m.steps_down in
    rw c.AROUND-2.ensures (omega arith, (c.requires.1, omega (arith, fits), omega arith))

pub returns : goal.returns
returns g c =
    let a = c.args.area in
    let m = c.args.aim in
    (rw c.AROUND-2.ensures at c.block.ensures)
    ∙ inside.tiled _ c.args.out.now a.samples.now a.at a.stride a.w a.h _ m.x m.y m.fx m.fy m.w m.h _ g.met.C.Component.reads _
    (rw (c.BEFORE.ensures, c.AROUND.ensures) at c.tile_into.ensures)
