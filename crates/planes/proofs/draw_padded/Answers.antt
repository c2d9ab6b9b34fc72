-- The area pad up is the picture padded.
use Rattle.std.proofs.Common.{◌+◌, ◌*◌, ◌∙◌, arith}
use Rattle.grid.proofs.Fill.{drawn_ext}
use Rattle.grid.proofs.Loop.{last_row}
use Rattle.planes.proofs.Laws.{padded_is}
use Rattle.planes.proofs.draw_padded.Goals as goal

pub clamped_area-requires : goal.clamped_area-requires
clamped_area-requires c = let p = c.args.plane in omega (arith, last_row p.w p.h c.requires.2)

pub returns : goal.returns
returns c =
    let p = c.args.plane in
    c.clamped_area.ensures
    ∙ drawn_ext c.args.out.now (p.w + 2 * c.args.pad) (p.h + 2 * c.args.pad) _ _ (λ x y _ _. padded_is p.samples.now p.w p.h c.args.pad x y)
