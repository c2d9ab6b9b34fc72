-- `inter::inter_median3` promises what the library does; said here, so that a wrong call is refused where it meets that promise. Assumes nothing.
use Rattle.std.proofs.Common.{◌∙◌}
use mir.Syntax.{w32}
use mir.Facts.{to_z-of_z}
use Rattle.inter.proofs.inter_median3.Goals as goal

pub returns : goal.returns
returns c =
    to_z-of_z {w = w32} {z = c.median3.result} (record { sfits = c.median3.type_inv })
    ∙ (simp (to_z-of_z c.ranges.a, to_z-of_z c.ranges.b, to_z-of_z c.ranges.c) at c.median3.ensures)
