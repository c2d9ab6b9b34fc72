-- The call promises just this.
use mathlib.Core.Path.{◌∙◌}
use mir.Syntax.{w32}
use mir.Facts.{to_z-of_z}
use Rattle.inter_c.proofs.inter_median3.Goals as goal

pub returns : goal.returns
returns c =
    to_z-of_z {w = w32} {z = c.inter_median3.result} (record { sfits = c.inter_median3.type_inv })
    ∙ (simp (to_z-of_z c.ranges.a, to_z-of_z c.ranges.b, to_z-of_z c.ranges.c) at c.inter_median3.ensures)
