-- The least and the greatest of the three are the definition's, and what wraps comes back.
-- Assumes nothing.
use Rattle.std.proofs.Common.{w32, SFits, to_z-of_z}
use Rattle.vectors.proofs.Wraps.{median_wraps}
use Rattle.vectors.proofs.median3.Goals as goal

pub returns : goal.returns
returns c =
    let fa = c.ranges.a in
    let fb = c.ranges.b in
    let fc = c.ranges.c in
    let fm : SFits w32 c.min.result = record { sfits = c.min.type_inv } in
    let fk : SFits w32 c.max.result = record { sfits = c.max.type_inv } in
    let fl : SFits w32 c.min-lo.result = record { sfits = c.min-lo.type_inv } in
    let fh : SFits w32 c.max-hi.result = record { sfits = c.max-hi.type_inv } in
    median_wraps _ _ _ _ _ _ _ fa fb fc fl fh (simp to_z-of_z at c.min.ensures.value) (simp to_z-of_z at c.min-lo.ensures.value) (simp to_z-of_z at c.max.ensures.value) (simp to_z-of_z at c.max-hi.ensures.value)
