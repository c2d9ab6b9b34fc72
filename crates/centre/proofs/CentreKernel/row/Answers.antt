-- `centre::Centre`'s row: the second pass over a local row of sums. Assumes nothing.
use mathlib.Core.Path.{◌∙◌}
use native.Mathlib.Omega.{arith}
use Rattle.centre.proofs.Unrounded.{sums_twice, mid_centre, sums_small, zeros, centre_at}
use Rattle.centre.proofs.CentreKernel.row.Goals as goal

pub mid_lanes-requires : goal.mid_lanes-requires
mid_lanes-requires c =
    sums_small _ _ _ c.sums.ensures.1 21 _ (sums_twice _ _ _ _ c.sums.ensures.0 c.sums-2.ensures.0) (zeros 21)

pub returns : goal.returns
returns c i h =
    let v = c.args.self.now.view in
    c.mid_lanes.ensures i h
    ∙ mid_centre _ _ _ c.sums.ensures.1 21 _ (sums_twice _ _ _ _ c.sums.ensures.0 c.sums-2.ensures.0) i (omega arith)
    ∙ centre_at v.samples.now v.stride _ v.at i 0 c.args.r (omega arith)
