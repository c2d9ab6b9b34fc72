-- `centre::Centre`'s pair: the second pass over two local rows of sums. Assumes nothing.
use mathlib.Core.Path.{◌∙◌}
use Prim.Native.Nat.{◌+◌}
use native.Mathlib.Omega.{arith}
use Rattle.samples.specs.Tap.{centre}
use Rattle.samples.specs.Kernel.{window_at}
use Rattle.centre.proofs.Unrounded.{mid_centre, sums_small, zeros, two_rows, centre_at}
use Rattle.centre.proofs.CentreKernel.pair.Goals as goal

pub mid_pair_lanes-requires : goal.mid_pair_lanes-requires
mid_pair_lanes-requires c =
    (sums_small _ _ _ c.sums.ensures.1 16 _ c.sums.ensures.0 (zeros 21), sums_small _ _ _ c.sums-2.ensures.1 16 _ c.sums-2.ensures.0 (zeros 21))

pub returns : goal.returns
returns c =
    let v = c.args.self.now.view in
    let t = v.samples.now in
    two_rows _ (λ i j. centre 255 (window_at t v.at v.stride i (c.args.r + j)))
    (λ i h. c.mid_pair_lanes.ensures.0 i h ∙ mid_centre _ _ _ c.sums.ensures.1 16 _ c.sums.ensures.0 i (omega arith)
    ∙ centre_at t v.stride _ v.at i 0 (c.args.r + 0) (omega arith))
    (λ i h. c.mid_pair_lanes.ensures.1 i h ∙ mid_centre _ _ _ c.sums-2.ensures.1 16 _ c.sums-2.ensures.0 i (omega arith)
    ∙ centre_at t v.stride _ v.at i 0 (c.args.r + 1) (omega arith))
