-- `centre::down_and_centre_row` meets its contract: a local row of sums, rounded and passed over, stored twice. Assumes nothing.
use mathlib.Core.Path.{◌∙◌}
use native.Mathlib.Omega.{arith}
use Rattle.grid.proofs.Fill.{put_ext}
use Rattle.centre.proofs.Unrounded.{sums_twice, mid_centre, round_half, sums_small, zeros}
use Rattle.centre.proofs.down_and_centre_row.Goals as goal

pub round_lanes-requires : goal.round_lanes-requires
round_lanes-requires c =
    sums_small _ _ _ c.sums.ensures.1 21 _ (sums_twice _ _ _ _ c.sums.ensures.0 c.sums-2.ensures.0) (zeros 21)

pub mid_lanes-requires : goal.mid_lanes-requires
mid_lanes-requires c =
    sums_small _ _ _ c.sums.ensures.1 21 _ (sums_twice _ _ _ _ c.sums.ensures.0 c.sums-2.ensures.0) (zeros 21)

pub returns : goal.returns
returns c =
    let w = sums_twice _ _ _ _ c.sums.ensures.0 c.sums-2.ensures.0 in (
      c.store_mostly.ensures
          ∙ put_ext _ _ _ _ _ (λ i h. c.round_lanes.ensures i (omega arith) ∙ round_half _ _ _ c.sums.ensures.1 21 _ w i (omega arith)),
      c.store_mostly-2.ensures
          ∙ put_ext _ _ _ _ _ (λ i h. c.mid_lanes.ensures i (omega arith) ∙ mid_centre _ _ _ c.sums.ensures.1 21 _ w i (omega arith)),
    )
