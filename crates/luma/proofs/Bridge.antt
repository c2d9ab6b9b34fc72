-- The samples nearest to the windows' places are the standard's. Assumes nothing.
use mathlib.Core.Path.{◌≡◌, sym}
use mathlib.Core.List.{List}
use Prim.Native.Nat.{ℕ, ◌+◌, ◌/◌, ◌^◌, ◌<◌}
use lib.IntN.{ℤ}
use lib.Signed.{mag}
use Rattle.signed.specs.Lift.{up}
use Rattle.grid.specs.Block.{drawn}
use Rattle.grid.proofs.Fill.{drawn_ext}
use Rattle.place.specs.Place.{phase}
use Rattle.place.proofs.Windows.{window_is}
use Rattle.samples.proofs.Reach.{luma_six}
use Rattle.route.specs.Area.{luma_near}
use Rattle.luma.specs.Luma.{predicted_luma}

pub near_predicted : (out pic : List ℕ) (w h x0 y0 bw bh : ℕ) (mvx mvy : ℤ) → mag mvx < 2 ^ 31 → mag mvy < 2 ^ 31
    → {x y fx fy : ℕ} → x ≡ x0 + up (2 ^ 31) mvx / 4 → y ≡ y0 + up (2 ^ 31) mvy / 4 → fx ≡ phase mvx 4 → fy ≡ phase mvy 4
    → drawn out bw bh (luma_near pic 0 w w h x y fx fy) ≡ drawn out bw bh (predicted_luma pic w h x0 y0 mvx mvy)
unfolding luma_near predicted_luma
near_predicted out pic w h x0 y0 bw bh mvx mvy p q ex ey efx efy =
    drawn_ext out bw bh _ _ (λ c r _ _. rw (ex, ey, efx, efy) (luma_six 255 _ _ (λ i j _ _. sym (window_is pic w h x0 y0 mvx mvy c r i j p q)) (phase mvx 4) (phase mvy 4)))
