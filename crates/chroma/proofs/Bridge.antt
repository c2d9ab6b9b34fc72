-- The samples nearest to the places of the block are the standard's. Assumes nothing.
use mathlib.Core.Path.{◌≡◌, sym}
use mathlib.Core.List.{List}
use Prim.Native.Nat.{ℕ, ◌+◌, ◌/◌, ◌^◌, ◌<◌}
use lib.IntN.{ℤ}
use lib.Signed.{mag}
use Rattle.signed.specs.Lift.{up}
use Rattle.grid.specs.Block.{drawn}
use Rattle.grid.proofs.Fill.{drawn_ext}
use Rattle.place.specs.Place.{phase}
use Rattle.place.proofs.Windows.{corner_is}
use Rattle.samples.proofs.Reach.{chroma_four}
use Rattle.route.specs.Area.{chroma_near}
use Rattle.chroma.specs.Chroma.{predicted_chroma}

pub near_predicted : (out pic : List ℕ) (w h x0 y0 bw bh : ℕ) (mvx mvy : ℤ) → mag mvx < 2 ^ 31 → mag mvy < 2 ^ 31
    → {x y fx fy : ℕ} → x ≡ x0 + up (2 ^ 31) mvx / 8 → y ≡ y0 + up (2 ^ 31) mvy / 8 → fx ≡ phase mvx 8 → fy ≡ phase mvy 8
    → drawn out bw bh (chroma_near pic 0 w w h x y fx fy) ≡ drawn out bw bh (predicted_chroma pic w h x0 y0 mvx mvy)
unfolding chroma_near predicted_chroma
near_predicted out pic w h x0 y0 bw bh mvx mvy p q ex ey efx efy =
    drawn_ext out bw bh _ _ (λ c r _ _. rw (ex, ey, efx, efy) (chroma_four (phase mvx 8) (phase mvy 8) _ _ (λ i j _ _. sym (corner_is pic w h x0 y0 mvx mvy c r i j p q))))
