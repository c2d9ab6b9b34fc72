-- Luma prediction from a plain picture of w by h samples, clause 8.4.2.2. Assumes nothing.
use Rattle.std.specs.Prelude.{List, ℕ, ℤ}
use Rattle.samples.specs.Phase.{luma_sample}
use Rattle.place.specs.Place.{luma_place, phase}
use Rattle.place.specs.Picture.{window}

-- the sample in column c and row r of the block at (x0, y0), moved by the vector
unfoldable pub predicted_luma : (pic : List ℕ) (w h x0 y0 : ℕ) (mvx mvy : ℤ) (c r : ℕ) → ℕ
predicted_luma pic w h x0 y0 mvx mvy c r =
    luma_sample 255 (phase mvx 4) (phase mvy 4) (window pic w h (luma_place x0 mvx c) (luma_place y0 mvy r))
