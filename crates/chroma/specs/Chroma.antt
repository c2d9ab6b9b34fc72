-- Chroma prediction from a plain picture of w by h samples, clause 8.4.2.2.2. Assumes nothing.
use Rattle.std.specs.Prelude.{List, ℕ, ℤ}
use Rattle.samples.specs.Bilinear.{chroma_sample}
use Rattle.place.specs.Place.{chroma_place, phase}
use Rattle.place.specs.Picture.{corner}

-- the sample in column c and row r of the block at (x0, y0), moved by the vector
unfoldable pub predicted_chroma : (pic : List ℕ) (w h x0 y0 : ℕ) (mvx mvy : ℤ) (c r : ℕ) → ℕ
predicted_chroma pic w h x0 y0 mvx mvy c r =
    chroma_sample (phase mvx 8) (phase mvy 8) (corner pic w h (chroma_place x0 mvx c) (chroma_place y0 mvy r))
