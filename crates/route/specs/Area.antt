-- Words of the workshop: a block predicted from an area to which every coordinate is clamped, and a window that lies inside it.
-- No public contract rests on them. Assumes nothing.
use Rattle.std.specs.Prelude.{List, ℕ, ◌+◌, ◌*◌, ◌-◌, ◌^◌, ◌≤◌, ◌≡◌}
use Rattle.place.specs.Near.{near_area}
use Rattle.samples.specs.Phase.{luma_sample}
use Rattle.samples.specs.Bilinear.{chroma_sample}

-- the sample in column c and row r of the block at (x, y), by the sample of a phase out of those around it, whose window's places are kept `base` up
abbrev pub near_by : (sample : ℕ → ℕ → (ℕ → ℕ → ℕ) → ℕ) (src : List ℕ) (p stride w h base x y fx fy c r : ℕ) → ℕ
near_by sample src p stride w h base x y fx fy c r = sample fx fy (λ i j. near_area src p stride w h base (x + c + i) (y + r + j))

-- the same of luma and of chroma, 2^29 up for luma and 2^28 up for chroma
unfoldable pub luma_near : (src : List ℕ) (p stride w h x y fx fy c r : ℕ) → ℕ
luma_near src p stride w h x y fx fy c r =
    luma_sample 255 fx fy (λ i j. near_area src p stride w h (2 ^ 29 + 2) (x + c + i) (y + r + j))

unfoldable pub chroma_near : (src : List ℕ) (p stride w h x y fx fy c r : ℕ) → ℕ
chroma_near src p stride w h x y fx fy c r =
    chroma_sample fx fy (λ i j. near_area src p stride w h (2 ^ 28) (x + c + i) (y + r + j))

-- ew by eh samples from the place (x, y) on lie inside the area, from the index `at` on, and `lanes` more bytes follow the start of their last row
pub record Lies (len p stride w h x y base ew eh lanes at : ℕ) : Type 0 where
  pub left : base ≤ x
  pub right : x - base + ew ≤ w
  pub above : base ≤ y
  pub below : y - base + eh ≤ h
  pub start : at ≡ p + (y - base) * stride + (x - base)
  pub room : at + (eh - 1) * stride + lanes ≤ len
