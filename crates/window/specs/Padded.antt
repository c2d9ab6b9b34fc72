-- Prediction from a plane with margins, document 01, "Planes with margins": the rule by which the lent buffer is read, whatever it holds. Assumes nothing.
use Rattle.std.specs.Prelude.{Bool, cond, ◌&&◌, List, [], ◌∷◌, ◌++◌, ℕ, ◌+◌, ℤ, pos, negsuc, ◌+ℤ◌, ◌-ℤ◌}
use Rattle.std.specs.Int.Signed.{le_z}
use Rattle.grid.specs.Block.{sample}
use Rattle.place.specs.Place.{clamp_z, luma_place, chroma_place, phase}
use Rattle.place.specs.Refusal.{short, lowest, padded_tests, block_tests}
use Rattle.samples.specs.Phase.{luma_sample}
use Rattle.samples.specs.Bilinear.{chroma_sample}
use Rattle.margins.specs.Margin.{interior}

-- on one axis: b samples from the place p on, with `before` samples before and `behind` after, lie inside n samples and their margins
unfoldable pub in_reach : (before behind : ℕ) (p : ℤ) (b n pad : ℕ) → Bool
in_reach before behind p b n pad = le_z (pos before) (p +ℤ pos pad) && le_z (p +ℤ pos (b + behind)) (pos (n + pad))

-- one test for the block: two before and three after for luma, one after for chroma
unfoldable pub luma_direct : (w h pad x0 y0 bw bh : ℕ) (mvx mvy : ℤ) → Bool
luma_direct w h pad x0 y0 bw bh mvx mvy = in_reach 2 3 (luma_place x0 mvx 0) bw w pad && in_reach 2 3 (luma_place y0 mvy 0) bh h pad

unfoldable pub chroma_direct : (w h pad x0 y0 bw bh : ℕ) (mvx mvy : ℤ) → Bool
chroma_direct w h pad x0 y0 bw bh mvx mvy = in_reach 0 1 (chroma_place x0 mvx 0) bw w pad && in_reach 0 1 (chroma_place y0 mvy 0) bh h pad

-- the buffer's column or row of a place that is not before it
abbrev pub column : ℤ → ℕ
column (pos n) = n
column (negsuc n) = 0

-- the sample at the picture's place (x, y): the buffer itself where the test passed, else the picture's interior, clamped
unfoldable pub read_at : Bool → (buf : List ℕ) (stride pad w h : ℕ) (x y : ℤ) → ℕ
read_at direct buf stride pad w h x y =
    cond direct (sample buf stride (column (x +ℤ pos pad)) (column (y +ℤ pos pad))) (interior buf stride pad (clamp_z x w) (clamp_z y h))

unfoldable pub padded_luma : (buf : List ℕ) (stride pad w h x0 y0 bw bh : ℕ) (mvx mvy : ℤ) (c r : ℕ) → ℕ
padded_luma buf stride pad w h x0 y0 bw bh mvx mvy c r =
    luma_sample 255 (phase mvx 4) (phase mvy 4) (λ i j.
    read_at (luma_direct w h pad x0 y0 bw bh mvx mvy) buf stride pad w h (luma_place x0 mvx c +ℤ pos i -ℤ pos 2) (luma_place y0 mvy r +ℤ pos j -ℤ pos 2))

unfoldable pub padded_chroma : (buf : List ℕ) (stride pad w h x0 y0 bw bh : ℕ) (mvx mvy : ℤ) (c r : ℕ) → ℕ
padded_chroma buf stride pad w h x0 y0 bw bh mvx mvy c r =
    chroma_sample (phase mvx 8) (phase mvy 8) (λ i j.
    read_at (chroma_direct w h pad x0 y0 bw bh mvx mvy) buf stride pad w h (chroma_place x0 mvx c +ℤ pos i) (chroma_place y0 mvy r +ℤ pos j))

-- with lent scratch: 5 also where the tile is shorter than 441 or an anchor than 256
unfoldable pub slices_refusal : (tile a b len w h pad stride x0 y0 bw bh out : ℕ) → ℕ
slices_refusal tile a b len w h pad stride x0 y0 bw bh out =
    lowest ((padded_tests len w h pad stride ++ block_tests 16 x0 y0 bw bh out) ++ ((5, short tile 441) ∷ (5, short a 256) ∷ (5, short b 256) ∷ []))
