-- Half-sample planes, document 01, "Planes with margins": f is the picture padded; h, v and c hold b, h and j of f at each place, clamping at f's edges. Assumes nothing.
use Rattle.std.specs.Prelude.{List, [], ◌∷◌, ℕ, ◌+◌, ◌*◌, pos, ◌-ℤ◌}
use Rattle.grid.specs.Block.{block}
use Rattle.place.specs.Picture.{sample_at, window}
use Rattle.place.specs.Refusal.{bad_sides, bad_pad, short, lowest}
use Rattle.samples.specs.Tap.{half, centre}

-- a side of f, and the bytes of each plane
abbrev pub wide : (n pad : ℕ) → ℕ
wide n pad = n + 2 * pad

abbrev pub needed : (w h pad : ℕ) → ℕ
needed w h pad = wide w pad * wide h pad

-- the picture padded, in column x and row y
unfoldable pub padded_at : (pic : List ℕ) (w h pad x y : ℕ) → ℕ
padded_at pic w h pad x y = sample_at pic w h (pos x -ℤ pos pad) (pos y -ℤ pos pad)

-- b, h and j of a plane of pw by ph samples, in column x and row y
unfoldable pub across_at : (f : List ℕ) (pw ph x y : ℕ) → ℕ
across_at f pw ph x y = half 255 (λ k. window f pw ph (pos x) (pos y) k 2)

unfoldable pub down_at : (f : List ℕ) (pw ph x y : ℕ) → ℕ
down_at f pw ph x y = half 255 (λ k. window f pw ph (pos x) (pos y) 2 k)

unfoldable pub centre_at : (f : List ℕ) (pw ph x y : ℕ) → ℕ
centre_at f pw ph x y = centre 255 (window f pw ph (pos x) (pos y))

-- f of a picture
unfoldable pub padded_plane : (pic : List ℕ) (w h pad : ℕ) → List ℕ
padded_plane pic w h pad = block (wide w pad) (wide h pad) (padded_at pic w h pad)

unfoldable pub pad_refusal : (len w h pad out : ℕ) → ℕ
pad_refusal len w h pad out = lowest ((1, bad_sides w h) ∷ (1, bad_pad pad) ∷ (2, short len (w * h)) ∷ (5, short out (needed w h pad)) ∷ [])

unfoldable pub build_refusal : (len w h pad f across down centre : ℕ) → ℕ
build_refusal len w h pad f across down centre =
    lowest
    ((1, bad_sides w h) ∷ (1, bad_pad pad) ∷ (2, short len (w * h)) ∷ (5, short f (needed w h pad)) ∷ (5, short across (needed w h pad))
    ∷ (5, short down (needed w h pad)) ∷ (5, short centre (needed w h pad)) ∷ [])
