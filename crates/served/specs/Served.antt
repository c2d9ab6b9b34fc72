-- Which blocks the half-sample planes serve, document 01, "Planes with margins": the refusals of the hpel calls, each part of 6 a test with its own name. Assumes nothing.
use Rattle.std.specs.Prelude.{ℕ, ◌+◌, ◌*◌, ◌%◌, Bool, not, ◌&&◌, ◌||◌, List, [], ◌∷◌, ◌++◌, ℤ, pos, ◌+ℤ◌, ◌==◌, int_lt}
use Rattle.place.specs.Place.{luma_place, phase}
use Rattle.place.specs.Refusal.{bad_sides, bad_pad, bad_block, bad_position, short, lowest}
use Rattle.planes.specs.Planes.{wide, needed}

-- of the phase: (0,0), and a quarter phase, which has an odd component
abbrev pub at_full : (fx fy : ℕ) → Bool
at_full fx fy = fx == 0 && fy == 0

abbrev pub at_quarter : (fx fy : ℕ) → Bool
at_quarter fx fy = fx % 2 == 1 || fy % 2 == 1

-- of the place, on one axis of a plane of n samples: before the first, and, with the spare one, beyond the last
unfoldable pub before : ℤ → Bool
before p = int_lt p (pos 0)

unfoldable pub beyond : (p : ℤ) (b n : ℕ) → Bool
beyond p b n = int_lt (pos n) (p +ℤ pos (b + 1))

-- of the width: none of 4, 8 and 16
abbrev pub bad_width : ℕ → Bool
bad_width bw = not (bw == 4 || bw == 8 || bw == 16)

-- 1 to 4: each of the four planes, read or not, has every sample
unfoldable pub lent_tests : (f h v c w ht pad x0 y0 bw bh : ℕ) → List (ℕ × Bool)
lent_tests f h v c w ht pad x0 y0 bw bh =
    (1, bad_sides w ht) ∷ (1, bad_pad pad) ∷ (2, short f (needed w ht pad)) ∷ (2, short h (needed w ht pad)) ∷ (2, short v (needed w ht pad))
    ∷ (2, short c (needed w ht pad)) ∷ (3, bad_block 16 bw bh) ∷ (4, bad_position x0 y0) ∷ []

-- 6: the phase is not served by this call; then left, above, right, below
unfoldable pub place_tests : (unserved : Bool) (pw ph bw bh : ℕ) (px py : ℤ) → List (ℕ × Bool)
place_tests unserved pw ph bw bh px py = (6, unserved) ∷ (6, before px) ∷ (6, before py) ∷ (6, beyond px bw pw) ∷ (6, beyond py bh ph) ∷ []

module _ (f h v c w ht pad x0 y0 bw bh : ℕ) (mvx mvy : ℤ) where
  abbrev at : Bool → List (ℕ × Bool)
  at unserved = place_tests unserved (wide w pad) (wide ht pad) bw bh (luma_place x0 mvx pad) (luma_place y0 mvy pad)

  abbrev quarter : Bool
  quarter = at_quarter (phase mvx 4) (phase mvy 4)

  unfoldable pub ref_refusal : ℕ
  ref_refusal = lowest (lent_tests f h v c w ht pad x0 y0 bw bh ++ at quarter)

  unfoldable pub qpel_refusal : ℕ
  qpel_refusal = lowest (lent_tests f h v c w ht pad x0 y0 bw bh ++ at (not quarter))

  unfoldable pub block_refusal : (out : ℕ) → ℕ
  block_refusal out =
      lowest
      (lent_tests f h v c w ht pad x0 y0 bw bh ++ ((5, short out (bw * bh)) ∷ []) ++ at (at_full (phase mvx 4) (phase mvy 4))
      ++ ((6, quarter && bad_width bw) ∷ []))
