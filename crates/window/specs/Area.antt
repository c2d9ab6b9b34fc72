-- Words of the workshop: the area of a plane with margins that is read by the test's answer. No public contract rests on them. Assumes nothing.
use Rattle.std.specs.Prelude.{Bool, true, false, ◌&&◌, ℕ, ◌+◌, ◌*◌}
use Rattle.std.proofs.Math.IntN.{sub_ℕ}
use Rattle.window.specs.Padded.{in_reach}

-- the one test, of places that are kept `base` up
abbrev pub passes : (before behind base x y bw bh w h pad : ℕ) → Bool
passes before behind base x y bw bh w h pad = in_reach before behind (sub_ℕ x base) bw w pad && in_reach before behind (sub_ℕ y base) bh h pad

-- w by h samples from the index p of a buffer on, and a place in them
pub record Part : Type 0 where
  pub p : ℕ
  pub w : ℕ
  pub h : ℕ
  pub x : ℕ
  pub y : ℕ

abbrev pub part_of : (p w h x y : ℕ) → Part
part_of p w h x y = record { p = p; w = w; h = h; x = x; y = y }

-- the whole buffer, or the picture in it
abbrev pub area_of : Bool → (stride pad w h x y : ℕ) → Part
area_of true stride pad w h x y = part_of 0 (w + 2 * pad) (h + 2 * pad) (x + pad) (y + pad)
area_of false stride pad w h x y = part_of (pad * stride + pad) w h x y
