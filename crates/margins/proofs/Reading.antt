-- What a buffer with filled margins reads as: the picture, each coordinate clamped. And what filling them keeps. Assumes nothing.
use mathlib.Core.Path.{◌≡◌, sym, ap, ap₂, ◌∙◌}
use mathlib.Core.List.{List}
use mathlib.Core.Logic.{◌⊎◌, ⊎_elim}
use Prim.Native.Nat.{ℕ, ◌+◌, ◌*◌, ◌≤◌, ◌<◌}
use native.Mathlib.Omega.{arith}
use lib.IntN.{pos, ◌-ℤ◌}
use Rattle.signed.proofs.Linear.{diff, linear, diff_pos, diff_same}
use Rattle.grid.specs.Block.{sample}
use Rattle.grid.proofs.Fill.{drawn_sample}
use Rattle.place.specs.Place.{clamp_z}
use Rattle.place.specs.Near.{near}
use Rattle.place.proofs.CoordLaws.{clamp_sub}
use Rattle.margins.specs.Margin.{from_col, from_row, expanded, interior}
use Rattle.margins.proofs.Margin.{col_in, col_gap}

-- the place of a buffer's column or row in the picture, clamped
pub clamp_place : (x pad n : ℕ) → clamp_z (pos x -ℤ pos pad) n ≡ near pad n x
clamp_place x pad n =
    let e : pos x -ℤ pos pad ≡ diff x pad = ap₂ ◌-ℤ◌ (diff_pos x) (diff_pos pad) ∙ simp linear (diff_same _ _ _ _ (omega arith)) in
    rw e (clamp_sub x pad n)

module _ (buf : List ℕ) (stride pad w h : ℕ) where
  -- READING: within picture plus margin, the filled buffer is the picture with each coordinate clamped
  pub reads_clamped : w + 2 * pad ≤ stride → (x y : ℕ) → x < w + 2 * pad → y < h + 2 * pad
      → sample (expanded buf stride pad w h) stride x y ≡ interior buf stride pad (clamp_z (pos x -ℤ pos pad) w) (clamp_z (pos y -ℤ pos pad) h)
  unfolding expanded interior
  reads_clamped wide x y a b =
      drawn_sample buf stride (h + 2 * pad) _ x y (omega arith) b
      ∙ ap₂ (λ (i j : ℕ). sample buf stride i (pad + j)) (col_in pad w x a ∙ ap (λ (i : ℕ). pad + i) (sym (clamp_place x pad w))) (sym (clamp_place y pad h))

  -- KEPT: in a picture row the picture and the gap are as they were
  pub keeps : (x y : ℕ) → x < stride → pad ≤ y → y < pad + h → ((pad ≤ x) × (x < pad + w)) ⊎ (w + 2 * pad ≤ x)
      → sample (expanded buf stride pad w h) stride x y ≡ sample buf stride x y
  unfolding expanded
  keeps x y a b c here =
      let r : from_row pad h y ≡ y = omega arith in
      let q : from_col pad w x ≡ x = ⊎_elim (λ p. col_in pad w x (omega arith) ∙ omega arith) (λ p. col_gap pad w x p) here in
      drawn_sample buf stride (h + 2 * pad) _ x y a (omega arith) ∙ ap₂ (sample buf stride) q r
