-- What `build_hpel_planes` leaves is the standard's: at each place of f, h, v and c the full, across, down and centre sample of the picture itself, because clamping into the padded picture and then into the picture is clamping into the picture. Assumes nothing.
use mathlib.Core.Path.{◌≡◌, sym, ap, ap₂, ◌∙◌}
use mathlib.Core.List.{List}
use Prim.Native.Nat.{ℕ, ◌+◌, ◌*◌, ◌-◌, ◌≤◌, min}
use native.Mathlib.Omega.{arith}
use lib.IntN.{ℤ, pos, negsuc, ◌+ℤ◌, ◌-ℤ◌, +ℤ_assoc, +ℤ_comm, +ℤ-neg_ℤ_cancel}
use Rattle.signed.proofs.Linear.{diff, linear, diff_pos, diff_same}
use Rattle.grid.proofs.Fill.{block_at}
use Rattle.place.specs.Place.{clamp_z}
use Rattle.place.specs.Picture.{sample_at, window}
use Rattle.place.specs.Near.{near}
use Rattle.place.proofs.CoordLaws.{diff_negsuc, clamp_sub}
use Rattle.grid.specs.Block.{sample}
use Rattle.samples.specs.Tap.{half, centre}
use Rattle.samples.proofs.Word.{to_diff}
use Rattle.planes.specs.Planes.{wide, padded_at, across_at, down_at, centre_at, padded_plane}
use Rattle.planes.proofs.Laws.{clamped}

-- on one axis: a place of the padded picture, clamped, is the picture's own place, clamped
twice : (k last l pad : ℕ) → l ≡ last + 2 * pad → min (min k l - pad) last ≡ min (k - pad) last
twice k last l pad e = omega arith

clamp_twice : (z : ℤ) (n pad : ℕ) → 1 ≤ n → clamp_z (pos (clamp_z z (wide n pad)) -ℤ pos pad) n ≡ clamp_z (z -ℤ pos pad) n
clamp_twice (pos k) n pad h = at (min k (wide n pad - 1)) ∙ twice k (n - 1) (wide n pad - 1) pad (omega arith) ∙ sym (at k)
  where
    at : (x : ℕ) → clamp_z (pos x -ℤ pos pad) n ≡ near pad n x
    at x = ap (λ (u : ℤ). clamp_z u n) (to_diff x pad) ∙ clamp_sub x pad n
clamp_twice (negsuc k) n pad h =
    let d : negsuc k -ℤ pos pad ≡ diff 0 (1 + k + pad) = ap₂ ◌-ℤ◌ (diff_negsuc k) (diff_pos pad) ∙ simp linear (diff_same _ _ _ _ (omega arith)) in
    let e : near (1 + k + pad) n 0 ≡ near pad n 0 = omega arith in
    ap (λ (u : ℤ). clamp_z u n) (to_diff 0 pad) ∙ clamp_sub 0 pad n ∙ sym e ∙ sym (ap (λ (u : ℤ). clamp_z u n) d ∙ clamp_sub 0 (1 + k + pad) n)

pub swap : (a b c : ℤ) → a +ℤ b +ℤ c ≡ a +ℤ c +ℤ b
swap a b c = +ℤ_assoc a b c ∙ ap (λ (z : ℤ). a +ℤ z) (+ℤ_comm b c) ∙ sym (+ℤ_assoc a c b)

back : (z : ℤ) (i pad : ℕ) → z +ℤ pos i -ℤ pos 2 -ℤ pos pad ≡ z -ℤ pos pad +ℤ pos i -ℤ pos 2
back z i pad = swap (z +ℤ pos i) _ _ ∙ ap (λ (u : ℤ). u -ℤ pos 2) (swap z (pos i) _)

-- f, h, v and c of a picture, against the picture
module _ (pic : List ℕ) (w h pad : ℕ) (w1 : 1 ≤ w) (h1 : 1 ≤ h) where
  -- THE WINDOW: also far outside
  pub padded_window_lem : (x y : ℤ) (i j : ℕ)
      → window (padded_plane pic w h pad) (wide w pad) (wide h pad) x y i j ≡ window pic w h (x -ℤ pos pad) (y -ℤ pos pad) i j
  unfolding window sample_at sample padded_plane padded_at
  padded_window_lem x y i j =
      let u = x +ℤ pos i -ℤ pos 2 in
      let v = y +ℤ pos j -ℤ pos 2 in
      block_at (wide w pad) (wide h pad) (padded_at pic w h pad) (clamp_z u (wide w pad)) (clamp_z v (wide h pad)) (clamped u (wide w pad) (omega arith)) (clamped v (wide h pad) (omega arith))
      ∙ ap₂ (λ (a b : ℕ). sample pic w a b) (clamp_twice u w pad w1) (clamp_twice v h pad h1)
      ∙ ap₂ (sample_at pic w h) (back x i pad) (back y j pad)

  module _ (x y : ℕ) where
    abbrev at : ℕ → ℕ → ℕ
    at = window pic w h (pos x -ℤ pos pad) (pos y -ℤ pos pad)

    pub full_standard : padded_at pic w h pad x y ≡ at 2 2
    unfolding padded_at window
    full_standard = ap₂ (sample_at pic w h) (sym (+ℤ-neg_ℤ_cancel (pos x -ℤ pos pad) (pos 2))) (sym (+ℤ-neg_ℤ_cancel (pos y -ℤ pos pad) (pos 2)))

    pub across_standard : across_at (padded_plane pic w h pad) (wide w pad) (wide h pad) x y ≡ half 255 (λ k. at k 2)
    unfolding across_at
    across_standard = λ t. half 255 (λ k. padded_window_lem (pos x) (pos y) k 2 t)

    pub down_standard : down_at (padded_plane pic w h pad) (wide w pad) (wide h pad) x y ≡ half 255 (λ k. at 2 k)
    unfolding down_at
    down_standard = λ t. half 255 (λ k. padded_window_lem (pos x) (pos y) 2 k t)

    pub centre_standard : centre_at (padded_plane pic w h pad) (wide w pad) (wide h pad) x y ≡ centre 255 at
    unfolding centre_at
    centre_standard = λ t. centre 255 (λ i j. padded_window_lem (pos x) (pos y) i j t)
