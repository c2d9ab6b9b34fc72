-- After `expand_plane` both readings are the standard's: the picture with each coordinate clamped, whatever the margins held before. Assumes nothing.
use mathlib.Core.Path.{◌≡◌, refl, sym, ap, ap₂, ◌∙◌}
use mathlib.Core.Bool.{Bool, true, false}
use mathlib.Core.List.{List}
use mathlib.Core.Logic.{inl}
use Prim.Native.Nat.{ℕ, suc, ◌+◌, ◌*◌, ◌-◌, ◌≤◌, ◌<◌}
use native.Mathlib.Nat.{add-zero}
use native.Mathlib.Omega.{arith}
use lib.IntN.{ℤ, pos, negsuc, ◌+ℤ◌, ◌-ℤ◌}
use lib.Signed.{mag}
use Rattle.signed.specs.Lift.{up}
use Rattle.signed.proofs.Diff.{biased}
use Rattle.signed.proofs.Linear.{diff}
use Rattle.place.specs.Place.{floor_z, clamp_z, luma_place, chroma_place, phase}
use Rattle.place.proofs.CoordLaws.{clamp_sub}
use Rattle.samples.specs.Phase.{luma_sample}
use Rattle.samples.specs.Bilinear.{chroma_sample}
use Rattle.samples.proofs.Reach.{luma_six, chroma_four}
use Rattle.margins.specs.Margin.{interior, expanded}
use Rattle.margins.proofs.Reading.{clamp_place, reads_clamped, keeps}
use Rattle.window.specs.Area.{passes}
use Rattle.window.specs.Padded.{luma_direct, chroma_direct, column, read_at, padded_luma, padded_chroma}
use Rattle.window.proofs.Tests.{to_diff}
use Rattle.window.proofs.Bridge.{column_on, in_both, passes_is, around, onward}

clamp_below : (z : ℤ) (n : ℕ) → 1 ≤ n → clamp_z z n < n
clamp_below (pos k) n h = omega arith
clamp_below (negsuc k) n h = h

-- on one axis of a direct reading: the buffer's column lies within, and its clamped place is the place's
axis : (before behind a o f b n pad c i : ℕ) (u : ℤ) → f ≡ o + before → u ≡ diff (a + c + i) f → o + before ≤ a + pad → a + b + behind ≤ n + pad + o → c < b → i < before + 1 + behind
    → (column (u +ℤ pos pad) < n + 2 * pad) × (clamp_z (pos (column (u +ℤ pos pad)) -ℤ pos pad) n ≡ clamp_z u n)
axis before behind a o f b n pad c i u from e p q k l =
    let g : column (u +ℤ pos pad) ≡ a + c + i + pad - f = ap (λ (z : ℤ). column (z +ℤ pos pad)) e ∙ column_on (a + c + i) f pad in
    (omega arith, clamp_place (column (u +ℤ pos pad)) pad n ∙ omega arith ∙ sym (clamp_sub (a + c + i) f n) ∙ ap (λ (z : ℤ). clamp_z z n) (sym e))

module _ (buf : List ℕ) (stride pad w h bw bh : ℕ) (wide : w + 2 * pad ≤ stride) (w1 : 1 ≤ w) (h1 : 1 ≤ h) where
  -- one sample, by the test's answer d
  reading : (before behind o f x y c r i j : ℕ) (u v : ℤ) (d : Bool) → passes before behind o x y bw bh w h pad ≡ d → f ≡ o + before
      → u ≡ diff (x + c + i) f → v ≡ diff (y + r + j) f → c < bw → r < bh → i < before + 1 + behind → j < before + 1 + behind
      → read_at d (expanded buf stride pad w h) stride pad w h u v ≡ interior buf stride pad (clamp_z u w) (clamp_z v h)
  unfolding read_at interior
  reading before behind o f x y c r i j u v true t from eu ev a b k l =
      let s = in_both before behind o x y bw bh w h pad t in
      let m = axis before behind x o f bw w pad c i u from eu s.0.0 s.0.1 a k in
      let n = axis before behind y o f bh h pad r j v from ev s.1.0 s.1.1 b l in
      reads_clamped buf stride pad w h wide _ _ m.0 n.0 ∙ ap₂ (interior buf stride pad) m.1 n.1
  reading before behind o f x y c r i j u v false t from eu ev a b k l =
      let m = clamp_below u w w1 in
      let n = clamp_below v h h1 in
      keeps buf stride pad w h _ _ (omega arith) (omega arith) (omega arith) (inl (omega arith, omega arith))

  module _ (x0 y0 : ℕ) (mvx mvy : ℤ) (c r : ℕ) (a : c < bw) (b : r < bh) where
    -- the place of column 0 and row 0 by m, a way up that suffices for both
    abbrev at : ℕ → ℕ → ℤ → ℤ
    at m z0 mv = pos z0 +ℤ floor_z mv m

    abbrev far : ℕ → ℕ
    far m = suc (mag (at m x0 mvx) + mag (at m y0 mvy))

    x_up : (m : ℕ) → at m x0 mvx ≡ diff (up (far m) (at m x0 mvx)) (far m)
    x_up m = sym (biased (far m) (at m x0 mvx) (omega arith)) ∙ to_diff _ _

    y_up : (m : ℕ) → at m y0 mvy ≡ diff (up (far m) (at m y0 mvy)) (far m)
    y_up m = sym (biased (far m) (at m y0 mvy) (omega arith)) ∙ to_diff _ _

    pub luma_standard : padded_luma (expanded buf stride pad w h) stride pad w h x0 y0 bw bh mvx mvy c r
        ≡ luma_sample 255 (phase mvx 4) (phase mvy 4) (λ i j. interior buf stride pad (clamp_z (luma_place x0 mvx c +ℤ pos i -ℤ pos 2) w) (clamp_z (luma_place y0 mvy r +ℤ pos j -ℤ pos 2) h))
    unfolding padded_luma luma_direct luma_place
    luma_standard =
        luma_six 255 _ _ (λ i j k l.
        reading 2 3 (far 4) (far 4 + 2) (up (far 4) (at 4 x0 mvx)) (up (far 4) (at 4 y0 mvy)) c r i j _ _ _
        (passes_is 2 3 (far 4) _ _ bw bh w h pad (onward _ _ (x_up 4) 0) (onward _ _ (y_up 4) 0)) refl (around _ _ (onward _ _ (x_up 4) c) i) (around _ _ (onward _ _ (y_up 4) r) j) a b k l) (phase mvx 4) (phase mvy 4)

    pub chroma_standard : padded_chroma (expanded buf stride pad w h) stride pad w h x0 y0 bw bh mvx mvy c r
        ≡ chroma_sample (phase mvx 8) (phase mvy 8) (λ i j. interior buf stride pad (clamp_z (chroma_place x0 mvx c +ℤ pos i) w) (clamp_z (chroma_place y0 mvy r +ℤ pos j) h))
    unfolding padded_chroma chroma_direct chroma_place
    chroma_standard =
        chroma_four (phase mvx 8) (phase mvy 8) _ _ (λ i j k l.
        reading 0 1 (far 8) (far 8) (up (far 8) (at 8 x0 mvx)) (up (far 8) (at 8 y0 mvy)) c r i j _ _ _
        (passes_is 0 1 (far 8) _ _ bw bh w h pad (onward _ _ (x_up 8) 0) (onward _ _ (y_up 8) 0)) (sym (add-zero (far 8))) (onward _ _ (onward _ _ (x_up 8) c) i) (onward _ _ (onward _ _ (y_up 8) r) j) a b k l)
