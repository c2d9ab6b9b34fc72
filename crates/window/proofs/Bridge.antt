-- The area that is read gives the definition: the whole buffer where the test passed, else the picture. Assumes nothing.
use mathlib.Core.Path.{◌≡◌, refl, sym, ap, ap₂, subst, ◌∙◌}
use mathlib.Core.Bool.{Bool, true, false, ◌&&◌}
use mathlib.Core.List.{List}
use Prim.Native.Nat.{ℕ, ◌+◌, ◌*◌, ◌-◌, ◌/◌, ◌^◌, ◌≤◌, ◌<◌}
use native.Mathlib.Nat.{add-zero, mul-le-mul_right}
use native.Mathlib.Omega.{arith}
use lib.IntN.{ℤ, pos, sub_ℕ, ◌+ℤ◌, ◌-ℤ◌}
use lib.ListN.{get_or}
use lib.Signed.{mag}
use Rattle.signed.specs.Lift.{up}
use Rattle.signed.proofs.Diff.{sub_ind}
use Rattle.signed.proofs.Linear.{diff, linear, diff_same}
use Rattle.grid.specs.Block.{sample, drawn}
use Rattle.grid.proofs.Fill.{drawn_ext}
use Rattle.place.specs.Place.{clamp_z, luma_place, chroma_place, phase}
use Rattle.place.specs.Near.{near, near_area}
use Rattle.place.proofs.CoordLaws.{diff_negsuc, clamp_sub, luma_up, chroma_up}
use Rattle.samples.proofs.Reach.{both, luma_six, chroma_four}
use Rattle.margins.specs.Margin.{interior}
use Rattle.samples.specs.Phase.{luma_sample}
use Rattle.samples.specs.Bilinear.{chroma_sample}
use Rattle.route.specs.Area.{near_by, luma_near, chroma_near}
use Rattle.route.proofs.Inside.{luma_is, chroma_is}
use Rattle.window.specs.Area.{passes, Part, part_of, area_of}
use Rattle.window.specs.Padded.{in_reach, luma_direct, chroma_direct, column, read_at, padded_luma, padded_chroma}
use Rattle.window.proofs.Tests.{to_diff, reached}

-- ---- one sample

column_sub : (a b : ℕ) → column (diff a b) ≡ a - b
unfolding diff
column_sub a b = sub_ind (λ z. column z ≡ a - b) a b (λ n e. omega arith) (λ n e. omega arith)

pub column_on : (a b pad : ℕ) → column (diff a b +ℤ pos pad) ≡ a + pad - b
column_on a b pad =
    let e : diff a b +ℤ pos pad ≡ diff (a + pad) b = simp linear (diff_same _ _ _ _ (omega arith)) in ap column e ∙ column_sub (a + pad) b

-- what the test tells of both axes, where it held
pub in_both : (before behind base x y bw bh w h pad : ℕ) → passes before behind base x y bw bh w h pad ≡ true
    → ((base + before ≤ x + pad) × (x + bw + behind ≤ w + pad + base)) × ((base + before ≤ y + pad) × (y + bh + behind ≤ h + pad + base))
in_both before behind base x y bw bh w h pad e =
    let b = both (in_reach before behind (sub_ℕ x base) bw w pad) (in_reach before behind (sub_ℕ y base) bh h pad) e in (reached before behind x base bw w pad b.0, reached before behind y base bh h pad b.1)

-- THE AREA lies in the buffer: the whole of it, and the picture in it
pub whole_in : (stride pad w h len : ℕ) → 1 ≤ h → w + 2 * pad ≤ stride → stride * (h + 2 * pad) ≤ len → 0 + (h + 2 * pad - 1) * stride + (w + 2 * pad) ≤ len
whole_in stride pad w h len a b c = let n : h + 2 * pad - 1 + 1 ≤ h + 2 * pad = omega arith in omega (arith, mul-le-mul_right stride n)

pub picture_in : (stride pad w h len : ℕ) → 1 ≤ h → w + 2 * pad ≤ stride → stride * (h + 2 * pad) ≤ len → pad * stride + pad + (h - 1) * stride + w ≤ len
picture_in stride pad w h len a b c = let n : pad + (h - 1) + 1 ≤ h + 2 * pad = omega arith in omega (arith, mul-le-mul_right stride n)

-- and where the test held, the place in it is small
pub small : (before behind base x y bw bh w h pad : ℕ) → (w ≤ 8192) × (h ≤ 8192) × (pad ≤ 128) × (base < 2 ^ 30) → {d : Bool} → d ≡ passes before behind base x y bw bh w h pad → d ≡ true
    → (x + pad < 2 ^ 31) × (y + pad < 2 ^ 31)
small before behind base x y bw bh w h pad b e f = let t = in_both before behind base x y bw bh w h pad (sym e ∙ f) in omega arith

module _ (before behind base x y bw bh w h pad : ℕ) where
  abbrev passed : Bool
  passed = passes before behind base x y bw bh w h pad

  -- the one test is the definition's, where the code's places are
  pub passes_is : {u v : ℤ} → u ≡ diff (x + 0) base → v ≡ diff (y + 0) base → passed ≡ in_reach before behind u bw w pad && in_reach before behind v bh h pad
  passes_is e f =
      ap₂ (λ (u v : ℤ). in_reach before behind u bw w pad && in_reach before behind v bh h pad)
      (to_diff x base ∙ ap (λ (k : ℕ). diff k base) (sym (add-zero x)) ∙ sym e) (to_diff y base ∙ ap (λ (k : ℕ). diff k base) (sym (add-zero y)) ∙ sym f)

  near_in : (n z pad b c i : ℕ) → base + before ≤ z + pad → z + b + behind ≤ n + pad + base → c < b → i < before + 1 + behind
      → near (base + before) (n + 2 * pad) (z + pad + c + i) ≡ z + c + i + pad - (base + before)
  near_in n z pad b c i p q k l = omega arith

  module _ (stride : ℕ) {d : Bool} {a : Part} (tested : d ≡ passed) (made : a ≡ area_of d stride pad w h x y) where
    is : a ≡ area_of passed stride pad w h x y
    is = made ∙ ap (λ (t : Bool). area_of t stride pad w h x y) tested

    -- where the test held, the block lies inside the whole buffer
    pub block_in : d ≡ true → (base ≤ a.x) × (a.x - base + bw ≤ a.w) × (base ≤ a.y) × (a.y - base + bh ≤ a.h)
    block_in e =
        subst (λ (k : Part). (base ≤ k.x) × (k.x - base + bw ≤ k.w) × (base ≤ k.y) × (k.y - base + bh ≤ k.h)) (sym (made ∙ ap (λ (t : Bool). area_of t stride pad w h x y) e))
        (omega (arith, in_both before behind base x y bw bh w h pad (sym tested ∙ e)))

    -- READING, of the definition's test and places
    module _ (buf : List ℕ) (c r i j : ℕ) (cb : c < bw) (rb : r < bh) (ib : i < before + 1 + behind) (jb : j < before + 1 + behind) where
      abbrev way : Part → ℕ
      way a = near_area buf a.p stride a.w a.h (base + before) (a.x + c + i) (a.y + r + j)

      abbrev rule : Bool → ℕ
      rule d = read_at d buf stride pad w h (diff (x + c + i) (base + before)) (diff (y + r + j) (base + before))

      read_is : (d : Bool) → passed ≡ d → way (area_of d stride pad w h x y) ≡ rule d
      unfolding near_area read_at sample interior
      read_is true e =
          let t = in_both before behind base x y bw bh w h pad e in
          ap₂ (λ (u v : ℕ). get_or buf (0 + v * stride + u) 0) (near_in w x pad bw c i t.0.0 t.0.1 cb ib ∙ sym (column_on (x + c + i) (base + before) pad))
          (near_in h y pad bh r j t.1.0 t.1.1 rb jb ∙ sym (column_on (y + r + j) (base + before) pad))
          ∙ ap (λ (n : ℕ). get_or buf n 0) (omega arith)
      read_is false e =
          ap₂ (λ (u v : ℕ). get_or buf (pad * stride + pad + v * stride + u) 0) (sym (clamp_sub (x + c + i) (base + before) w)) (sym (clamp_sub (y + r + j) (base + before) h))
          ∙ ap (λ (n : ℕ). get_or buf n 0) (index (clamp_z (diff (x + c + i) (base + before)) w) (clamp_z (diff (y + r + j) (base + before)) h))
        where
          index : (m n : ℕ) → pad * stride + pad + n * stride + m ≡ (pad + n) * stride + (pad + m)
          index m n = omega arith

      pub read_at_lem : {t : Bool} {u v : ℤ} → passed ≡ t → u ≡ diff (x + c + i) (base + before) → v ≡ diff (y + r + j) (base + before) → way a ≡ read_at t buf stride pad w h u v
      read_at_lem {t} {u} {v} f g m =
          ap way is ∙ read_is passed refl ∙ ap₂ (read_at passed buf stride pad w h) (sym g) (sym m) ∙ ap (λ (s : Bool). read_at s buf stride pad w h u v) f

-- ---- a block: the code's places are the definition's, 2^29 up for luma and 2^28 up for chroma

pub onward : {z : ℤ} (a o : ℕ) → z ≡ diff a o → (i : ℕ) → z +ℤ pos i ≡ diff (a + i) o
onward a o e i = rw e (simp linear (diff_same _ _ _ _ (omega arith)))

pub around : {z : ℤ} (a o : ℕ) → z ≡ diff a o → (i : ℕ) → z +ℤ pos i -ℤ pos 2 ≡ diff (a + i) (o + 2)
around a o e i = rw e (simp (linear, diff_negsuc) (diff_same _ _ _ _ (omega arith)))

luma_place_lem : (x0 : ℕ) (mv : ℤ) (x : ℕ) → mag mv < 2 ^ 31 → x ≡ x0 + up (2 ^ 31) mv / 4 → (c : ℕ) → luma_place x0 mv c ≡ diff (x + c) (2 ^ 29)
luma_place_lem x0 mv x f e c = luma_up x0 mv c f ∙ ap (λ (k : ℕ). diff (k + c) (2 ^ 29)) (sym e)

chroma_place_lem : (x0 : ℕ) (mv : ℤ) (x : ℕ) → mag mv < 2 ^ 31 → x ≡ x0 + up (2 ^ 31) mv / 8 → (c : ℕ) → chroma_place x0 mv c ≡ diff (x + c) (2 ^ 28)
chroma_place_lem x0 mv x f e c = chroma_up x0 mv c f ∙ ap (λ (k : ℕ). diff (k + c) (2 ^ 28)) (sym e)

module _ (out buf : List ℕ) (stride pad w h x0 y0 bw bh : ℕ) (mvx mvy : ℤ) (p : mag mvx < 2 ^ 31) (q : mag mvy < 2 ^ 31) {x y fx fy : ℕ} {d : Bool} {a : Part} where
  pub luma_drawn : x ≡ x0 + up (2 ^ 31) mvx / 4 → y ≡ y0 + up (2 ^ 31) mvy / 4 → fx ≡ phase mvx 4 → fy ≡ phase mvy 4
      → d ≡ passes 2 3 (2 ^ 29) x y bw bh w h pad → a ≡ area_of d stride pad w h x y
      → drawn out bw bh (luma_near buf a.p stride a.w a.h a.x a.y fx fy) ≡ drawn out bw bh (padded_luma buf stride pad w h x0 y0 bw bh mvx mvy)
  unfolding luma_near padded_luma luma_direct
  luma_drawn ex ey efx efy t e =
      let u = luma_place_lem x0 mvx x p ex in
      let v = luma_place_lem y0 mvy y q ey in
      drawn_ext out bw bh _ _ (λ c r m n.
      rw (efx, efy) (luma_six 255 _ _ (λ i j k l.
      read_at_lem 2 3 (2 ^ 29) x y bw bh w h pad stride t e buf c r i j m n k l (passes_is 2 3 (2 ^ 29) x y bw bh w h pad (u 0) (v 0))
      (around (x + c) (2 ^ 29) (u c) i) (around (y + r) (2 ^ 29) (v r) j)) (phase mvx 4) (phase mvy 4)))

  pub chroma_drawn : x ≡ x0 + up (2 ^ 31) mvx / 8 → y ≡ y0 + up (2 ^ 31) mvy / 8 → fx ≡ phase mvx 8 → fy ≡ phase mvy 8
      → d ≡ passes 0 1 (2 ^ 28) x y bw bh w h pad → a ≡ area_of d stride pad w h x y
      → drawn out bw bh (chroma_near buf a.p stride a.w a.h a.x a.y fx fy) ≡ drawn out bw bh (padded_chroma buf stride pad w h x0 y0 bw bh mvx mvy)
  unfolding chroma_near padded_chroma chroma_direct
  chroma_drawn ex ey efx efy t e =
      let u = chroma_place_lem x0 mvx x p ex in
      let v = chroma_place_lem y0 mvy y q ey in
      drawn_ext out bw bh _ _ (λ c r m n.
      rw (efx, efy) (chroma_four (phase mvx 8) (phase mvy 8) _ _ (λ i j k l.
      read_at_lem 0 1 (2 ^ 28) x y bw bh w h pad stride t e buf c r i j m n k l (passes_is 0 1 (2 ^ 28) x y bw bh w h pad (u 0) (v 0))
      (onward (x + c) (2 ^ 28) (u c) i) (onward (y + r) (2 ^ 28) (v r) j))))

-- the same of what is seen of the buffer, by the code's names
module _ (out buf : List ℕ) (stride pad w h x0 y0 bw bh : ℕ) (mvx mvy : ℤ) (p : mag mvx < 2 ^ 31) (q : mag mvy < 2 ^ 31)
    {buf₁ : List ℕ} {stride₁ at w₁ h₁ x₁ y₁ fx₁ fy₁ bw₁ bh₁ x y fx fy bw₀ bh₀ : ℕ} {d : Bool} where
  pub luma_seen : (x ≡ x0 + up (2 ^ 31) mvx / 4) × (y ≡ y0 + up (2 ^ 31) mvy / 4) × (fx ≡ phase mvx 4) × (fy ≡ phase mvy 4) × (bw₀ ≡ bw) × (bh₀ ≡ bh)
      → d ≡ passes 2 3 (2 ^ 29) x y bw₀ bh₀ w h pad → part_of at w₁ h₁ x₁ y₁ ≡ area_of d stride pad w h x y
      → (buf₁ ≡ buf) × (stride₁ ≡ stride) → (fx₁ ≡ fx) × (fy₁ ≡ fy) × (bw₁ ≡ bw₀) × (bh₁ ≡ bh₀)
      → drawn out bw₁ bh₁ (near_by (luma_sample 255) buf₁ at stride₁ w₁ h₁ (2 ^ 29 + 2) x₁ y₁ fx₁ fy₁) ≡ drawn out bw bh (padded_luma buf stride pad w h x0 y0 bw bh mvx mvy)
  luma_seen a t e s k =
      luma_is out buf₁ at stride₁ w₁ h₁ x₁ y₁ fx₁ fy₁ bw₁ bh₁
      ∙ rw (s.0, s.1, k.0, k.1, k.2, k.3, a.4, a.5)
      (luma_drawn out buf stride pad w h x0 y0 bw bh mvx mvy p q a.0 a.1 a.2 a.3 (rw (a.4, a.5) at t) e)

  pub chroma_seen : (x ≡ x0 + up (2 ^ 31) mvx / 8) × (y ≡ y0 + up (2 ^ 31) mvy / 8) × (fx ≡ phase mvx 8) × (fy ≡ phase mvy 8) × (bw₀ ≡ bw) × (bh₀ ≡ bh)
      → d ≡ passes 0 1 (2 ^ 28) x y bw₀ bh₀ w h pad → part_of at w₁ h₁ x₁ y₁ ≡ area_of d stride pad w h x y
      → (buf₁ ≡ buf) × (stride₁ ≡ stride) → (fx₁ ≡ fx) × (fy₁ ≡ fy) × (bw₁ ≡ bw₀) × (bh₁ ≡ bh₀)
      → drawn out bw₁ bh₁ (near_by chroma_sample buf₁ at stride₁ w₁ h₁ (2 ^ 28) x₁ y₁ fx₁ fy₁) ≡ drawn out bw bh (padded_chroma buf stride pad w h x0 y0 bw bh mvx mvy)
  chroma_seen a t e s k =
      chroma_is out buf₁ at stride₁ w₁ h₁ x₁ y₁ fx₁ fy₁ bw₁ bh₁
      ∙ rw (s.0, s.1, k.0, k.1, k.2, k.3, a.4, a.5)
      (chroma_drawn out buf stride pad w h x0 y0 bw bh mvx mvy p q a.0 a.1 a.2 a.3 (rw (a.4, a.5) at t) e)
