-- A window that lies inside its area is read where it lies; a tile reads as the windows of its block. Assumes nothing.
use mathlib.Core.Path.{◌≡◌, refl, sym, ap, ap₂, ◌∙◌}
use mathlib.Core.List.{List}
use Prim.Native.Nat.{ℕ, ◌+◌, ◌*◌, ◌-◌, ◌^◌, ◌≤◌, ◌<◌}
use native.Mathlib.Nat.{mul-le-mul_right}
use native.Mathlib.Omega.{arith}
use lib.ListN.{get_or}
use Rattle.grid.specs.Block.{drawn}
use Rattle.grid.proofs.Fill.{drawn_at, drawn_ext}
use Rattle.place.specs.Near.{near, near_area}
use Rattle.samples.specs.Phase.{luma_sample}
use Rattle.samples.specs.Bilinear.{chroma_sample}
use Rattle.samples.specs.Kernel.{window_at}
use Rattle.route.specs.Area.{near_by, luma_near, chroma_near, Lies}
use Rattle.route.specs.Laws.{Sample, ReadsWithin, AtFull}

-- the last row of a window that ends inside starts no later than the area's last row
pub rows_in : (j e h s : ℕ) → 0 < e → j + e ≤ h → j * s + (e - 1) * s ≤ (h - 1) * s
rows_in j e h s p q = let b : j + (e - 1) ≤ h - 1 = omega arith in omega (arith, mul-le-mul_right s b)

-- a window that starts u columns and v rows on in the area, and ends inside it
pub lies : {len p stride w h x y base ew eh : ℕ} (u v : ℕ) → (base ≤ x) × (u ≡ x - base) → (base ≤ y) × (v ≡ y - base) → 0 < eh → u + ew ≤ w → v + eh ≤ h
    → p + (h - 1) * stride + w ≤ len → Lies len p stride w h x y base ew eh ew (p + v * stride + u)
lies {stride = stride} {h = h} {eh = eh} u v a b e f g k =
    let ends = rows_in v eh h stride e g in
    record {
      left = a.0;
      right = omega arith;
      above = b.0;
      below = omega arith;
      start = omega (arith, ap (λ (n : ℕ). n * stride) b.1);
      room = omega (arith, ends);
    }

-- on one axis: a place inside is not moved
near_on : (base n at i e : ℕ) → base ≤ at → at - base + e ≤ n → i < e → near base n (at + i) ≡ at - base + i
near_on base n at i e a b c = omega arith

-- the lanes that follow the start of a block's last row have room
pub room_of : {len p stride w h x y base ew eh lanes at : ℕ} → Lies len p stride w h x y base ew eh lanes at → (n : ℕ) → eh ≡ n + 1 → at + n * stride + lanes ≤ len
room_of {stride = stride} {eh = eh} l n e = let f : eh - 1 ≡ n = omega arith in omega (arith, l.room, ap (λ (k : ℕ). k * stride) f)

-- in a longer buffer it lies as well
pub longer : {len m p stride w h x y base ew eh lanes at : ℕ} → Lies len p stride w h x y base ew eh lanes at → len ≤ m → Lies m p stride w h x y base ew eh lanes at
longer l b = record { left = l.left; right = l.right; above = l.above; below = l.below; start = l.start; room = omega (arith, l.room) }

-- READING IN PLACE: a sample of the window at (x, y)
pub in_place : (src : List ℕ) {len p stride w h x y base ew eh lanes at : ℕ} → Lies len p stride w h x y base ew eh lanes at
    → (i j : ℕ) → i < ew → j < eh → near_area src p stride w h base (x + i) (y + j) ≡ get_or src (at + j * stride + i) 0
unfolding near_area
in_place src {p = p} {stride = stride} {w = w} {h = h} {x = x} {y = y} {base = base} {at = at} l i j a b =
    ap₂ (λ (u v : ℕ). get_or src (p + v * stride + u) 0) (near_on base w x i _ l.left l.right a) (near_on base h y j _ l.above l.below b)
    ∙ ap (λ (k : ℕ). get_or src k 0) (index p stride (x - base) (y - base) i j at l.start)
  where
    index : (p s u v i j at : ℕ) → at ≡ p + v * s + u → p + (v + j) * s + (u + i) ≡ at + j * s + i
    index p s u v i j at e = omega arith

-- READING A TILE that was drawn of the area: a sample of the window at (c, r)
pub in_tile : (src t₀ : List ℕ) {t : List ℕ} (p stride w h x y base tw th : ℕ)
    → t ≡ drawn t₀ tw th (λ i j. near_area src p stride w h base (x + i) (y + j))
    → (c r i j : ℕ) → c + i < tw → r + j < th → window_at t 0 tw c r i j ≡ near_area src p stride w h base (x + c + i) (y + r + j)
unfolding window_at
in_tile src t₀ {t} p stride w h x y base tw th e c r i j a b =
    let f : 0 + (r + j) * tw + (c + i) ≡ (r + j) * tw + (c + i) = omega arith in
    let g : x + (c + i) ≡ x + c + i = omega arith in
    let k : y + (r + j) ≡ y + r + j = omega arith in
    ap₂ (λ (l : List ℕ) (n : ℕ). get_or l n 0) e f ∙ drawn_at t₀ tw th _ (c + i) (r + j) a b ∙ ap₂ (near_area src p stride w h base) g k

-- the windows of a block that lies inside
pub place_windows : (src : List ℕ) {len p stride w h x y base ew eh lanes at : ℕ} → Lies len p stride w h x y base ew eh lanes at
    → (c r i j : ℕ) → c + i < ew → r + j < eh → window_at src at stride c r i j ≡ near_area src p stride w h base (x + c + i) (y + r + j)
unfolding window_at
place_windows src {p = p} {stride = stride} {w = w} {h = h} {x = x} {y = y} {base = base} l c r i j a b =
    let g : x + (c + i) ≡ x + c + i = omega arith in
    let k : y + (r + j) ≡ y + r + j = omega arith in
    sym (in_place src l (c + i) (r + j) a b) ∙ ap₂ (near_area src p stride w h base) g k

-- a place k up is column k and row k of its window
up : (k b n at : ℕ) → near b n at ≡ near (b + k) n (at + k)
up k b n at = omega arith

-- A BLOCK of each way to read: of full samples, out of windows that lie inside, out of the windows of a tile
module _ (sample : Sample) (out src : List ℕ) (p stride w h base x y fx fy bw bh : ℕ) where
  pub full : (before : ℕ) → AtFull sample before → fx + fy ≡ 0
      → drawn out bw bh (λ c r. near_area src p stride w h base (x + c) (y + r)) ≡ drawn out bw bh (near_by sample src p stride w h (base + before) x y fx fy)
  unfolding near_area
  full before law e =
      drawn_ext out bw bh _ _ (λ c r _ _.
      ap₂ (λ (u v : ℕ). get_or src (p + v * stride + u) 0) (up before base w (x + c)) (up before base h (y + r))
      ∙ sym (law fx fy (λ i j. near_area src p stride w h (base + before) (x + c + i) (y + r + j)) e))

  module _ (around : ℕ) (reads : ReadsWithin sample around) where
    pub placed : {len lanes at : ℕ} → Lies len p stride w h x y base (bw + around) (bh + around) lanes at
        → drawn out bw bh (λ c r. sample fx fy (window_at src at stride c r)) ≡ drawn out bw bh (near_by sample src p stride w h base x y fx fy)
    placed l = drawn_ext out bw bh _ _ (λ c r a b. reads fx fy _ _ (λ i j k m. place_windows src l c r i j (omega arith) (omega arith)))

    pub tiled : {t : List ℕ} (t₀ : List ℕ) → t ≡ drawn t₀ (bw + around) (bh + around) (λ i j. near_area src p stride w h base (x + i) (y + j))
        → drawn out bw bh (λ c r. sample fx fy (window_at t 0 (bw + around) c r)) ≡ drawn out bw bh (near_by sample src p stride w h base x y fx fy)
    tiled t₀ e = drawn_ext out bw bh _ _ (λ c r a b. reads fx fy _ _ (λ i j k m. in_tile src t₀ p stride w h x y base (bw + around) (bh + around) e c r i j (omega arith) (omega arith)))

-- of luma and of chroma
module _ (out src : List ℕ) (p stride w h x y fx fy bw bh : ℕ) where
  pub luma_is : drawn out bw bh (near_by (luma_sample 255) src p stride w h (2 ^ 29 + 2) x y fx fy) ≡ drawn out bw bh (luma_near src p stride w h x y fx fy)
  unfolding luma_near
  luma_is = refl

  pub chroma_is : drawn out bw bh (near_by chroma_sample src p stride w h (2 ^ 28) x y fx fy) ≡ drawn out bw bh (chroma_near src p stride w h x y fx fy)
  unfolding chroma_near
  chroma_is = refl
