-- The centre over a row of sums: the second pass over it is j, and a sum rounded is a half sample. Assumes nothing.
use mathlib.Core.Path.{◌≡◌, refl, sym, ap, ap₂, ◌∙◌}
use mathlib.Core.List.{List, ◌++◌, append_assoc}
use mathlib.Core.Logic.{⊎_elim}
use Prim.Native.Nat.{ℕ, zero, suc, ◌+◌, ◌*◌, ◌-◌, ◌/◌, ◌≤◌, ◌<◌, min}
use native.Mathlib.Nat.{add_assoc, zero-add}
use native.Mathlib.Omega.{arith}
use lib.ListN.{length, get_or, take, drop, replicate}
use lib.Seq.{take_at, get_or-append-add, get_or-drop, drop-drop, drop-append-add}
use Rattle.signed.proofs.Diff.{lt_or_le}
use Rattle.grid.specs.Block.{tab}
use Rattle.grid.specs.Run.{put, from}
use Rattle.grid.proofs.Fill.{tab_length, tab_ext, tab_add, front_at}
use Rattle.samples.specs.Tap.{half, centre}
use Rattle.samples.specs.Kernel.{biased, window_at, mid_at}
use Rattle.samples.proofs.Rows.{window_at_lem}
use Rattle.samples.proofs.Tap.{half_is, centre_is, biased_small}

-- a run over the last j of the elements that stand, and r more
put_over : (d : List ℕ) (k j r : ℕ) (g h : ℕ → ℕ) → ((i : ℕ) → g (k + i) ≡ h i) → put (put d 0 (k + j) g) k (j + r) h ≡ put d 0 (k + (j + r)) g
unfolding put
put_over d k j r g h e =
    let rest : List ℕ = drop (0 + (k + j)) d in
    let p : k + (j + r) ≡ length (tab (k + j) g) + r = omega (arith, tab_length (k + j) g) in
    let q : 0 + (k + j) + r ≡ 0 + (k + (j + r)) = omega arith in
    ap₂ (λ (a b : List ℕ). (a ++ tab (j + r) h) ++ b)
    (ap (λ (l : List ℕ). take k (l ++ rest)) (tab_add k j g)
    ∙ ap (take k) (append_assoc (tab k g) (tab j (λ i. g (k + i))) rest)
    ∙ take_at (tab k g) (tab j (λ i. g (k + i)) ++ rest) k (tab_length k g))
    (ap (λ (n : ℕ). drop n (tab (k + j) g ++ rest)) p ∙ drop-append-add (tab (k + j) g) rest r ∙ drop-drop r (0 + (k + j)) d ∙ ap (λ (n : ℕ). drop n d) q)
    ∙ ap (λ (l : List ℕ). l ++ drop (0 + (k + (j + r))) d)
    (ap (λ (l : List ℕ). tab k g ++ l) (tab_ext (j + r) h (λ i. g (k + i)) (λ i b. sym (e i))) ∙ sym (tab_add k (j + r) g))

-- an element behind those that were put
put_past : (d : List ℕ) (n : ℕ) (g : ℕ → ℕ) (i : ℕ) → n ≤ i → get_or (put d 0 n g) i 0 ≡ get_or d i 0
unfolding put
put_past d n g i h =
    let k : i ≡ length (tab n g) + (i - n) = omega (arith, tab_length n g) in
    let e : 0 + n + (i - n) ≡ i = omega arith in
    ap (λ (j : ℕ). get_or (tab n g ++ drop (0 + n) d) j 0) k ∙ get_or-append-add (tab n g) (drop (0 + n) d) (i - n) 0
    ∙ get_or-drop (0 + n) d (i - n) 0 ∙ ap (λ (j : ℕ). get_or d j 0) e

-- a new row of sums
pub zeros : (n k : ℕ) → get_or (replicate n zero) k 0 ≡ 0
zeros zero k = refl
zeros (suc n) zero = refl
zeros (suc n) (suc k) = zeros n k

-- the sums down, 2550 up, of the columns from p on
abbrev pub sums : List ℕ → ℕ → ℕ → ℕ → ℕ
sums t p ts = λ i. biased 2550 (from t (p + i) ts)

-- 21 sums, written as sixteen and the sixteen from the sixth on
pub sums_twice : (t : List ℕ) (p ts : ℕ) {v w : List ℕ} (w₀ : List ℕ) → v ≡ put w₀ 0 16 (sums t p ts) → w ≡ put v 5 16 (sums t (p + 5) ts) → w ≡ put w₀ 0 21 (sums t p ts)
sums_twice t p ts w₀ first rest =
    rest ∙ ap (λ (l : List ℕ). put l 5 16 (sums t (p + 5) ts)) first ∙ put_over w₀ 5 11 5 (sums t p ts) (sums t (p + 5) ts) (λ i. simp add_assoc)

-- a row w of m sums
module _ (t : List ℕ) (p ts : ℕ) (byte : (k : ℕ) → get_or t k 0 < 256) (m : ℕ) {w : List ℕ} (w₀ : List ℕ) (whole : w ≡ put w₀ 0 m (sums t p ts)) where
  sum : (k : ℕ) → k < m → get_or w k 0 ≡ sums t p ts k
  sum k b = ap (λ (l : List ℕ). get_or l k 0) whole ∙ front_at w₀ m (sums t p ts) k b

  column : (i k : ℕ) → i + k < m → get_or w (i + k) 0 ≡ biased 2550 (window_at t p ts i 0 k)
  unfolding from window_at
  column i k b =
      sum (i + k) b ∙ (λ v. biased 2550 (λ j. (let f : p + (i + k) + j * ts ≡ p + (0 + j) * ts + (i + k) = omega arith in ap (λ (x : ℕ). get_or t x 0) f) v))

  bound : (i k : ℕ) → 5 * (window_at t p ts i 0 k 1 + window_at t p ts i 0 k 4) ≤ 2550
  unfolding window_at
  bound i k = omega (arith, byte (p + (0 + 1) * ts + (i + k)), byte (p + (0 + 4) * ts + (i + k)))

  -- the second pass over it is j
  pub mid_centre : (i : ℕ) → i + 5 < m → mid_at w i ≡ centre 255 (window_at t p ts i 0)
  unfolding mid_at
  mid_centre i b =
      let z : i ≡ i + 0 = omega arith in
      let c₀ : get_or w i 0 ≡ biased 2550 (window_at t p ts i 0 0) = ap (λ (x : ℕ). get_or w x 0) z ∙ column i 0 (omega arith) in
      let c₁ = column i 1 (omega arith) in
      let c₂ = column i 2 (omega arith) in
      let c₃ = column i 3 (omega arith) in
      let c₄ = column i 4 (omega arith) in
      let c₅ = column i 5 (omega arith) in
      rw (c₀, c₁, c₂, c₃, c₄, c₅, centre_is 255 2550 (window_at t p ts i 0) (bound i)) (omega arith)

  -- a sum rounded is the half sample down
  pub round_half : (i : ℕ) → i + 2 < m → min 255 ((get_or w (i + 2) 0 + 16 - 2550) / 32) ≡ half 255 (from t (p + 2 + i) ts)
  unfolding from
  round_half i b =
      let e : p + (i + 2) ≡ p + 2 + i = omega arith in
      ap (λ (u : ℕ). min 255 ((u + 16 - 2550) / 32)) (sum (i + 2) b ∙ ap (λ (q : ℕ). biased 2550 (from t q ts)) e)
      ∙ sym (half_is 255 2550 (from t (p + 2 + i) ts) (omega (arith, byte (p + 2 + i + 1 * ts), byte (p + 2 + i + 4 * ts))))

  -- it fits 14 bits
  pub sums_small : ((k : ℕ) → get_or w₀ k 0 ≡ 0) → (k : ℕ) → get_or w k 0 < 13261
  unfolding from
  sums_small none k =
      ⊎_elim (λ (b : k < m). rw (sum k b) (biased_small (from t (p + k) ts) (λ j. omega (arith, byte (p + k + j * ts)))))
      (λ (b : m ≤ k). rw (ap (λ (l : List ℕ). get_or l k 0) whole ∙ put_past w₀ m (sums t p ts) k b ∙ none k) (omega arith)) (lt_or_le k m)

-- two rows of lanes, by row and column
pub two_rows : (z : List ℕ) (f : ℕ → ℕ → ℕ) → ((i : ℕ) → i < 8 → get_or z i 0 ≡ f i 0) → ((i : ℕ) → i < 8 → get_or z (8 + i) 0 ≡ f i 1) → (j k : ℕ) → j < 2 → k < 8 → get_or z (8 * j + k) 0 ≡ f k j
two_rows z f a b zero k _ h = ap (λ (i : ℕ). get_or z i 0) (zero-add k) ∙ a k h
two_rows z f a b (suc zero) k _ h = b k h
two_rows z f a b (suc (suc j)) k h _ = absurd (omega arith)

-- two names of one window
pub centre_at : (t : List ℕ) (ts q p i r s : ℕ) → q + r * ts ≡ p + s * ts → centre 255 (window_at t q ts i r) ≡ centre 255 (window_at t p ts i s)
centre_at t ts q p i r s e = ap (centre 255) (window_at_lem t ts q i r p i s (omega arith))
