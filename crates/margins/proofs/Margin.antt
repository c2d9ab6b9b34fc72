-- Laws of `specs/Margin.antt`: a row with its two margins, and the three parts of the buffer. Assumes nothing.
use mathlib.Core.Path.{◌≡◌, sym, ap, ap₂, ◌∙◌}
use mathlib.Core.Bool.{Bool, cond}
use mathlib.Core.List.{List}
use mathlib.Core.Logic.{⊎_elim}
use Prim.Native.Nat.{ℕ, ◌+◌, ◌*◌, ◌-◌, ◌/◌, ◌%◌, ◌≤◌, ◌<◌, min}
use native.Mathlib.Nat.{zero-add, mul-le-mul_right, div-add-mod'}
use native.Mathlib.Omega.{arith}
use lib.ListN.{length, get_or}
use borrow.Author.Rules.{scaled_Fits}
use borrow.Author.Tests.{lt-ltb, le-ltb}
use mir.Syntax.{w64}
use mir.Val.{Fits}
use Rattle.signed.proofs.Diff.{lt_or_le}
use Rattle.grid.specs.Block.{sample, by_rows}
use Rattle.grid.specs.Run.{put}
use Rattle.grid.proofs.Fill.{put_at, put_length, drawn_put, in_block}
use Rattle.place.proofs.Refused.{PaddedOk}
use Rattle.margins.specs.Margin.{from_col, from_row, expanded}
use Rattle.margins.proofs.Put.{put_before, put_after, put_is, rows_at_at}

pub col_in : (pad w x : ℕ) → x < w + 2 * pad → from_col pad w x ≡ pad + min (x - pad) (w - 1)
unfolding from_col
col_in pad w x h = ap (λ (t : Bool). cond t (pad + min (x - pad) (w - 1)) x) (lt-ltb x (w + 2 * pad) h)

pub col_gap : (pad w x : ℕ) → w + 2 * pad ≤ x → from_col pad w x ≡ x
unfolding from_col
col_gap pad w x h = ap (λ (t : Bool). cond t (pad + min (x - pad) (w - 1)) x) (le-ltb x (w + 2 * pad) h)

-- a picture row that starts at o, with a filled in before it and b after it
module _ (d d1 d2 : List ℕ) (o stride pad w a b : ℕ) (w1 : 1 ≤ w) (wide : w + 2 * pad ≤ stride) (room : o + stride ≤ length d)
    (e1 : d1 ≡ put d o pad (λ i. a)) (e2 : d2 ≡ put d1 (o + pad + w) pad (λ i. b))
    (ea : a ≡ get_or d (o + pad) 0) (eb : b ≡ get_or d (o + pad + w - 1) 0) where
  len1 : length d1 ≡ length d
  len1 = ap length e1 ∙ put_length d o pad _ (omega arith)

  fits : o + pad + w + pad ≤ length d1
  fits = omega (arith, len1)

  inner : (i : ℕ) → o + pad ≤ i → get_or d1 i 0 ≡ get_or d i 0
  inner i h = ap (λ (l : List ℕ). get_or l i 0) e1 ∙ put_after d o pad _ (omega arith) i h

  until : (i : ℕ) → i < o + pad + w → get_or d2 i 0 ≡ get_or d1 i 0
  until i h = ap (λ (l : List ℕ). get_or l i 0) e2 ∙ put_before d1 (o + pad + w) pad _ fits i h

  past : (i : ℕ) → o + pad + w + pad ≤ i → get_or d2 i 0 ≡ get_or d i 0
  past i h = ap (λ (l : List ℕ). get_or l i 0) e2 ∙ put_after d1 (o + pad + w) pad _ fits i h ∙ inner i (omega arith)

  at : (x : ℕ) → x < stride → get_or d2 (o + x) 0 ≡ get_or d (o + from_col pad w x) 0
  at x _ =
      ⊎_elim
      (λ (h : x < pad).
      let e : o + pad ≡ o + from_col pad w x = omega (arith, col_in pad w x (omega arith)) in
      until (o + x) (omega arith) ∙ ap (λ (l : List ℕ). get_or l (o + x) 0) e1 ∙ put_at d o pad _ x (omega arith) h ∙ ea ∙ ap (λ (k : ℕ). get_or d k 0) e)
      (λ (h : pad ≤ x). ⊎_elim
      (λ (k : x < pad + w).
      let e : o + x ≡ o + from_col pad w x = omega (arith, col_in pad w x (omega arith)) in
      until (o + x) (omega arith) ∙ inner (o + x) (omega arith) ∙ ap (λ (j : ℕ). get_or d j 0) e)
      (λ (k : pad + w ≤ x). ⊎_elim
      (λ (l : x < w + 2 * pad).
      let p : o + x ≡ o + pad + w + (x - (pad + w)) = omega arith in
      let e : o + pad + w - 1 ≡ o + from_col pad w x = omega (arith, col_in pad w x l) in
      ap₂ (λ (l : List ℕ) (j : ℕ). get_or l j 0) e2 p
      ∙ put_at d1 (o + pad + w) pad _ (x - (pad + w)) (omega (arith, fits)) (omega arith) ∙ eb ∙ ap (λ (j : ℕ). get_or d j 0) e)
      (λ (l : w + 2 * pad ≤ x). past (o + x) (omega arith) ∙ ap (λ (j : ℕ). get_or d (o + j) 0) (sym (col_gap pad w x l)))
      (lt_or_le x (w + 2 * pad)))
      (lt_or_le x (pad + w)))
      (lt_or_le x pad)

  pub margin_row : d2 ≡ put d o stride (λ x. get_or d (o + from_col pad w x) 0)
  margin_row =
      put_is d o stride _ room d2 (ap length e2 ∙ put_length d1 (o + pad + w) pad _ fits ∙ len1)
      (λ i h. until i (omega arith) ∙ ap (λ (l : List ℕ). get_or l i 0) e1 ∙ put_before d o pad _ (omega arith) i h)
      at
      (λ i h. past i (omega arith))

-- the three parts: the picture's rows with their margins, the rows above, the rows below
module _ (d d1 d2 d3 : List ℕ) (s pad w h : ℕ) (h1 : 1 ≤ h) (room : s * (h + 2 * pad) ≤ length d)
    (e1 : d1 ≡ put d (pad * s) (h * s) (by_rows s (λ x y. get_or d (pad * s + y * s + from_col pad w x) 0)))
    (e2 : d2 ≡ put d1 0 (pad * s) (by_rows s (λ x y. get_or d1 (pad * s + x) 0)))
    (e3 : d3 ≡ put d2 ((pad + h) * s) (pad * s) (by_rows s (λ x y. get_or d2 ((pad + h - 1) * s + x) 0))) where
  r1 : pad * s + h * s ≤ length d
  r1 = omega arith

  l1 : length d1 ≡ length d
  l1 = ap length e1 ∙ put_length d (pad * s) (h * s) _ r1

  r2 : 0 + pad * s ≤ length d1
  r2 = omega (arith, l1)

  l2 : length d2 ≡ length d
  l2 = ap length e2 ∙ put_length d1 0 (pad * s) _ r2 ∙ l1

  r3 : (pad + h) * s + pad * s ≤ length d2
  r3 = omega (arith, l2)

  l3 : length d3 ≡ length d
  l3 = ap length e3 ∙ put_length d2 ((pad + h) * s) (pad * s) _ r3 ∙ l2

  before3 : (i : ℕ) → i < (pad + h) * s → get_or d3 i 0 ≡ get_or d2 i 0
  before3 i b = ap (λ (l : List ℕ). get_or l i 0) e3 ∙ put_before d2 ((pad + h) * s) (pad * s) _ r3 i b

  after2 : (i : ℕ) → pad * s ≤ i → get_or d2 i 0 ≡ get_or d1 i 0
  after2 i b = ap (λ (l : List ℕ). get_or l i 0) e2 ∙ put_after d1 0 (pad * s) _ r2 i (omega arith)

  -- a picture's row
  middle : (x k : ℕ) → x < s → k < h → get_or d1 (pad * s + (k * s + x)) 0 ≡ get_or d ((pad + k) * s + from_col pad w x) 0
  middle x k a b =
      let e : pad * s + k * s + from_col pad w x ≡ (pad + k) * s + from_col pad w x = omega arith in
      ap (λ (l : List ℕ). get_or l (pad * s + (k * s + x)) 0) e1
      ∙ rows_at_at d (pad * s) s h _ x k (omega (arith, r1)) a b
      ∙ ap (λ (i : ℕ). get_or d i 0) e

  at_row : (x y k : ℕ) → pad + k ≡ from_row pad h y → get_or d ((pad + k) * s + from_col pad w x) 0 ≡ sample d s (from_col pad w x) (from_row pad h y)
  unfolding sample
  at_row x y k e = ap (λ (r : ℕ). get_or d (r * s + from_col pad w x) 0) e

  all : (x y : ℕ) → x < s → y < h + 2 * pad → get_or d3 (y * s + x) 0 ≡ sample d s (from_col pad w x) (from_row pad h y)
  all x y a b =
      ⊎_elim
      (λ (c : y < pad).
      let p : pad * s + x ≡ pad * s + (0 * s + x) = omega arith in
      let q : y * s + s ≤ pad * s = omega (arith, mul-le-mul_right s c) in
      before3 (y * s + x) (omega arith)
      ∙ ap (λ (l : List ℕ). get_or l (y * s + x) 0) e2
      ∙ ap (λ (i : ℕ). get_or (put d1 0 (pad * s) (by_rows s (λ x y. get_or d1 (pad * s + x) 0))) i 0) (sym (zero-add (y * s + x)))
      ∙ rows_at_at d1 0 s pad _ x y (omega arith) a c
      ∙ ap (λ (i : ℕ). get_or d1 i 0) p ∙ middle x 0 a h1 ∙ at_row x y 0 (omega arith))
      (λ (c : pad ≤ y). ⊎_elim
      (λ (f : y < pad + h).
      let z : y ≡ pad + (y - pad) = omega arith in
      let p : y * s + x ≡ pad * s + ((y - pad) * s + x) = ap (λ (k : ℕ). k * s + x) z ∙ omega arith in
      let q : y * s + s ≤ (pad + h) * s = omega (arith, mul-le-mul_right s f) in
      before3 (y * s + x) (omega arith) ∙ after2 (y * s + x) (omega (arith, mul-le-mul_right s c))
      ∙ ap (λ (i : ℕ). get_or d1 i 0) p ∙ middle x (y - pad) a (omega arith) ∙ at_row x y (y - pad) (omega arith))
      (λ (f : pad + h ≤ y).
      let z : y ≡ pad + h + (y - (pad + h)) = omega arith in
      let u : pad + h - 1 ≡ pad + (h - 1) = omega arith in
      let p : y * s + x ≡ (pad + h) * s + ((y - (pad + h)) * s + x) = ap (λ (k : ℕ). k * s + x) z ∙ omega arith in
      let v : (pad + h - 1) * s + x ≡ pad * s + ((h - 1) * s + x) = ap (λ (k : ℕ). k * s + x) u ∙ omega arith in
      ap₂ (λ (l : List ℕ) (i : ℕ). get_or l i 0) e3 p
      ∙ rows_at_at d2 ((pad + h) * s) s pad _ x (y - (pad + h)) (omega (arith, r3)) a (omega arith)
      ∙ after2 ((pad + h - 1) * s + x) (omega (arith, v))
      ∙ ap (λ (i : ℕ). get_or d1 i 0) v ∙ middle x (h - 1) a (omega arith) ∙ at_row x y (h - 1) (omega arith))
      (lt_or_le y (pad + h)))
      (lt_or_le y pad)

  pub expanded_is : d3 ≡ expanded d s pad w h
  unfolding expanded by_rows
  expanded_is =
      put_is d 0 (s * (h + 2 * pad)) _ (omega arith) d3 l3
      (λ i b. absurd (omega arith))
      (λ i b.
      let p = in_block s (h + 2 * pad) i b in
      let e : 0 + i ≡ i / s * s + i % s = omega (arith, div-add-mod' i s) in
      ap (λ (k : ℕ). get_or d3 k 0) e ∙ all (i % s) (i / s) p.0 p.1)
      (λ i b.
      ap (λ (l : List ℕ). get_or l i 0) e3 ∙ put_after d2 ((pad + h) * s) (pad * s) _ r3 i (omega arith)
      ∙ after2 i (omega arith)
      ∙ ap (λ (l : List ℕ). get_or l i 0) e1 ∙ put_after d (pad * s) (h * s) _ r1 i (omega arith))
      ∙ sym (drawn_put d s (h + 2 * pad) _)

-- once nothing was refused: the place of a row fits a word, and a picture's row lies in the buffer and ends before the next
module _ {len w h pad s : ℕ} (ok : PaddedOk len w h pad s) where
  pub row_fits : {r : ℕ} → r ≤ pad + h → Fits w64 (r * s)
  row_fits {r} b = scaled_Fits r 8321 s (omega arith) (omega arith)

  pub row_room : {r m : ℕ} → r < pad + h → m ≡ len → r * s + s ≤ m
  row_room b e = omega (arith, mul-le-mul_right s b)

  pub row_next : {r t : ℕ} → r < t → r * s + s ≤ t * s
  row_next b = omega (arith, mul-le-mul_right s b)
