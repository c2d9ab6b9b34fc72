-- More laws of `put`: what lies beside it, when a list is one, and rows that are written from any place on. Assumes nothing.
use mathlib.Core.Path.{◌≡◌, refl, sym, ap, ap₂, ◌∙◌}
use mathlib.Core.List.{List, ◌++◌}
use mathlib.Core.Logic.{◌⊎◌, inl, inr, ⊎_elim}
use Prim.Native.Nat.{ℕ, ◌+◌, ◌*◌, ◌-◌, ◌≤◌, ◌<◌}
use native.Mathlib.Nat.{mul-le-mul_right, zero-mul, le_antisymm}
use native.Mathlib.Omega.{arith}
use lib.ListN.{length, get_or, take, drop, length-append, get_or-append}
use lib.Seq.{length-take-le, get_or-append-add, get_or-drop, get_or-take, ext_get_or}
use Rattle.signed.proofs.Diff.{lt_or_le}
use Rattle.grid.specs.Block.{tab, by_rows}
use Rattle.grid.specs.Run.{put}
use Rattle.grid.proofs.Loop.{Filled}
use Rattle.grid.proofs.Fill.{tab_length, put_length, put_at, put_zero, put_put, by_rows_at}

module _ (d : List ℕ) (o n : ℕ) (g : ℕ → ℕ) (room : o + n ≤ length d) where
  head : length (take o d ++ tab n g) ≡ o + n
  head = length-append (take o d) (tab n g) ∙ ap₂ (λ (a b : ℕ). a + b) (length-take-le o d (omega arith)) (tab_length n g)

  -- what lies before and after the elements that were put
  pub put_before : (i : ℕ) → i < o → get_or (put d o n g) i 0 ≡ get_or d i 0
  unfolding put
  put_before i h =
      get_or-append (take o d ++ tab n g) (drop (o + n) d) 0 i (rw head (omega arith))
      ∙ get_or-append (take o d) (tab n g) 0 i (rw (length-take-le o d (omega arith)) h)
      ∙ get_or-take o d i 0 h

  pub put_after : (i : ℕ) → o + n ≤ i → get_or (put d o n g) i 0 ≡ get_or d i 0
  unfolding put
  put_after i h =
      let k : i ≡ length (take o d ++ tab n g) + (i - (o + n)) = omega (arith, head) in
      let e : o + n + (i - (o + n)) ≡ i = omega arith in
      ap (λ (j : ℕ). get_or ((take o d ++ tab n g) ++ drop (o + n) d) j 0) k
      ∙ get_or-append-add (take o d ++ tab n g) (drop (o + n) d) (i - (o + n)) 0
      ∙ get_or-drop (o + n) d (i - (o + n)) 0
      ∙ ap (λ (j : ℕ). get_or d j 0) e

  -- a list is one by its elements
  pub put_is : (e : List ℕ) → length e ≡ length d
      → ((i : ℕ) → i < o → get_or e i 0 ≡ get_or d i 0)
      → ((i : ℕ) → i < n → get_or e (o + i) 0 ≡ g i)
      → ((i : ℕ) → o + n ≤ i → get_or e i 0 ≡ get_or d i 0)
      → e ≡ put d o n g
  put_is e l before at after =
      ext_get_or 0 e (put d o n g) (l ∙ sym (put_length d o n g room)) (λ i _.
      ⊎_elim (λ (h : i < o). before i h ∙ sym (put_before i h))
      (λ (h : o ≤ i). ⊎_elim
      (λ (k : i < o + n).
      let p : o + (i - o) ≡ i = omega arith in
      ap (λ (j : ℕ). get_or e j 0) (sym p) ∙ at (i - o) (omega arith) ∙ sym (put_at d o n g (i - o) (omega arith) (omega arith)) ∙ ap (λ (j : ℕ). get_or (put d o n g) j 0) p)
      (λ (k : o + n ≤ i). after i k ∙ sym (put_after i k))
      (lt_or_le i (o + n)))
      (lt_or_le i o))

-- d is d₀ with the first r of the h rows of f, each w wide, written from o on
pub record RowsAt (d₀ : List ℕ) (o w h : ℕ) (f : ℕ → ℕ → ℕ) (r : ℕ) (d : List ℕ) : Type 0 where
  pub upto : r ≤ h
  pub room : o + h * w ≤ length d₀
  pub len : length d ≡ length d₀
  pub is : d ≡ put d₀ o (r * w) (by_rows w f)

pub rows_at_none : (d₀ : List ℕ) (o w h : ℕ) (f : ℕ → ℕ → ℕ) → o + h * w ≤ length d₀ → RowsAt d₀ o w h f 0 d₀
rows_at_none d₀ o w h f b =
    record {
      upto = omega arith;
      room = b;
      len = refl;
      is = sym (ap (λ (k : ℕ). put d₀ o k (by_rows w f)) (zero-mul w) ∙ put_zero d₀ o (by_rows w f));
    }

-- the next row has room
pub rows_at_room : {d₀ d : List ℕ} {o w h r : ℕ} {f : ℕ → ℕ → ℕ} → RowsAt d₀ o w h f r d → r < h → o + r * w + w ≤ length d
rows_at_room {w = w} {r = r} inv b = omega (arith, mul-le-mul_right w b, inv.room, inv.len)

-- what was not written yet is as it was
pub rows_at_rest : {d₀ d : List ℕ} {o w h r : ℕ} {f : ℕ → ℕ → ℕ} → RowsAt d₀ o w h f r d → (i : ℕ) → o + r * w ≤ i → get_or d i 0 ≡ get_or d₀ i 0
rows_at_rest {d₀} {d} {o} {w} {h} {r} {f} inv i b =
    ap (λ (l : List ℕ). get_or l i 0) inv.is ∙ put_after d₀ o (r * w) (by_rows w f) (omega (arith, mul-le-mul_right w inv.upto, inv.room)) i b

pub rows_at_front : {d₀ d : List ℕ} {o w h r : ℕ} {f : ℕ → ℕ → ℕ} → RowsAt d₀ o w h f r d → (i : ℕ) → i < o → get_or d i 0 ≡ get_or d₀ i 0
rows_at_front {d₀} {d} {o} {w} {h} {r} {f} inv i b =
    ap (λ (l : List ℕ). get_or l i 0) inv.is ∙ put_before d₀ o (r * w) (by_rows w f) (omega (arith, mul-le-mul_right w inv.upto, inv.room)) i b

pub rows_at_more : {d₀ d e : List ℕ} {o k w h r : ℕ} {f : ℕ → ℕ → ℕ} {g : ℕ → ℕ} → RowsAt d₀ o w h f r d → r < h → k ≡ o + r * w → e ≡ put d k w g
    → ((c : ℕ) → c < w → g c ≡ f c r) → RowsAt d₀ o w h f (r + 1) e
rows_at_more {d₀} {d} {e} {o} {k} {w} {h} {r} {f} {g} inv b at p q =
    let fits : o + r * w + w ≤ length d = rows_at_room inv b in
    let more : r * w + w ≡ (r + 1) * w = omega arith in
    let p' : e ≡ put d (o + r * w) w g = p ∙ ap (λ (j : ℕ). put d j w g) at in
    record {
      upto = omega arith;
      room = inv.room;
      len = ap length p' ∙ put_length d (o + r * w) w g fits ∙ inv.len;
      is = p' ∙ ap (λ (l : List ℕ). put l (o + r * w) w g) inv.is
          ∙ put_put d₀ o (r * w) w (by_rows w f) g (omega (arith, inv.len)) (λ c l. by_rows_at w f c r l ∙ sym (q c l))
          ∙ ap (λ (j : ℕ). put d₀ o j (by_rows w f)) more;
    }

pub rows_at_done : {d₀ d : List ℕ} {o w h r : ℕ} {f : ℕ → ℕ → ℕ} → RowsAt d₀ o w h f r d → h ≤ r → d ≡ put d₀ o (h * w) (by_rows w f)
rows_at_done {d₀} {d} {o} {w} {h} {r} {f} inv b = inv.is ∙ ap (λ (k : ℕ). put d₀ o (k * w) (by_rows w f)) (le_antisymm inv.upto b)

-- an element of the row r of rows that were put
pub rows_at_at : (d : List ℕ) (o w h : ℕ) (f : ℕ → ℕ → ℕ) (c r : ℕ) → o ≤ length d → c < w → r < h → get_or (put d o (h * w) (by_rows w f)) (o + (r * w + c)) 0 ≡ f c r
rows_at_at d o w h f c r b p q = put_at d o (h * w) (by_rows w f) (r * w + c) b (omega (arith, mul-le-mul_right w q)) ∙ by_rows_at w f c r p

-- in a loop that stores elements from o on, what lies apart from them is as it was
pub filled_rest : {d₀ d : List ℕ} {o n i : ℕ} {g : ℕ → ℕ} → Filled d₀ o n g i d → (k : ℕ) → (k < o) ⊎ (o + n ≤ k) → get_or d k 0 ≡ get_or d₀ k 0
filled_rest {d₀} {d} {o} {n} {i} {g} inv k apart =
    let room : o + i ≤ length d₀ = omega (arith, inv.upto, inv.room) in
    ap (λ (l : List ℕ). get_or l k 0) inv.is
    ∙ ⊎_elim (λ (h : k < o). put_before d₀ o i g room k h) (λ (h : o + n ≤ k). put_after d₀ o i g room k (omega (arith, inv.upto))) apart

-- a run apart from another has each of its places apart from it
pub each_apart : (from to n m : ℕ) → (from + n ≤ to) ⊎ (to + m ≤ from) → (i : ℕ) → i < n → (from + i < to) ⊎ (to + m ≤ from + i)
each_apart from to n m apart i h = ⊎_elim (λ a. inl (omega arith)) (λ a. inr (omega arith)) apart

-- the same of rows: a row apart from all of them lies apart from each, and is as it was
pub row_apart : (from to w n r : ℕ) → r < n → (from + w ≤ to) ⊎ (to + n * w ≤ from) → (from + w ≤ to + r * w) ⊎ (to + r * w + w ≤ from)
row_apart from to w n r h apart = ⊎_elim (λ a. inl (omega arith)) (λ a. inr (omega (arith, mul-le-mul_right w h))) apart

pub rows_at_apart : {d₀ d : List ℕ} {o w h r : ℕ} {f : ℕ → ℕ → ℕ} → RowsAt d₀ o w h f r d → (from : ℕ) → (from + w ≤ o) ⊎ (o + h * w ≤ from)
    → (x : ℕ) → x < w → get_or d (from + x) 0 ≡ get_or d₀ (from + x) 0
rows_at_apart {w = w} inv from apart x l =
    ⊎_elim (λ a. rows_at_front inv (from + x) (omega arith)) (λ a. rows_at_rest inv (from + x) (omega (arith, mul-le-mul_right w inv.upto))) apart
