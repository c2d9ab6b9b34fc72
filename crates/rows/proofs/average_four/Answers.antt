-- `rows::average_four`: four rows, written one after the other. Assumes nothing.
use mathlib.Core.Path.{◌≡◌, refl, ap, ◌∙◌}
use mathlib.Core.List.{List}
use Prim.Native.Nat.{ℕ, ◌+◌, ◌*◌, ◌<◌}
use native.Mathlib.Omega.{arith}
use lib.ListN.{get_or}
use Rattle.grid.specs.Run.{put}
use Rattle.grid.proofs.Loop.{Rows, rows_none, rows_more, rows_done}
use Rattle.samples.specs.Tap.{mean}
use Rattle.rows.proofs.average_four.Goals as goal

module _ (a b : List ℕ) (stride : ℕ) (d₀ : List ℕ) where
  abbrev Done : ℕ → List ℕ → Type 0
  Done = Rows d₀ 4 4 (λ x y. mean (get_or a (y * stride + x) 0) (get_or b (y * stride + x) 0))

  -- row r, of the samples from p on, written from o on
  next : {d e : List ℕ} {p o : ℕ} (r : ℕ) → Done r d → e ≡ put d o 4 (λ i. mean (get_or a (p + i) 0) (get_or b (p + i) 0)) → r < 4 → o ≡ r * 4 → p ≡ r * stride → Done (r + 1) e
  next {d} {e} {p} {o} r inv q h s t =
      rows_more inv h (q ∙ ap (λ (k : ℕ). put d k 4 (λ i. mean (get_or a (p + i) 0) (get_or b (p + i) 0))) s)
      (λ x l. ap (λ (k : ℕ). mean (get_or a (k + x) 0) (get_or b (k + x) 0)) t)

pub returns : goal.returns
returns c =
    let s = c.args in
    let a = s.a.now in
    let b = s.b.now in
    let k = s.stride in
    let d = s.dst.now in
    let r₁ = next a b k d 0 (rows_none _ _ _ _ (omega arith)) c.average_row.ensures (omega arith) refl (omega arith) in
    let r₂ = next a b k d 1 r₁ c.average_row-2.ensures (omega arith) refl (omega arith) in
    let r₃ = next a b k d 2 r₂ c.average_row-3.ensures (omega arith) refl (omega arith) in
    rows_done (next a b k d 3 r₃ c.average_row-4.ensures (omega arith) refl (omega arith)) (omega arith)
