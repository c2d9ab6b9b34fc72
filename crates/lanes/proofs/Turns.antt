-- A turn of the loops that draw a block: a row, or two of them, stored out of lanes. Assumes nothing.
use mathlib.Core.Path.{◌≡◌, refl, ap, ◌∙◌}
use mathlib.Core.Bool.{true}
use mathlib.Core.List.{List}
use Prim.Native.Nat.{ℕ, ◌+◌, ◌*◌, ◌≤◌, ◌<◌}
use native.Mathlib.Omega.{arith}
use lib.ListN.{get_or}
use Rattle.grid.specs.Block.{by_rows}
use Rattle.grid.specs.Run.{put, narrow}
use Rattle.grid.proofs.Loop.{Rows, rows_more}
use Rattle.grid.proofs.Group.{narrow_small, rows_group, stored_group}

-- v is the block's width
pub row_stored : {d₀ d e : List ℕ} {w h r v : ℕ} {f : ℕ → ℕ → ℕ} (z : List ℕ) → Rows d₀ w h f r d → r < h → v ≡ w → w ≤ 16 → e ≡ put d (r * v) v (λ i. get_or z i 0)
    → ((c : ℕ) → c < 16 → get_or z c 0 ≡ f c r) → Rows d₀ w h f (r + 1) e
row_stored {d = d} {r = r} z inv b s k p q =
    rows_more inv b (p ∙ ap (λ (n : ℕ). put d (r * n) n (λ i. get_or z i 0)) s) (λ c a. q c (omega arith))

pub pair_stored : {d₀ d e : List ℕ} {w h : ℕ} {f : ℕ → ℕ → ℕ} (z : List ℕ) (i : ℕ) → Rows d₀ w h f (2 * i) d → 2 * i + 2 ≤ h → narrow w ≡ true
    → e ≡ put d (2 * i * w) (2 * w) (by_rows w (λ c j. get_or z (8 * j + c) 0)) → ((j c : ℕ) → j < 2 → c < 8 → get_or z (8 * j + c) 0 ≡ f c (2 * i + j))
    → Rows d₀ w h f (2 * (i + 1)) e
pair_stored {w = w} z i inv b n p q =
    rows_group inv b (stored_group _ z _ p q (narrow_small w n)) (λ c j x y. refl) (omega arith)
