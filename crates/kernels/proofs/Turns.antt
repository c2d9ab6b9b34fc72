-- A turn of the loop that copies two rows. Assumes nothing.
use mathlib.Core.Path.{◌≡◌, refl, ap, ◌∙◌, subst}
use mathlib.Core.List.{List}
use Prim.Native.Nat.{ℕ, ◌+◌, ◌*◌, ◌≤◌}
use native.Mathlib.Omega.{arith}
use lib.ListN.{get_or}
use Rattle.grid.specs.Run.{put}
use Rattle.grid.proofs.Loop.{Rows, rows_more}

pub two_more : {d e l : List ℕ} {w h r s : ℕ} (d₀ t : List ℕ) (p ts : ℕ) → Rows d₀ w h (λ c r. get_or t (p + r * ts + c) 0) r d → r + 2 ≤ h
    → e ≡ put d (r * w) w (λ i. get_or t (p + r * ts + i) 0) → l ≡ put e (r * w + w) w (λ i. get_or t (p + r * ts + ts + i) 0) → r + 2 ≡ s → Rows d₀ w h (λ c r. get_or t (p + r * ts + c) 0) s l
two_more {d} {e} {l} {w} {h} {r} {s} d₀ t p ts inv b m n u =
    let o : r * w + w ≡ (r + 1) * w = omega arith in
    let q : r + 1 + 1 ≡ s = omega arith in
    subst (λ (k : ℕ). Rows d₀ w h (λ c r. get_or t (p + r * ts + c) 0) k l) q
    (rows_more (rows_more inv (omega arith) m (λ c i. refl)) (omega arith) (n ∙ ap (λ (k : ℕ). put e k w (λ i. get_or t (p + r * ts + ts + i) 0)) o)
    (λ c i. let s : p + r * ts + ts + c ≡ p + (r + 1) * ts + c = omega arith in ap (λ (k : ℕ). get_or t k 0) s))
