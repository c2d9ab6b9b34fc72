-- Two names of one place. Assumes nothing.
use mathlib.Core.Path.{◌≡◌, ap}
use mathlib.Core.List.{List}
use Prim.Native.Nat.{ℕ}
use Rattle.grid.specs.Run.{from}
use Rattle.samples.specs.Tap.{half}

pub half_at : (t : List ℕ) (s : ℕ) {x y : ℕ} → x ≡ y → half 255 (from t x s) ≡ half 255 (from t y s)
half_at t s e = ap (λ (k : ℕ). half 255 (from t k s)) e
