-- The four weights of a chroma sample sum to 64, so a weighted sum of bytes fits 16 bits. Assumes nothing.
use mathlib.Core.Path.{◌≡◌, ap}
use Prim.Native.Nat.{ℕ, ◌+◌, ◌*◌, ◌≤◌, ◌<◌}
use native.Mathlib.Nat.{mul-le-mul_left}
use native.Mathlib.Omega.{arith}

-- u and v are 8 less x and y
pub record Weighed (x y u v a b c d : ℕ) : Type 0 where
  pub weights : u * v + x * v + u * y + x * y ≡ 64
  pub sum : u * v * a + x * v * b + u * y * c + x * y * d ≤ 16320

pub weighed : (x y u v a b c d : ℕ) → u + x ≡ 8 → v + y ≡ 8 → a < 256 → b < 256 → c < 256 → d < 256 → Weighed x y u v a b c d
weighed x y u v a b c d across down p q r s =
    let total : u * v + x * v + u * y + x * y ≡ 64 = omega (arith, ap (λ (k : ℕ). k * v) across, ap (λ (k : ℕ). k * y) across) in
    record {
      weights = total;
      sum = omega (arith, mul-le-mul_left (u * v) p, mul-le-mul_left (x * v) q, mul-le-mul_left (u * y) r, mul-le-mul_left (x * y) s);
    }
