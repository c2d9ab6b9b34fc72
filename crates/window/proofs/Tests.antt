-- The test of a block's reach in the code's unsigned numbers, and what it tells. Assumes nothing.
use mathlib.Core.Path.{◌≡◌, refl, sym, ap, ap₂, ◌∙◌}
use mathlib.Core.Bool.{Bool, true, ◌&&◌}
use Prim.Native.Nat.{ℕ, ◌+◌, ◌≤◌}
use native.Mathlib.Omega.{arith}
use lib.Dec.{leb}
use lib.IntN.{ℤ, sub_ℕ}
use borrow.Author.Tests.{leb-true}
use Rattle.signed.proofs.Linear.{diff, linear, diff_le}
use Rattle.samples.proofs.Reach.{both}
use Rattle.window.specs.Padded.{in_reach}

pub to_diff : (a o : ℕ) → sub_ℕ a o ≡ diff a o
unfolding diff
to_diff a o = refl

module _ (before behind a o b n pad : ℕ) where
  -- THE BRIDGE of the test, o up
  pub in_reach_is : in_reach before behind (sub_ℕ a o) b n pad ≡ leb (o + before) (a + pad) && leb (a + b + behind) (n + pad + o)
  unfolding in_reach
  in_reach_is =
      let e : before + (o + 0) ≡ o + before = omega arith in
      let f : a + pad + 0 ≡ a + pad = omega arith in
      let g : a + (b + behind) + 0 ≡ a + b + behind = omega arith in
      let k : n + pad + (o + 0) ≡ n + pad + o = omega arith in
      ap (λ (z : ℤ). in_reach before behind z b n pad) (to_diff a o)
      ∙ simp (linear, diff_le) (ap₂ (λ (s t : Bool). s && t) (ap₂ leb e f) (ap₂ leb g k))

  -- what a test that held tells
  pub reached : in_reach before behind (sub_ℕ a o) b n pad ≡ true → (o + before ≤ a + pad) × (a + b + behind ≤ n + pad + o)
  reached e =
      let p = both (leb (o + before) (a + pad)) (leb (a + b + behind) (n + pad + o)) (sym in_reach_is ∙ e) in
      (leb-true (o + before) (a + pad) p.0, leb-true (a + b + behind) (n + pad + o) p.1)
