-- The median is the middle by order: the order of the three does not count, and of three in order it is the one between.
-- Assumes nothing.
use Rattle.std.proofs.Common.{◌≡◌, ℕ, ◌+◌, ◌<◌, ◌≤◌, min, max, T, ℤ, subst, ⊎_elim, arith, leb→le}
use lib.Signed.{le_z}
use Rattle.signed.specs.Order.{min_z, max_z}
use Rattle.signed.proofs.Diff.{lt_or_le}
use Rattle.signed.proofs.Linear.{diff, linear, diff_same, diff_le, all3}
use Rattle.vectors.specs.Median.{median}

-- THE BRIDGE: the median of three numbers from one start
pub median_up : (B x y z : ℕ) → median (diff x B) (diff y B) (diff z B) ≡ diff (x + y + z) (B + min x (min y z) + max x (max y z))
unfolding median
median_up B x y z = simp linear (diff_same _ _ _ _ (omega arith))

min_swap : (x y z : ℕ) → min x (min y z) ≡ min y (min x z)
min_swap x y z = omega arith

max_swap : (x y z : ℕ) → max x (max y z) ≡ max y (max x z)
max_swap x y z = omega arith

min_turn : (y z : ℕ) → min y z ≡ min z y
min_turn y z = omega arith

max_turn : (y z : ℕ) → max y z ≡ max z y
max_turn y z = omega arith

pub median_swap : (a b c : ℤ) → median a b c ≡ median b a c
median_swap =
    all3 (λ a b c. median a b c ≡ median b a c)
    (λ B x y z. rw (median_up B x y z, median_up B y x z, min_swap x y z, max_swap x y z) (diff_same _ _ _ _ (omega arith)))

pub median_turn : (a b c : ℤ) → median a b c ≡ median a c b
median_turn =
    all3 (λ a b c. median a b c ≡ median a c b)
    (λ B x y z. rw (median_up B x y z, median_up B x z y, min_turn y z, max_turn y z) (diff_same _ _ _ _ (omega arith)))

pub median_sorted : (a b c : ℤ) → T (le_z a b) → T (le_z b c) → median a b c ≡ b
median_sorted =
    all3 (λ a b c. T (le_z a b) → T (le_z b c) → median a b c ≡ b)
    (λ B x y z s t.
    let h : x + B ≤ y + B = leb→le (x + B) (y + B) (subst T (diff_le x B y B) s) in
    let k : y + B ≤ z + B = leb→le (y + B) (z + B) (subst T (diff_le y B z B) t) in
    rw (median_up B x y z) (diff_same _ _ _ _ (omega arith)))

-- the middle by order, in one formula: the greater of the lesser two and of what is left under the greater two
middle_sum : (x y z : ℕ) → x + y + z ≡ max (min x y) (min (max x y) z) + (min x (min y z) + max x (max y z))
middle_sum x y z = ⊎_elim (λ h. below h) (λ h. above h) (lt_or_le x y)
  where
    below : x < y → x + y + z ≡ max (min x y) (min (max x y) z) + (min x (min y z) + max x (max y z))
    below h = rw (low, high) (omega arith)
      where
        low : min x y ≡ x
        low = omega arith

        high : max x y ≡ y
        high = omega arith

    above : y ≤ x → x + y + z ≡ max (min x y) (min (max x y) z) + (min x (min y z) + max x (max y z))
    above h = rw (low, high) (omega arith)
      where
        low : min x y ≡ y
        low = omega arith

        high : max x y ≡ x
        high = omega arith

pub median_middle : (a b c : ℤ) → median a b c ≡ max_z (min_z a b) (min_z (max_z a b) c)
median_middle =
    all3 (λ a b c. median a b c ≡ max_z (min_z a b) (min_z (max_z a b) c))
    (λ B x y z. rw (median_up B x y z) (simp linear (diff_same _ _ _ _ (last x y z B (middle_sum x y z)))))
  where
    last : (x y z B : ℕ) → x + y + z ≡ max (min x y) (min (max x y) z) + (min x (min y z) + max x (max y z)) → x + y + z + B ≡ max (min x y) (min (max x y) z) + (B + min x (min y z) + max x (max y z))
    last x y z B e = shift _ _ _ _ _ e
      where
        shift : (t m l h B : ℕ) → t ≡ m + (l + h) → t + B ≡ m + (B + l + h)
        shift t m l h B e = omega arith
