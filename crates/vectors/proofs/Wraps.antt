-- The sum of three numbers of 32 bits less the smallest and the largest, each step modulo 2^32, is the median.
-- Assumes nothing.
use Rattle.std.proofs.Common.{◌≡◌, ◌+◌, ◌-◌, ◌%◌, ◌^◌, ℤ, pos, negsuc, ◌+ℤ◌, ◌-ℤ◌, Bool, true, false, cond, not, refl, ◌∙◌, arith, rules, w32, SFits, to_z, of_z}
use Rattle.std.specs.Int.{int_min, int_max, int_wrap}
use Rattle.std.specs.Int.Signed.{le_z, lt_z}
use mir.Val.{sel}
use Rattle.std.proofs.lemmas.Int.{wraps, int_wrap_fits}
use Rattle.std.proofs.lemmas.Bool.Decides.{nat_tests}
use Rattle.signed.specs.Order.{min_z, max_z}
use Rattle.vectors.specs.Median.{median}
use Rattle.vectors.proofs.MedianLaws.{median_middle}

-- std's tests and the definition's are the same
lt_is : (a b : ℤ) → lt_z b a ≡ not (le_z a b)
lt_is (pos m) (pos n) = grind (arith, nat_tests)
lt_is (pos m) (negsuc n) = refl
lt_is (negsuc m) (pos n) = refl
lt_is (negsuc m) (negsuc n) = grind (arith, nat_tests)

turned : (t : Bool) (a b : ℤ) → cond (not t) a b ≡ sel t b a
turned true a b = refl
turned false a b = refl

min_is : (a b : ℤ) → int_min a b ≡ min_z a b
min_is a b = rw (lt_is a b) (turned (le_z a b) b a)

max_is : (a b : ℤ) → int_max a b ≡ max_z a b
max_is a b = rw (lt_is a b) (turned (le_z a b) a b)

fits_sel : (t : Bool) (a b : ℤ) → SFits w32 a → SFits w32 b → SFits w32 (sel t a b)
fits_sel true a b f g = f
fits_sel false a b f g = g

fits_min : (a b : ℤ) → SFits w32 a → SFits w32 b → SFits w32 (min_z a b)
fits_min a b f g = fits_sel (le_z a b) a b f g

fits_max : (a b : ℤ) → SFits w32 a → SFits w32 b → SFits w32 (max_z a b)
fits_max a b f g = fits_sel (le_z a b) b a g f

-- it is one of the three
fits_median : (a b c : ℤ) → SFits w32 a → SFits w32 b → SFits w32 c → SFits w32 (median a b c)
fits_median a b c f g h =
    rw (median_middle a b c) (fits_max _ _ (fits_min a b f g) (fits_min _ _ (fits_max a b f g) h))

-- to wrap on the way changes nothing
steps : (a b c lo hi : ℤ) → SFits w32 a → SFits w32 b → SFits w32 c → SFits w32 lo → SFits w32 hi → to_z w32 (((((of_z w32 a + of_z w32 b) % 2 ^ 32 + of_z w32 c) % 2 ^ 32 + (2 ^ 32 - of_z w32 lo)) % 2 ^ 32 + (2 ^ 32 - of_z w32 hi)) % 2 ^ 32) ≡ int_wrap w32 (a +ℤ b +ℤ c -ℤ lo -ℤ hi)
steps a b c lo hi fa fb fc fl fh = search (rules, wraps)

is_median : (a b c m k lo hi : ℤ) → m ≡ int_min b c → lo ≡ int_min a m → k ≡ int_max b c → hi ≡ int_max a k → a +ℤ b +ℤ c -ℤ lo -ℤ hi ≡ median a b c
unfolding median
is_median a b c m k lo hi p l q h = rw (l, h, p, q, min_is b c, min_is a (min_z b c), max_is b c, max_is a (max_z b c))

pub median_wraps : (a b c m k lo hi : ℤ) → SFits w32 a → SFits w32 b → SFits w32 c → SFits w32 lo → SFits w32 hi → m ≡ int_min b c → lo ≡ int_min a m → k ≡ int_max b c → hi ≡ int_max a k → to_z w32 (((((of_z w32 a + of_z w32 b) % 2 ^ 32 + of_z w32 c) % 2 ^ 32 + (2 ^ 32 - of_z w32 lo)) % 2 ^ 32 + (2 ^ 32 - of_z w32 hi)) % 2 ^ 32) ≡ median a b c
median_wraps a b c m k lo hi fa fb fc fl fh p l q h =
    steps a b c lo hi fa fb fc fl fh ∙ rw (is_median a b c m k lo hi p l q h) (int_wrap_fits w32 _ (fits_median a b c fa fb fc))
