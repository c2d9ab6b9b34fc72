-- The rounded average of two rows, document 01: any width, refusals 2 and 5 only. Assumes nothing.
use Rattle.std.specs.Prelude.{List, [], ◌∷◌, ℕ, get_or}
use Rattle.samples.specs.Tap.{mean}
use Rattle.place.specs.Refusal.{short, lowest}

unfoldable pub row_refusal : (a b w out : ℕ) → ℕ
row_refusal a b w out = lowest ((2, short a w) ∷ (2, short b w) ∷ (5, short out w) ∷ [])

unfoldable pub row_mean : (a b : List ℕ) (c r : ℕ) → ℕ
row_mean a b c r = mean (get_or a c 0) (get_or b c 0)
