-- What `mc_luma_padded_pre` gives and leaves: the answer and the block of `mc_luma_padded`; the scratch is as it was after a refusal, and free after 0. Assumes nothing.
use Rattle.std.specs.Prelude.{◌≡◌, List, ℕ, ℤ, length}
use Rattle.grid.specs.Block.{drawn}
use Rattle.place.specs.Refusal.{padded_block_refusal}
use Rattle.place.specs.Outcome.{after}
use Rattle.window.specs.Padded.{padded_luma}

-- t, a, b and out at the call, and t', a', b' and out' at the return
pub record Predicted (t a b padded : List ℕ) (stride pad pw ph x0 y0 bw bh : ℕ) (mvx mvy : ℤ) (out t' a' b' out' : List ℕ) (r : ℕ) : Type 0 where
  pub answer : r ≡ padded_block_refusal 16 (length padded) pw ph pad stride x0 y0 bw bh (length out)
  pub block : out' ≡ after r out (drawn out bw bh (padded_luma padded stride pad pw ph x0 y0 bw bh mvx mvy))
  pub tile : t' ≡ after r t t'
  pub first : a' ≡ after r a a'
  pub second : b' ≡ after r b b'
