-- `padded::check_lent` meets its contract: the tests of the block, then those of the scratch. Assumes nothing.
use Rattle.std.proofs.Common.{◌≡◌, ℕ, ◌<◌, ◌≤◌, [], ◌∷◌, ◌++◌, ◌∙◌, lt-ltb, le-ltb}
use Rattle.place.specs.Refusal.{short, lowest, padded_tests, block_tests, padded_block_refusal}
use Rattle.place.proofs.Refused.{hit, miss, none, first, second, above_zero, handed}
use Rattle.window.specs.Padded.{slices_refusal}
use Rattle.padded.proofs.check_lent.Goals as goal

-- where nothing of the block is refused, the answer is that of the scratch's tests
scratch : (tile a b len w h pad stride x y bw bh out m : ℕ) → 0 ≡ padded_block_refusal 16 len w h pad stride x y bw bh out
    → m ≡ lowest ((5, short tile 441) ∷ (5, short a 256) ∷ (5, short b 256) ∷ []) → m ≡ slices_refusal tile a b len w h pad stride x y bw bh out
unfolding slices_refusal padded_block_refusal
scratch tile a b len w h pad stride x y bw bh out m e p = second (padded_tests len w h pad stride ++ block_tests 16 x y bw bh out) _ m tt e p

pub returns-in_err-check_padded_block : goal.returns-in_err-check_padded_block
unfolding slices_refusal padded_block_refusal
returns-in_err-check_padded_block c =
    let e = c.in_err-check_padded_block.field-0.0 in
    handed _ e c.from_residual.ensures.1 ∙ first _ _ _ c.in_err-check_padded_block.ensures (above_zero e)

pub returns-then-tile-lt-TILE : goal.returns-then-tile-lt-TILE
returns-then-tile-lt-TILE c = scratch _ _ _ _ _ _ _ _ _ _ _ _ _ 5 c.in_ok-check_padded_block.ensures (hit _ (lt-ltb _ _ c.if-tile-lt-TILE.true))

pub returns-then-a-lt-ANCHOR : goal.returns-then-a-lt-ANCHOR
returns-then-a-lt-ANCHOR c =
    scratch _ _ _ _ _ _ _ _ _ _ _ _ _ 5 c.in_ok-check_padded_block.ensures
    (miss 5 _ (le-ltb _ _ c.if-tile-lt-TILE.false) (hit _ (lt-ltb _ _ c.if-a-lt-ANCHOR.true)))

pub returns-then-b-lt-ANCHOR : goal.returns-then-b-lt-ANCHOR
returns-then-b-lt-ANCHOR c =
    let short : c.args.b < 256 = c.if-b-lt-ANCHOR.true in
    scratch _ _ _ _ _ _ _ _ _ _ _ _ _ 5 c.in_ok-check_padded_block.ensures
    (miss 5 _ (le-ltb _ _ c.if-tile-lt-TILE.false) (miss 5 _ (le-ltb _ _ c.if-a-lt-ANCHOR.false) (hit _ (lt-ltb _ _ short))))

pub returns : goal.returns
returns c =
    let long : 256 ≤ c.args.b = c.if-b-lt-ANCHOR.false in
    scratch _ _ _ _ _ _ _ _ _ _ _ _ _ 0 c.in_ok-check_padded_block.ensures
    (miss 5 _ (le-ltb _ _ c.if-tile-lt-TILE.false) (miss 5 _ (le-ltb _ _ c.if-a-lt-ANCHOR.false) (miss 5 _ (le-ltb _ _ long) none)))
