-- `place::limits::check_plain_block` meets its contract: the tests of the plane in the order of the list, then those of the block. Assumes nothing.
use Rattle.std.proofs.Common.{lt-ltb, le-ltb}
use Rattle.place.specs.Refusal.{plain_block_refusal, block_refusal}
use Rattle.place.proofs.Refused.{hit, miss, via}
use Rattle.place.proofs.limits.check_plain_block.Goals as goal

pub returns-then-bad_sides : goal.returns-then-bad_sides
unfolding plain_block_refusal
returns-then-bad_sides c = hit _ (via c.bad_sides.ensures c.if-bad_sides.true)

pub returns-then-plane : goal.returns-then-plane
unfolding plain_block_refusal
returns-then-plane c = miss 1 _ (via c.bad_sides.ensures c.if-bad_sides.false) (hit _ (lt-ltb _ _ c.if-plane.true))

pub returns : goal.returns
unfolding plain_block_refusal block_refusal
returns c = miss 1 _ (via c.bad_sides.ensures c.if-bad_sides.false) (miss 2 _ (le-ltb _ _ c.if-plane.false) c.check_block.ensures)
