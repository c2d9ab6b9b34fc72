-- `place::limits::check_block` meets its contract: the tests stand in the code in the order of the list. Assumes nothing.
use Rattle.std.proofs.Common.{lt-ltb, le-ltb}
use Rattle.place.specs.Refusal.{block_refusal}
use Rattle.place.proofs.Refused.{hit, miss, none, via}
use Rattle.place.proofs.limits.check_block.Goals as goal

pub returns-then-bad_block : goal.returns-then-bad_block
unfolding block_refusal
returns-then-bad_block c = hit {n = 3} _ (via c.bad_block.ensures c.if-bad_block.true)

pub returns-then-bad_position : goal.returns-then-bad_position
unfolding block_refusal
returns-then-bad_position c = miss 3 _ (via c.bad_block.ensures c.if-bad_block.false) (hit {n = 4} _ (via c.bad_position.ensures c.if-bad_position.true))

pub returns-then-out-block : goal.returns-then-out-block
unfolding block_refusal
returns-then-out-block c =
    miss 3 _ (via c.bad_block.ensures c.if-bad_block.false)
    (miss 4 _ (via c.bad_position.ensures c.if-bad_position.false) (hit {n = 5} _ (lt-ltb _ _ c.if-out-block.true)))

pub returns : goal.returns
unfolding block_refusal
returns c =
    miss 3 _ (via c.bad_block.ensures c.if-bad_block.false)
    (miss 4 _ (via c.bad_position.ensures c.if-bad_position.false) (miss 5 _ (le-ltb _ _ c.if-out-block.false) none))
