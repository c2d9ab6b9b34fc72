-- `edge::check_edge` meets its contract: the tests stand in the code in the order of the list. Assumes nothing.
use Rattle.std.proofs.Common.{◌≡◌, true, false}
use Rattle.place.specs.Refusal.{bad_position}
use Rattle.place.proofs.Refused.{hit, miss, none, via}
use Rattle.edge.specs.Edge.{edge_refusal}
use Rattle.edge.proofs.check_edge.Goals as goal

pub returns-then-bad_sides : goal.returns-then-bad_sides
unfolding edge_refusal
returns-then-bad_sides c = hit _ (via c.bad_sides.ensures c.if-bad_sides.true)

pub returns-then-bad_block : goal.returns-then-bad_block
unfolding edge_refusal
returns-then-bad_block c = miss 1 _ (via c.bad_sides.ensures c.if-bad_sides.false) (hit _ (via c.bad_block.ensures c.if-bad_block.true))

pub returns-then-bad_position : goal.returns-then-bad_position
unfolding edge_refusal
returns-then-bad_position c =
    let far : bad_position c.args.block.x c.args.block.y ≡ true = via c.bad_position.ensures c.if-bad_position.true in
    miss 1 _ (via c.bad_sides.ensures c.if-bad_sides.false) (miss 3 _ (via c.bad_block.ensures c.if-bad_block.false) (hit _ far))

pub returns : goal.returns
unfolding edge_refusal
returns c =
    let near : bad_position c.args.block.x c.args.block.y ≡ false = via c.bad_position.ensures c.if-bad_position.false in
    miss 1 _ (via c.bad_sides.ensures c.if-bad_sides.false) (miss 3 _ (via c.bad_block.ensures c.if-bad_block.false) (miss 4 _ near none))
