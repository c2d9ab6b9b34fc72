-- The tests stand in the code in the order of the list. A fact of an earlier test is named by what it says, and not by where it was tested.
use Rattle.std.proofs.Common.{◌≡◌, false, arith}
use Rattle.place.specs.Refusal.{bad_block}
use Rattle.place.proofs.Refused.{via}
use Rattle.served.proofs.Laws.{sides_refused, pad_refused, short_refused, block_refused, position_refused, none_refused}
use Rattle.served.proofs.check_lent.Goals as goal

pub returns-then-bad_sides : goal.returns-then-bad_sides
returns-then-bad_sides c = sides_refused _ _ _ _ _ _ _ _ _ _ _ (via c.bad_sides.ensures c.if-bad_sides.true)

pub returns-then-lent-gt-MAX_PAD : goal.returns-then-lent-gt-MAX_PAD
returns-then-lent-gt-MAX_PAD c = pad_refused _ _ _ _ _ _ _ _ _ _ _ (via c.bad_sides.ensures c.if-bad_sides.false) (omega arith)

pub returns-then-short : goal.returns-then-short
returns-then-short c = short_refused _ _ _ _ _ _ _ _ _ _ _ (via c.bad_sides.ensures c.if-bad_sides.false) (omega arith) c.if-short.true

pub returns-then-bad_block : goal.returns-then-bad_block
returns-then-bad_block c =
    block_refused _ _ _ _ _ _ _ _ _ _ _ (via c.bad_sides.ensures c.if-bad_sides.false) (omega arith) c.if-short.false
    (via c.bad_block.ensures c.if-bad_block.true)

pub returns-then-bad_position : goal.returns-then-bad_position
returns-then-bad_position c =
    let fits : bad_block 16 c.args.block.w c.args.block.h ≡ false = cc in
    position_refused _ _ _ _ _ _ _ _ _ _ _ (via c.bad_sides.ensures c.if-bad_sides.false) (omega arith) c.if-short.false fits
    (via c.bad_position.ensures c.if-bad_position.true)

pub returns : goal.returns
returns c =
    none_refused _ _ _ _ _ _ _ _ _ _ _ (via c.bad_sides.ensures c.if-bad_sides.false) (omega arith) c.if-short.false
    (via c.bad_block.ensures c.if-bad_block.false) (via c.bad_position.ensures c.if-bad_position.false)
