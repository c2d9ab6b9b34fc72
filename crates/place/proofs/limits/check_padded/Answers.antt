-- `place::limits::check_padded` meets its contract: the tests stand in the code in the order of the list. Assumes nothing.
use Rattle.std.proofs.Common.{◌≡◌, true, lt-ltb, le-ltb}
use Rattle.place.specs.Refusal.{bad_stride, padded_refusal}
use Rattle.place.proofs.Refused.{hit, miss, none, via}
use Rattle.place.proofs.limits.check_padded.Goals as goal

pub returns-then-bad_sides : goal.returns-then-bad_sides
unfolding padded_refusal
returns-then-bad_sides c = hit _ (via c.bad_sides.ensures c.if-bad_sides.true)

pub returns-then-g-gt-MAX_PAD : goal.returns-then-g-gt-MAX_PAD
unfolding padded_refusal
returns-then-g-gt-MAX_PAD c = miss 1 _ (via c.bad_sides.ensures c.if-bad_sides.false) (hit _ (lt-ltb _ _ c.if-g-gt-MAX_PAD.true))

pub returns-then-g : goal.returns-then-g
unfolding padded_refusal
returns-then-g c =
    let g = c.args.g in
    let out : bad_stride g.pw g.pad g.stride ≡ true = c.if-g.true in
    miss 1 _ (via c.bad_sides.ensures c.if-bad_sides.false) (miss 1 _ (le-ltb _ _ c.if-g-gt-MAX_PAD.false) (hit _ out))

pub returns-then-len-g : goal.returns-then-len-g
unfolding padded_refusal
returns-then-len-g c =
    miss 1 _ (via c.bad_sides.ensures c.if-bad_sides.false)
    (miss 1 _ (le-ltb _ _ c.if-g-gt-MAX_PAD.false) (miss 1 _ c.if-g.false (hit _ (lt-ltb _ _ c.if-len-g.true))))

pub returns : goal.returns
unfolding padded_refusal
returns c =
    miss 1 _ (via c.bad_sides.ensures c.if-bad_sides.false)
    (miss 1 _ (le-ltb _ _ c.if-g-gt-MAX_PAD.false) (miss 1 _ c.if-g.false (miss 2 _ (le-ltb _ _ c.if-len-g.false) none)))
