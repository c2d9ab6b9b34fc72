-- The tests stand in the code in the order of the list.
use Rattle.place.proofs.Refused.{refusing, hit, via}
use Rattle.planes.specs.Planes.{pad_refusal}
use Rattle.planes.proofs.check_pad.Goals as goal

pub returns-then-bad_sides : goal.returns-then-bad_sides
unfolding pad_refusal
returns-then-bad_sides c = hit _ (via c.bad_sides.ensures c.if-bad_sides.true)

pub returns-then-pad-gt-MAX_PAD : goal.returns-then-pad-gt-MAX_PAD
unfolding pad_refusal
returns-then-pad-gt-MAX_PAD c = search refusing depth 12

pub returns-then-plane : goal.returns-then-plane
unfolding pad_refusal
returns-then-plane c = search refusing depth 12

pub returns-then-out-plane : goal.returns-then-out-plane
unfolding pad_refusal
returns-then-out-plane c = search refusing depth 12

pub returns : goal.returns
unfolding pad_refusal
returns c = search refusing depth 12
