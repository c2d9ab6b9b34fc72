-- The tests of the padded plane, then those of the other three.
use Rattle.std.proofs.Common.{◌≡◌, ◌+◌, ◌*◌, ◌∙◌, arith, rules}
use Rattle.place.proofs.Refused.{area}
use Rattle.terms.specs.Refusal.{number_of, answered}
use Rattle.planes.proofs.Laws.{pad_ok, build_first, one_short, none_short}
use Rattle.planes.proofs.check_build.Goals as goal

pub returns-in_err-check_pad : goal.returns-in_err-check_pad
returns-in_err-check_pad c =
    let sent : answered c.from_residual.result ≡ number_of c.in_err-check_pad.field-0.0 = search rules in
    sent ∙ build_first _ _ _ _ _ _ _ _ _ c.in_err-check_pad.ensures

pub overflow_mul-need : goal.overflow_mul-need
overflow_mul-need c = omega (arith, pad_ok _ _ _ _ _ c.in_ok-check_pad.ensures)

pub overflow_add-need : goal.overflow_add-need
overflow_add-need c = omega (arith, pad_ok _ _ _ _ _ c.in_ok-check_pad.ensures)

pub overflow_mul-need-2 : goal.overflow_mul-need-2
overflow_mul-need-2 c = omega (arith, pad_ok _ _ _ _ _ c.in_ok-check_pad.ensures)

pub overflow_add-need-2 : goal.overflow_add-need-2
overflow_add-need-2 c = omega (arith, pad_ok _ _ _ _ _ c.in_ok-check_pad.ensures)

pub overflow_mul-need-3 : goal.overflow_mul-need-3
overflow_mul-need-3 c =
    let w = c.args.plane.w + 2 * c.args.pad in
    let h = c.args.plane.h + 2 * c.args.pad in
    let ok = pad_ok _ _ _ _ _ c.in_ok-check_pad.ensures in
    omega (arith, area 8448 w h 8448 (omega (arith, ok)) (omega (arith, ok)))

pub returns-then-short : goal.returns-then-short
returns-then-short c = one_short _ _ _ _ _ _ _ _ c.in_ok-check_pad.ensures c.if-short.true

pub returns : goal.returns
returns c = none_short _ _ _ _ _ _ _ _ c.in_ok-check_pad.ensures c.if-short.false
