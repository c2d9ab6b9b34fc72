-- The tests of what is lent, of the output, of the place, and of the width.
use Rattle.std.proofs.Common.{◌&&◌, [], ◌∙◌, ap₂, arith, rules, lt-ltb, to_z-of_z}
use mir.Val.{SFits}
use mir.Syntax.{w32}
use Rattle.std.proofs.lemmas.Result.{err_from_is_err_and}
use Rattle.place.proofs.Refused.{hit, miss, none, first, via, area}
use Rattle.planes.proofs.Laws.{above_zero}
use Rattle.served.specs.Served.{at_full, at_quarter, block_refusal}
use Rattle.served.proofs.Laws.{same_test, lent_ok, lent_then, room_then, place_then, sooner}
use Rattle.served.proofs.check_block.Goals as goal

pub returns-in_err-check_lent : goal.returns-in_err-check_lent
unfolding block_refusal
returns-in_err-check_lent c =
    let p = err_from_is_err_and c.from_residual.result c.from_residual.ensures.1 in
    rw (p.1, p.2) (sooner _ _ _ _ _ _ _ _ _ _ _ _ _ _ _ _ _ (first _ _ _ c.in_err-check_lent.ensures (above_zero _)) (above_zero _))

pub overflow_mul-block : goal.overflow_mul-block
overflow_mul-block c =
    let b = c.args.block in
    let ok = lent_ok _ _ _ _ _ _ _ _ _ _ _ c.in_ok-check_lent.ensures in
    omega (arith, area 16 b.w b.h 16 ok.bw2 ok.bh2)

pub returns-then-out-block : goal.returns-then-out-block
unfolding block_refusal
returns-then-out-block c =
    sooner _ _ _ _ _ _ _ _ _ _ _ _ _ _ _ _ _ (lent_then _ _ _ _ _ _ _ _ _ _ _ _ _ c.in_ok-check_lent.ensures (hit [] (lt-ltb _ _ c.if-out-block.true))) (λ e. omega (arith, e))

pub check_place-requires : goal.check_place-requires
check_place-requires c = omega (arith, lent_ok _ _ _ _ _ _ _ _ _ _ _ c.in_ok-check_lent.ensures)

pub returns-in_err-check_place : goal.returns-in_err-check_place
unfolding block_refusal
returns-in_err-check_place c =
    let p = err_from_is_err_and c.from_residual-in_err-check_place.result c.from_residual-in_err-check_place.ensures.1 in
    let wx : SFits w32 c.args.block.mv.x = search rules in
    let wy : SFits w32 c.args.block.mv.y = search rules in
    let fx = simp (to_z-of_z wx) at c.phase-fx.ensures.0 in
    let fy = simp (to_z-of_z wy) at c.phase-fy.ensures.0 in
    let full = c.at_full.ensures ∙ ap₂ at_full fx fy in
    rw (p.1, p.2) (first _ _ _ (room_then _ _ _ _ _ _ _ _ _ _ _ _ _ _ c.in_ok-check_lent.ensures c.if-out-block.false (same_test _ _ _ _ _ _ c.in_err-check_place.ensures full)) (above_zero _))

pub bad_width-requires : goal.bad_width-requires
bad_width-requires c = omega (arith, lent_ok _ _ _ _ _ _ _ _ _ _ _ c.in_ok-check_lent.ensures)

pub returns-then-at_quarter-bad_width : goal.returns-then-at_quarter-bad_width
unfolding block_refusal
returns-then-at_quarter-bad_width c =
    let wx : SFits w32 c.args.block.mv.x = search rules in
    let wy : SFits w32 c.args.block.mv.y = search rules in
    let fx = simp (to_z-of_z wx) at c.phase-fx.ensures.0 in
    let fy = simp (to_z-of_z wy) at c.phase-fy.ensures.0 in
    let full = c.at_full.ensures ∙ ap₂ at_full fx fy in
    let width = ap₂ ◌&&◌ (c.at_quarter.ensures ∙ ap₂ at_quarter fx fy) c.bad_width.ensures in
    place_then _ _ _ _ _ _ _ _ _ _ _ _ _ _ _ _ _ c.in_ok-check_lent.ensures c.if-out-block.false (same_test _ _ _ _ _ _ c.in_ok-check_place.ensures full)
    (hit [] (via width c.if-at_quarter-bad_width.true))

pub returns : goal.returns
unfolding block_refusal
returns c =
    let wx : SFits w32 c.args.block.mv.x = search rules in
    let wy : SFits w32 c.args.block.mv.y = search rules in
    let fx = simp (to_z-of_z wx) at c.phase-fx.ensures.0 in
    let fy = simp (to_z-of_z wy) at c.phase-fy.ensures.0 in
    let full = c.at_full.ensures ∙ ap₂ at_full fx fy in
    let width = ap₂ ◌&&◌ (c.at_quarter.ensures ∙ ap₂ at_quarter fx fy) c.bad_width.ensures in
    place_then _ _ _ _ _ _ _ _ _ _ _ _ _ _ _ _ _ c.in_ok-check_lent.ensures c.if-out-block.false (same_test _ _ _ _ _ _ c.in_ok-check_place.ensures full)
    (miss 6 [] (via width c.if-at_quarter-bad_width.false) none)
