-- A comparison of an axis is its two tests, of a place 2^29 up.
use Rattle.std.proofs.Common.{arith, rules, to_z-of_z}
use mir.Val.{SFits}
use mir.Syntax.{w32}
use Rattle.place.proofs.Refused.{hit}
use Rattle.served.specs.Served.{place_tests}
use Rattle.served.proofs.Laws.{is_across, is_down, is_none}
use Rattle.served.proofs.check_place.Goals as goal

pub returns-then-unserved : goal.returns-then-unserved
unfolding place_tests
returns-then-unserved c = hit _ c.if-unserved.true

pub returns-then-across-x : goal.returns-then-across-x
returns-then-across-x c =
    let fx : SFits w32 c.args.block.mv.x = search rules in
    let fy : SFits w32 c.args.block.mv.y = search rules in
    let ex = simp (to_z-of_z fx) at c.at.ensures.0 in
    let ey = simp (to_z-of_z fy) at c.at-2.ensures.0 in
    let x = c.wrapping_sub_usize-x in
    let y = c.wrapping_sub_usize-y in
    let far = rw c.base-base.ensures at x.ensures.value in
    let low = rw c.base-base.ensures at y.ensures.value in
    is_across _ _ _ _ _ _ _ _ _ _ fx.sfits fy.sfits ex ey x.type_inv y.type_inv far low (omega arith)

pub returns-then-down-y : goal.returns-then-down-y
returns-then-down-y c =
    let fx : SFits w32 c.args.block.mv.x = search rules in
    let fy : SFits w32 c.args.block.mv.y = search rules in
    let ex = simp (to_z-of_z fx) at c.at.ensures.0 in
    let ey = simp (to_z-of_z fy) at c.at-2.ensures.0 in
    let x = c.wrapping_sub_usize-x in
    let y = c.wrapping_sub_usize-y in
    let far = rw c.base-base.ensures at x.ensures.value in
    let low = rw c.base-base.ensures at y.ensures.value in
    is_down _ _ _ _ _ _ _ _ _ _ fx.sfits fy.sfits ex ey x.type_inv y.type_inv far low (omega arith)

pub returns : goal.returns
returns c =
    let fx : SFits w32 c.args.block.mv.x = search rules in
    let fy : SFits w32 c.args.block.mv.y = search rules in
    let ex = simp (to_z-of_z fx) at c.at.ensures.0 in
    let ey = simp (to_z-of_z fy) at c.at-2.ensures.0 in
    let x = c.wrapping_sub_usize-x in
    let y = c.wrapping_sub_usize-y in
    let far = rw c.base-base.ensures at x.ensures.value in
    let low = rw c.base-base.ensures at y.ensures.value in
    is_none _ _ _ _ _ _ _ _ _ _ fx.sfits fy.sfits ex ey x.type_inv y.type_inv far low c.if-unserved.false (omega arith) (omega arith) (omega arith) (omega arith)
