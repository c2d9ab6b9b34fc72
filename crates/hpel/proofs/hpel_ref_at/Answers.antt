-- An answer of 0 is what `first_at` requires, and the code's place is the definition's, 2^29 up.
use Rattle.std.proofs.Common.{refl, ap, arith, rules}
use Rattle.std.proofs.lemmas.Result.{err_from_is_err_and}
use mir.Val.{SFits}
use mir.Syntax.{w32}
use Rattle.samples.specs.declared.phases.Phase.{Phase}
use Rattle.samples.proofs.Reach.{Near, phase_near}
use Rattle.planes.proofs.Laws.{above_zero}
use Rattle.served.proofs.Laws.{ref_ok}
use Rattle.hpel.specs.Lookup.{ref_at}
use Rattle.hpel.proofs.Laws.{cornered, first_asks, place_across, place_down, one_refused, one_served}
use Rattle.hpel.proofs.hpel_ref_at.Goals as goal

pub returns-in_err-check_ref : goal.returns-in_err-check_ref
unfolding ref_at
returns-in_err-check_ref c =
    let p = err_from_is_err_and c.from_residual.result c.from_residual.ensures.1 in
    rw (p.1, p.2) (one_refused _ _ _ _ _ _ c.in_err-check_ref.ensures (above_zero _))

pub place_of-pw-requires : goal.place_of-pw-requires
place_of-pw-requires c =
    let wx : SFits w32 c.args.block.mv.x = search rules in
    let wy : SFits w32 c.args.block.mv.y = search rules in
    let ok = ref_ok _ _ _ _ _ _ _ _ _ _ _ _ _ wx.sfits wy.sfits c.in_ok-check_ref.ensures in
    omega (arith, ok.0)

pub first_at-requires : goal.first_at-requires
first_at-requires c =
    let wx : SFits w32 c.args.block.mv.x = search rules in
    let wy : SFits w32 c.args.block.mv.y = search rules in
    let ok = ref_ok _ _ _ _ _ _ _ _ _ _ _ _ _ wx.sfits wy.sfits c.in_ok-check_ref.ensures in
    let b = c.args.block in
    let k = cornered c.args.cw c.args.pad b.x b.y b.mv.x b.mv.y c.place_of-pw.ensures in
    let near : Near c.anchors.result.p × Near c.anchors.result.q = rw c.anchors.ensures (phase_near _ _) in
    first_asks k _ _ _ _ _ _ _ ok c.anchors.result.p near.0

pub returns : goal.returns
unfolding ref_at
returns c =
    let wx : SFits w32 c.args.block.mv.x = search rules in
    let wy : SFits w32 c.args.block.mv.y = search rules in
    let b = c.args.block in
    let k = cornered c.args.cw c.args.pad b.x b.y b.mv.x b.mv.y c.place_of-pw.ensures in
    one_served _ c.in_ok-check_ref.ensures k.row (place_across k wx.sfits) (place_down k wy.sfits) (ap (λ (f : Phase). f.p) c.anchors.ensures)
    refl c.first_at.ensures
