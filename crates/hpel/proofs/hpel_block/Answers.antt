-- An answer of 0 is what the block's rows require.
use Rattle.std.proofs.Common.{◌&&◌, Bool, sym, ap, ap₂, ◌∙◌, arith, rules, to_z-of_z}
use mir.Val.{SFits}
use mir.Syntax.{w32}
use Rattle.samples.specs.declared.phases.Phase.{Phase}
use Rattle.samples.specs.Phase.{phase_of}
use Rattle.samples.proofs.Reach.{Near, phase_near}
use Rattle.served.specs.Served.{at_quarter, bad_width}
use Rattle.served.proofs.Laws.{block_ok, block_width}
use Rattle.hpel.proofs.Laws.{cornered, first_asks, averaged_width, picked, one_anchor, found_rows, found_view, found_averaged, found_copied}
use Rattle.hpel.proofs.hpel_block.Goals as goal

pub place_of-pw-requires : goal.place_of-pw-requires
place_of-pw-requires c =
    let wx : SFits w32 c.args.block.mv.x = search rules in
    let wy : SFits w32 c.args.block.mv.y = search rules in
    let ok = block_ok _ _ _ _ _ _ _ _ _ _ _ _ _ wx.sfits wy.sfits _ c.in_ok-check_block.ensures in
    omega (arith, ok.0.0)

pub first_at-i-requires : goal.first_at-i-requires
first_at-i-requires c =
    let wx : SFits w32 c.args.block.mv.x = search rules in
    let wy : SFits w32 c.args.block.mv.y = search rules in
    let ok = block_ok _ _ _ _ _ _ _ _ _ _ _ _ _ wx.sfits wy.sfits _ c.in_ok-check_block.ensures in
    let b = c.args.block in
    let k = cornered c.args.cw c.args.pad b.x b.y b.mv.x b.mv.y c.place_of-pw.ensures in
    let near : Near c.phase_at.result.p × Near c.phase_at.result.q = rw c.phase_at.ensures (phase_near _ _) in
    first_asks k _ _ _ _ _ _ _ ok.0 c.phase_at.result.p near.0

pub first_at-j-requires : goal.first_at-j-requires
first_at-j-requires c =
    let wx : SFits w32 c.args.block.mv.x = search rules in
    let wy : SFits w32 c.args.block.mv.y = search rules in
    let ok = block_ok _ _ _ _ _ _ _ _ _ _ _ _ _ wx.sfits wy.sfits _ c.in_ok-check_block.ensures in
    let b = c.args.block in
    let k = cornered c.args.cw c.args.pad b.x b.y b.mv.x b.mv.y c.place_of-pw.ensures in
    let near : Near c.phase_at.result.p × Near c.phase_at.result.q = rw c.phase_at.ensures (phase_near _ _) in
    first_asks k _ _ _ _ _ _ _ ok.0 c.phase_at.result.q near.1

-- of a quarter phase only widths that have averages are served, and the rows of both views are there
pub average_block-requires : goal.average_block-requires
average_block-requires c =
    let wx : SFits w32 c.args.block.mv.x = search rules in
    let wy : SFits w32 c.args.block.mv.y = search rules in
    let ok = block_ok _ _ _ _ _ _ _ _ _ _ _ _ _ wx.sfits wy.sfits _ c.in_ok-check_block.ensures in
    let b = c.args.block in
    let k = cornered c.args.cw c.args.pad b.x b.y b.mv.x b.mv.y c.place_of-pw.ensures in
    let near : Near c.phase_at.result.p × Near c.phase_at.result.q = rw c.phase_at.ensures (phase_near _ _) in
    let fx = simp (to_z-of_z wx) at c.phase-fx.ensures.0 in
    let fy = simp (to_z-of_z wy) at c.phase-fy.ensures.0 in
    let width = averaged_width b.w c.if-at_quarter.true
    (ap (λ (t : Bool). t && bad_width b.w) (c.at_quarter.ensures ∙ ap₂ at_quarter fx fy) ∙ block_width _ _ _ _ _ _ _ _ _ _ _ _ _ _ c.in_ok-check_block.ensures) in (
      width,
      found_view _ _ _ _ _ _ _ _ _ _ k wx.sfits wy.sfits _ _ _ ok.0 _ near.0 (picked _ _ _ _ _ c.phase_at.result.p.kind c.number.ensures, c.first_at-i.ensures) c.tail-a.ensures,
      found_view _ _ _ _ _ _ _ _ _ _ k wx.sfits wy.sfits _ _ _ ok.0 _ near.1 (picked _ _ _ _ _ c.phase_at.result.q.kind c.number-then-at_quarter.ensures, c.first_at-j.ensures) c.tail-b.ensures,
      ok.1,
    )

pub returns-then-at_quarter : goal.returns-then-at_quarter
returns-then-at_quarter c =
    let wx : SFits w32 c.args.block.mv.x = search rules in
    let wy : SFits w32 c.args.block.mv.y = search rules in
    let b = c.args.block in
    let k = cornered c.args.cw c.args.pad b.x b.y b.mv.x b.mv.y c.place_of-pw.ensures in
    let fx = simp (to_z-of_z wx) at c.phase-fx.ensures.0 in
    let fy = simp (to_z-of_z wy) at c.phase-fy.ensures.0 in (
      c.in_ok-check_block.ensures,
      found_averaged _ _ _ _ _ _ _ _ _ _ k wx.sfits wy.sfits _ _ _ _ (c.phase_at.ensures ∙ ap₂ phase_of fx fy)
          (picked _ _ _ _ _ c.phase_at.result.p.kind c.number.ensures, c.first_at-i.ensures) (picked _ _ _ _ _ c.phase_at.result.q.kind c.number-then-at_quarter.ensures, c.first_at-j.ensures) c.tail-a.ensures c.tail-b.ensures c.average_block.ensures,
    )

pub copy_block-requires : goal.copy_block-requires
copy_block-requires c =
    let wx : SFits w32 c.args.block.mv.x = search rules in
    let wy : SFits w32 c.args.block.mv.y = search rules in
    let ok = block_ok _ _ _ _ _ _ _ _ _ _ _ _ _ wx.sfits wy.sfits _ c.in_ok-check_block.ensures in
    let b = c.args.block in
    let k = cornered c.args.cw c.args.pad b.x b.y b.mv.x b.mv.y c.place_of-pw.ensures in
    let near : Near c.phase_at.result.p × Near c.phase_at.result.q = rw c.phase_at.ensures (phase_near _ _) in
    (found_rows _ _ _ _ _ _ _ _ _ _ k wx.sfits wy.sfits _ _ _ ok.0 _ near.0 (picked _ _ _ _ _ c.phase_at.result.p.kind c.number-2.ensures, c.first_at-i.ensures), ok.0.0.bw1, ok.0.0.bw2, ok.1)

-- full and half phases name one anchor twice
pub returns : goal.returns
returns c =
    let wx : SFits w32 c.args.block.mv.x = search rules in
    let wy : SFits w32 c.args.block.mv.y = search rules in
    let b = c.args.block in
    let k = cornered c.args.cw c.args.pad b.x b.y b.mv.x b.mv.y c.place_of-pw.ensures in
    let fx = simp (to_z-of_z wx) at c.phase-fx.ensures.0 in
    let fy = simp (to_z-of_z wy) at c.phase-fy.ensures.0 in
    let twice =
    ap (λ (f : Phase). f.p) c.phase_at.ensures ∙ one_anchor _ _ c.phase-fx.ensures.1 c.phase-fy.ensures.1 (sym c.at_quarter.ensures ∙ c.if-at_quarter.false)
    ∙ sym (ap (λ (f : Phase). f.q) c.phase_at.ensures) in (
      c.in_ok-check_block.ensures,
      found_copied _ _ _ _ _ _ _ _ _ _ k wx.sfits wy.sfits _ _ _ _ (c.phase_at.ensures ∙ ap₂ phase_of fx fy) (picked _ _ _ _ _ c.phase_at.result.p.kind c.number-2.ensures, c.first_at-i.ensures) twice c.copy_block.ensures,
    )
