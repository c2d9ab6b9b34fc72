-- The area that is read gives the definition.
use Rattle.std.proofs.Common.{◌^◌, ◌∙◌, w32, arith, rules}
use Rattle.window.proofs.Bridge.{small, chroma_seen}
use mir.Val.{SFits}
use Rattle.window.proofs.chroma_block.Goals as goal

pub look-seen-requires : goal.look-seen-requires
look-seen-requires c =
    let g = c.args.plane.g in
    let m = c.of-aim.result in
    (omega arith, (omega arith, small _ _ (2 ^ 28) m.x m.y m.w m.h g.pw g.ph g.pad (omega arith) c.reaches-whole.ensures))

pub returns : goal.returns
returns c =
    let g = c.args.plane.g in
    let b = c.args.block in
    let across : SFits w32 b.mv.x = search rules in
    let down : SFits w32 b.mv.y = search rules in
    let seen = c.look-seen.ensures in
    c.predict.ensures
    ∙ chroma_seen c.args.out.now c.args.plane.samples.now g.stride g.pad g.pw g.ph b.x b.y b.w b.h b.mv.x b.mv.y across.sfits down.sfits
    c.of-aim.ensures c.reaches-whole.ensures seen.place seen.source seen.block
