-- `chroma::mc_chroma` meets its contract: a refusal keeps `out`; what no refusal tells is what the block requires, and the samples nearest to its places are the standard's. Assumes nothing.
use Rattle.std.proofs.Common.{◌∙◌, arith}
use Rattle.grid.proofs.Loop.{last_row}
use Rattle.place.proofs.Refused.{plain_block_ok, handed, untouched}
use Rattle.route.proofs.Inside.{chroma_is}
use Rattle.chroma.proofs.Bridge.{near_predicted}
use Rattle.chroma.proofs.mc_chroma.Goals as goal

pub returns-in_err-check_plain_block : goal.returns-in_err-check_plain_block
returns-in_err-check_plain_block c =
    let e = c.in_err-check_plain_block.field-0.0 in
    rw (handed _ e c.from_residual.ensures.1) (c.in_err-check_plain_block.ensures, untouched e _ _)

pub of-aim-requires : goal.of-aim-requires
of-aim-requires c = omega (arith, plain_block_ok _ _ _ _ _ _ _ _ _ c.in_ok-check_plain_block.ensures)

pub predict_plain-requires : goal.predict_plain-requires
predict_plain-requires c =
    let p = c.args.plane in
    let ok = plain_block_ok _ _ _ _ _ _ _ _ _ c.in_ok-check_plain_block.ensures in
    rw (c.of-aim.ensures.4, c.of-aim.ensures.5) (omega (arith, ok, last_row p.w p.h ok.0.h1))

pub returns : goal.returns
returns c =
    let b = c.args.block in
    let e = c.of-aim.ensures in (
      c.in_ok-check_plain_block.ensures,
      c.predict_plain.ensures
          ∙ chroma_is _ _ _ _ _ _ _ _ _ _ _ _
          ∙ rw (e.4, e.5)
          (near_predicted _ _ _ _ _ _ _ _ b.mv.x b.mv.y (omega (arith, c.well_formed.1.0)) (omega (arith, c.well_formed.1.0)) e.0 e.1 e.2 e.3),
    )
