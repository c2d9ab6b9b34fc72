-- `padded::mc_luma_padded` meets its contract: a refusal keeps `out`, and no refusal is what `luma_block` requires. Assumes nothing.
use Rattle.std.proofs.Common.{arith}
use Rattle.place.proofs.Refused.{padded_block_ok, handed, untouched}
use Rattle.padded.proofs.mc_luma_padded.Goals as goal

pub returns-in_err-check_padded_block : goal.returns-in_err-check_padded_block
returns-in_err-check_padded_block c =
    let e = c.in_err-check_padded_block.field-0.0 in
    rw (handed _ e c.from_residual.ensures.1) (c.in_err-check_padded_block.ensures, untouched e _ _)

pub invariant_of-plane : goal.invariant_of-plane
invariant_of-plane c =
    let ok = padded_block_ok _ _ _ _ _ _ _ _ _ _ _ c.in_ok-check_padded_block.ensures in
    record { wide = omega (arith, ok); high = omega (arith, ok); margin = omega (arith, ok); rows = omega (arith, ok); whole = omega (arith, ok) }

pub luma_block-requires : goal.luma_block-requires
luma_block-requires c = omega (arith, padded_block_ok _ _ _ _ _ _ _ _ _ _ _ c.in_ok-check_padded_block.ensures)

pub returns : goal.returns
returns c = (c.in_ok-check_padded_block.ensures, c.luma_block.ensures)
