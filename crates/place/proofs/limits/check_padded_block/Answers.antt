-- `place::limits::check_padded_block` meets its contract: the tests of the plane, then those of the block. Assumes nothing.
use Rattle.std.proofs.Common.{◌∙◌}
use Rattle.place.specs.Refusal.{padded_block_refusal, padded_refusal, block_refusal}
use Rattle.place.proofs.Refused.{first, second, above_zero, handed}
use Rattle.place.proofs.limits.check_padded_block.Goals as goal

pub returns-in_err-check_padded : goal.returns-in_err-check_padded
unfolding padded_block_refusal padded_refusal block_refusal
returns-in_err-check_padded c =
    let e = c.in_err-check_padded.field-0.0 in
    handed _ e c.from_residual.ensures.1 ∙ first _ _ _ c.in_err-check_padded.ensures (above_zero e)

pub returns : goal.returns
unfolding padded_block_refusal padded_refusal block_refusal
returns c = second _ _ _ tt c.in_ok-check_padded.ensures c.check_block.ensures
