-- `kernels::predict::luma_between` meets its contract: the second anchor, averaged with the local block of the first. Assumes nothing.
use mathlib.Core.Path.{refl, ap₂, ◌∙◌}
use native.Mathlib.Omega.{arith}
use Rattle.grid.proofs.Fill.{drawn_ext}
use Rattle.samples.specs.Tap.{mean}
use Rattle.kernels.proofs.Phases.{local_at}
use Rattle.kernels.proofs.predict.luma_between.Goals as goal

pub returns : goal.returns
returns c =
    c.mixed_anchor.ensures
    ∙ drawn_ext _ _ _ _ _ (λ x r i j. ap₂ mean (local_at _ _ _ _ c.anchor_block.ensures x r (omega arith) j) refl)
