-- `kernels::predict::mixed_anchor` meets its contract: the half samples where their taps are, averaged. Assumes nothing.
use mathlib.Core.Path.{ap, ◌∙◌}
use Rattle.grid.proofs.Fill.{drawn_ext}
use Rattle.samples.specs.Tap.{mean}
use Rattle.kernels.proofs.Phases.{half_there}
use Rattle.kernels.proofs.predict.mixed_anchor.Goals as goal

pub returns : goal.returns
returns c =
    let v = c.args.v.now in
    let h = c.half_of-half.ensures in
    c.mixed_block.ensures
    ∙ drawn_ext _ _ _ _ _ (λ x r _ _. ap (mean _) (half_there c.args.k v.at v.stride _ _ (h.0, h.1) c.requires.0 c.requires.1 v.samples.now _ _ h.2 h.3 x r))
