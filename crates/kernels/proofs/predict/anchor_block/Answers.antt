-- `kernels::predict::anchor_block` meets its contract: the centre, or the half samples where their taps are. Assumes nothing.
use mathlib.Core.Path.{sym, ◌∙◌}
use native.Mathlib.Omega.{arith}
use Rattle.grid.proofs.Fill.{drawn_ext}
use Rattle.samples.proofs.Reach.{at_centre}
use Rattle.kernels.proofs.Phases.{half_there, half_in}
use Rattle.kernels.proofs.predict.anchor_block.Goals as goal

pub half_block-requires : goal.half_block-requires
half_block-requires c =
    let v = c.args.v.now in
    let h = c.half_of.ensures in
    rw (h.2, h.3) (omega (arith, half_in c.args.k v.at v.stride _ _ (h.0, h.1) c.requires.0 c.in_default.not-Centre c.args.size.h (omega arith) (omega arith) (omega arith)))

pub returns-in-Centre : goal.returns-in-Centre
returns-in-Centre c = c.luma_centre.ensures ∙ drawn_ext _ _ _ _ _ (λ x r _ _. sym (at_centre 255 _ c.args.k c.in-Centre.is))

pub returns-in_default : goal.returns-in_default
returns-in_default c =
    let v = c.args.v.now in
    let h = c.half_of.ensures in
    c.half_block.ensures
    ∙ drawn_ext _ _ _ _ _ (λ x r _ _. half_there c.args.k v.at v.stride _ _ (h.0, h.1) c.requires.0 c.in_default.not-Centre v.samples.now _ _ h.2 h.3 x r)
