-- `lent::luma_arrays` meets its contract: the scratch's arrays are long enough. Assumes nothing.
use Rattle.std.proofs.Common.{◌∙◌, rules}
use Rattle.lent.proofs.Long.{long_scratch}
use Rattle.lent.proofs.luma_arrays.Goals as goal

pub returns : goal.returns
returns c =
    let e = c.mc_luma_padded_slices.ensures in
    record { answer = e.0 ∙ long_scratch _ _ _ _ _ _ _ _ _ _ _ _ _ (search rules) (search rules) (search rules); block = e.1; tile = e.2; first = e.3; second = e.4 }
