-- The kernels give the block.
use Rattle.route.proofs.component.LumaComponent4441.block.Goals as goal

pub returns : goal.returns
returns c = c.luma_block.ensures
