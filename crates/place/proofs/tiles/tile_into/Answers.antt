-- Places are kept up by the base and the samples before the block.
use Rattle.place.proofs.tiles.tile_into.Goals as goal

pub returns : goal.returns
returns g c = rw c.base.ensures at c.clamped_area.ensures
