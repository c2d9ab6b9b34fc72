-- What an answer of 0 tells, then the picture padded.
use Rattle.std.proofs.Common.{arith}
use Rattle.planes.proofs.Laws.{pad_ok}
use Rattle.planes.proofs.pad_plane.Goals as goal

pub draw_padded-requires : goal.draw_padded-requires
draw_padded-requires c = omega (arith, pad_ok _ _ _ _ _ c.in_ok-check_pad.ensures)

pub returns : goal.returns
returns c = (c.in_ok-check_pad.ensures, c.draw_padded.ensures)
