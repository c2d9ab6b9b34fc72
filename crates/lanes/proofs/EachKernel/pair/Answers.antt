-- `lanes::Each`'s pair: a turn makes a lane in both rows. Assumes nothing.
use Rattle.std.proofs.Common.{ℕ, ◌∙◌, ap, arith}
use Rattle.grid.proofs.Group.{lanes_set, lanes_next}
use Rattle.lanes.proofs.EachKernel.pair.Goals as goal

pub loop-c-preserved : goal.loop-c-preserved
loop-c-preserved g c =
    lanes_next
    (lanes_set
    (lanes_set c.loop-c.invariant (omega arith) (omega arith) (omega arith) (c.at.ensures ∙ ap (λ (x : ℕ). g.L.Lane.lane c.args.self.now.0 c.loop-c.c x) (omega arith)))
    (omega arith)
    (omega arith)
    (omega arith)
    c.at-in-loop-c.ensures)
    (omega arith)
