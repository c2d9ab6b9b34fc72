-- `lists::Text::read_numbers`: what is left behind a number and a space.
use Rattle.lists.proofs.Tails.{tail_after, tail_taken}
use Rattle.lists.proofs.Text.read_numbers.Goals as goal

pub loop-number-preserved : goal.loop-number-preserved
loop-number-preserved c =
    tail_after (tail_after c.loop-number.invariant c.signed_number.ensures.left) (tail_taken c.take.result c.take.ensures.left)
