-- `lists::Text::times`: what is left behind the star, the number and the point.
use Rattle.lists.proofs.Tails.{tail_after, tail_taken}
use Rattle.lists.proofs.Text.times.Goals as goal

pub returns-in_err-count : goal.returns-in_err-count
returns-in_err-count c = tail_after (tail_taken c.take.result c.take.ensures.left) c.decimal.ensures.left

pub returns-then-take : goal.returns-then-take
returns-then-take c =
    tail_after (tail_after (tail_taken c.take.result c.take.ensures.left) c.decimal.ensures.left) (tail_taken c.take-2.result c.take-2.ensures.left)

pub returns-else-take : goal.returns-else-take
returns-else-take c =
    tail_after (tail_after (tail_taken c.take.result c.take.ensures.left) c.decimal.ensures.left) (tail_taken c.take-2.result c.take-2.ensures.left)
