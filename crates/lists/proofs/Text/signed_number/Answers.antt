-- `lists::Text::signed_number`: what is left behind the sign.
use Rattle.lists.proofs.Tails.{tail_after, tail_taken}
use Rattle.lists.proofs.Text.signed_number.Goals as goal

pub returns-in_err-decimal-clause-left : goal.returns-in_err-decimal-clause-left
returns-in_err-decimal-clause-left c = tail_after (tail_taken c.take.result c.take.ensures.left) c.decimal.ensures.left

pub returns-then-take-clause-left : goal.returns-then-take-clause-left
returns-then-take-clause-left c = tail_after (tail_taken c.take.result c.take.ensures.left) c.decimal.ensures.left
