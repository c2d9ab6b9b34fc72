-- `lists::Text::take_comment`: what is behind a line's end is shorter, and a tail. Assumes nothing.
use Rattle.std.proofs.Common.{◌+◌, arith}
use Rattle.std.proofs.lemmas.List.{take_rest}
use Rattle.lists.proofs.Tails.{tail_dropped}
use Rattle.lists.proofs.Text.take_comment.Goals as goal

pub returns-clause-shorter : goal.returns-clause-shorter
returns-clause-shorter c = λ _. grind (arith, c.in-Some.ensures)

pub returns-clause-left : goal.returns-clause-left
returns-clause-left c = tail_dropped (c.in-Some.end + 1) (take_rest c.args.self.now.rest.now (c.in-Some.end + 1))
