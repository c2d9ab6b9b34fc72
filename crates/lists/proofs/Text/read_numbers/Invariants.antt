-- `lists::Text::read_numbers`: what is left is a tail of the text.
use Rattle.lists.specs.Tail.{IsTail}
use Rattle.lists.proofs.Text.read_numbers.Given as goal

abbrev pub invariant-loop-number : goal.invariant-loop-number
invariant-loop-number l = IsTail l.initial.self.rest.now l.self.rest.now
