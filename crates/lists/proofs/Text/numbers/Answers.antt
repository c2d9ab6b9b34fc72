-- `lists::Text::numbers`: what was read shortens the text. Assumes nothing.
use Rattle.lists.proofs.Text.numbers.Goals as goal

pub returns-in-Ok-clause-shorter : goal.returns-in-Ok-clause-shorter
returns-in-Ok-clause-shorter c = c.in-Ok.ensures.shorter
