-- `lists::Text::byte`: two bytes are taken.
use Rattle.std.proofs.Common.{arith, drop, length-drop}
use Rattle.std.proofs.lemmas.List.{take_all}
use Rattle.lists.proofs.Tails.{tail_dropped}
use Rattle.lists.proofs.Text.byte.Goals as goal

pub returns-clause-left : goal.returns-clause-left
returns-clause-left c =
    let text = c.args.self.now.rest.now in
    tail_dropped 2 (take_all _ (drop 2 text) (omega (arith, length-drop 2 text)))
