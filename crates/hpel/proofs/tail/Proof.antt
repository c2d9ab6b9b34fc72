-- `hpel::tail` meets its contract: past the end nothing is left. Assumes nothing.
use borrow.Author.Rules.{rules}
use mathlib.Core.Path.{sym}
use native.Mathlib.Nat.{le_of_lt}
use lib.ListN.{drop_of_length-le}
use Rattle.hpel.proofs.Laws.{tail_in}
use Rattle.hpel.proofs.tail.Statement.{statement}
use Rattle.hpel.proofs.tail.Tie as tie

pub tail_spec : {M : Type 1} → statement M
tail_spec =
    tie.close
    (tie.spec
    (λ c. search rules)
    (λ c. search rules)
    (λ c. search rules)
    (λ c. search rules)
    (λ c. tail_in c.before.before.args.p.now c.before.before.args.at)
    (λ c. sym (drop_of_length-le _ (le_of_lt c.if-at-p.false))))
