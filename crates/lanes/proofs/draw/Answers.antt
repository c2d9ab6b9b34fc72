-- `lanes::draw`: pairs of rows are drawn where the width is narrow and the height even. Assumes nothing.
use Rattle.std.proofs.Common.{rules, arith, ◌≡◌, ◌%◌, ℕ, Bool, true, false}
use mathlib.Core.Bool.{◌&&◌}
use lib.Dec.{eqb}
use Rattle.lanes.proofs.draw.Goals as goal

even : (narrow : Bool) (n : ℕ) → (narrow && eqb n 0) ≡ true → n ≡ 0
even true n e = grind (arith, e)
even false n e = grind (arith, e)

pub pairs-requires : goal.pairs-requires
pairs-requires g c = (c.requires.0, search rules, even c.is_narrow.result (c.args.size.h % 2) c.if-is_narrow-size.true, c.requires.2)
