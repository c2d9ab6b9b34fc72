-- What the caller knows is what the tests would leave.
use Rattle.std.proofs.Common.{sym, ◌∙◌, arith}
use Rattle.samples.proofs.Reach.{both}
use Rattle.route.proofs.Inside.{lies}
use Rattle.route.proofs.locate_known.Goals as goal

pub returns-then-inside-is_copied : goal.returns-then-inside-is_copied
returns-then-inside-is_copied g c =
    let held = both c.args.inside c.is_copied.result c.if-inside-is_copied.true in
    let k = c.requires held.0 in
    (sym c.is_copied.ensures ∙ held.1, lies _ _ (omega (arith, k, c.base-base.ensures)) (omega (arith, k, c.base-base.ensures)) (omega arith) (omega (arith, k, c.base-base.ensures)) (omega (arith, k, c.base-base.ensures)) c.args.area.inside)
