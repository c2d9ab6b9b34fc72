-- The test decides.
use Rattle.std.proofs.Common.{◌<◌, ◌≤◌}
use borrow.Author.Tests.{lt-ltb, le-ltb}
use Rattle.samples.specs.Phase.{plane_number}
use Rattle.hpel.specs.Lookup.{in_order}
use Rattle.hpel.proofs.in_order.Goals as goal

pub returns-then-number : goal.returns-then-number
unfolding in_order
returns-then-number c =
    let l : plane_number c.args.k.q.kind < plane_number c.args.k.p.kind = rw (← c.number.ensures, ← c.number-2.ensures) c.if-number.true in
    simp (lt-ltb _ _ l)

pub returns : goal.returns
unfolding in_order
returns c =
    let l : plane_number c.args.k.p.kind ≤ plane_number c.args.k.q.kind = rw (← c.number.ensures, ← c.number-2.ensures) c.if-number.false in
    simp (le-ltb _ _ l)
