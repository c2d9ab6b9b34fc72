-- One more position: it counts or not, by its test.
use Rattle.std.proofs.Common.{◌≡◌, ◌||◌, Bool, sym, ap₂, ◌∙◌, arith}
use native.Mathlib.Nat.{le_antisymm}
use Rattle.edge.proofs.Count.{count_yes, count_no, count_none, count_done}
use Rattle.edge.proofs.count_off.Invariants.{test}
use Rattle.edge.proofs.count_off.Goals as goal
use Rattle.edge.proofs.count_off.Goals.{then-is_off, else-is_off}

pub loop-k-init : goal.loop-k-init
loop-k-init c = record { upto = omega arith; few = omega arith; is = count_none _ }

pub loop-k-preserved : goal.loop-k-preserved
loop-k-preserved c =
    let inv = c.loop-k.invariant in
    let t : test c.args.x c.args.y c.args.w c.args.h c.args.bw c.loop-k.k ≡ c.is_off.result || c.is_off-in-loop-k.result =
    sym (ap₂ (λ (s u : Bool). s || u) c.is_off.ensures c.is_off-in-loop-k.ensures) in
    elim c.if-is_off.branch [
      | then-is_off w ↦ record { upto = omega arith; few = omega arith; is = w.n-is ∙ count_yes _ _ _ inv.is (t ∙ w.if-is_off.true) }
      | else-is_off w ↦ record { upto = omega arith; few = omega arith; is = w.n-is ∙ count_no _ _ _ inv.is (t ∙ w.if-is_off.false) }
    ]

pub returns : goal.returns
returns c = count_done _ _ _ _ c.loop-k.invariant.is (le_antisymm c.loop-k.invariant.upto c.loop-k-test.false)
