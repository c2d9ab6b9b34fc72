-- `lanes::rows` meets its contract: each turn writes a row out of its lanes. Assumes nothing.
use mathlib.Core.Path.{◌≡◌, ap, ◌∙◌, sym}
use mathlib.Core.Bool.{not}
use native.Mathlib.Omega.{arith}
use borrow.Author.Tests.{ne_eqb}
use Rattle.grid.proofs.Loop.{rows_none, rows_done}
use Rattle.lanes.proofs.Turns.{row_stored}
use Rattle.lanes.proofs.rows.Goals.{then-this-ne0, else-this-ne0}
use Rattle.lanes.proofs.rows.Goals as goal

pub loop-r-init : goal.loop-r-init
loop-r-init g c = rows_none _ _ _ _ (omega arith)

pub loop-r-preserved : goal.loop-r-preserved
loop-r-preserved g c =
    let e : c.if-this-ne0.w ≡ c.args.size.w = elim c.if-this-ne0.branch [ then-this-ne0 w ↦ w.w-is ∙ sym (c.requires.2 (ap not (ne_eqb _ 0 w.if-this-ne0.true))) | else-this-ne0 w ↦ w.w-is ] in
    row_stored c.row.result c.loop-r.invariant (omega arith) e (omega arith) c.store.ensures c.row.ensures

pub returns : goal.returns
returns g c = rows_done c.loop-r.invariant (omega arith)
