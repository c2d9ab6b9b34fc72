-- `edge::edge_count` meets its contract: a refusal is handed on, and else the places that are counted are the definition's. Assumes nothing.
use Rattle.std.proofs.Common.{◌^◌, ◌<◌, arith, w32}
use lib.Signed.{mag}
use Rattle.std.proofs.lemmas.Int.{to_z-of_z}
use Rattle.edge.proofs.Count.{edge_ok, count_is, done, handed_edges}
use Rattle.edge.proofs.edge_count.Goals as goal

pub returns-in_err-check_edge : goal.returns-in_err-check_edge
returns-in_err-check_edge c = handed_edges _ c.in_err-check_edge.field-0.0 _ _ c.from_residual.ensures.1 c.in_err-check_edge.ensures

pub at-x-requires : goal.at-x-requires
at-x-requires c = omega (arith, edge_ok _ _ _ _ _ _ c.in_ok-check_edge.ensures)

pub at-y-requires : goal.at-y-requires
at-y-requires c = omega (arith, edge_ok _ _ _ _ _ _ c.in_ok-check_edge.ensures)

pub count_off-requires : goal.count_off-requires
count_off-requires c = omega (arith, edge_ok _ _ _ _ _ _ c.in_ok-check_edge.ensures)

pub returns : goal.returns
returns c =
    let b = c.args.block in
    let p : mag b.mv.x < 2 ^ 31 = omega (arith, c.well_formed.1.1.0) in
    let q : mag b.mv.y < 2 ^ 31 = omega (arith, c.well_formed.1.1.0) in
    done _ _ _ c.in_ok-check_edge.ensures
    (count_is c.args.w c.args.h b.x b.y b.w b.h b.mv.x b.mv.y p q _ _ _
    (simp (to_z-of_z w32 b.mv.x (record { sfits = p })) at c.at-x.ensures.0) (simp (to_z-of_z w32 b.mv.y (record { sfits = q })) at c.at-y.ensures.0) c.count_off.ensures)
