-- The tests of what is lent, then those of the place.
use Rattle.std.proofs.Common.{arith}
use Rattle.std.proofs.lemmas.Result.{err_from_is_err_and}
use Rattle.place.proofs.Refused.{first}
use Rattle.planes.proofs.Laws.{above_zero}
use Rattle.served.proofs.Laws.{lent_ok, lent_then}
use Rattle.served.proofs.check_lookup.Goals as goal

pub returns-in_err-check_lent : goal.returns-in_err-check_lent
returns-in_err-check_lent c =
    let p = err_from_is_err_and c.from_residual.result c.from_residual.ensures.1 in
    rw (p.1, p.2) (first _ _ _ c.in_err-check_lent.ensures (above_zero _))

pub check_place-requires : goal.check_place-requires
check_place-requires c = omega (arith, lent_ok _ _ _ _ _ _ _ _ _ _ _ c.in_ok-check_lent.ensures)

pub returns : goal.returns
returns c = lent_then _ _ _ _ _ _ _ _ _ _ _ _ _ c.in_ok-check_lent.ensures c.check_place.ensures
