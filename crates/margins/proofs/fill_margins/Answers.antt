-- `margins::fill_margins` meets its contract: the three parts lie in the buffer, and together they are `expanded`. Assumes nothing.
use Rattle.std.proofs.Common.{inl, inr, arith}
use Rattle.place.proofs.Refused.{padded_ok}
use Rattle.margins.proofs.Margin.{expanded_is, row_fits, row_room, row_next}
use Rattle.margins.proofs.fill_margins.Goals as goal

pub overflow_mul-first : goal.overflow_mul-first
overflow_mul-first c = row_fits (padded_ok _ _ _ _ _ c.requires) (omega arith)

pub overflow_add-last : goal.overflow_add-last
overflow_add-last c = omega (arith, padded_ok _ _ _ _ _ c.requires)

pub overflow_sub-last : goal.overflow_sub-last
overflow_sub-last c = omega (arith, padded_ok _ _ _ _ _ c.requires)

pub overflow_mul-last : goal.overflow_mul-last
overflow_mul-last c = row_fits (padded_ok _ _ _ _ _ c.requires) (omega arith)

pub overflow_add-past : goal.overflow_add-past
overflow_add-past c = omega (arith, padded_ok _ _ _ _ _ c.requires)

pub overflow_mul-past : goal.overflow_mul-past
overflow_mul-past c = row_fits (padded_ok _ _ _ _ _ c.requires) (omega arith)

pub fill_rows-requires : goal.fill_rows-requires
fill_rows-requires c = omega (arith, padded_ok _ _ _ _ _ c.requires)

pub copy_rows-requires : goal.copy_rows-requires
copy_rows-requires c =
    let p = padded_ok _ _ _ _ _ c.requires in
    (row_room p (omega arith) (omega arith), omega arith, inr (omega arith))

pub copy_rows-requires-2 : goal.copy_rows-requires-2
copy_rows-requires-2 c =
    let p = padded_ok _ _ _ _ _ c.requires in
    (row_room p (omega arith) (omega arith), omega arith, inl (row_next p (omega arith)))

pub returns : goal.returns
returns c =
    let p = padded_ok _ _ _ _ _ c.requires in
    expanded_is _ _ _ _ _ _ _ _ p.h1 p.src c.fill_rows.ensures c.copy_rows.ensures c.copy_rows-2.ensures
