-- One more row is written at each turn.
use Rattle.std.proofs.Common.{◌≡◌, ℕ, ◌+◌, ◌*◌, ◌-◌, ◌≤◌, ◌<◌, List, length, get_or, slice_index, ap, ◌∙◌, arith}
use Rattle.std.proofs.lemmas.List.Edits.{length-between, get_or-between}
use Rattle.std.specs.List.{between}
use Rattle.grid.proofs.Loop.{rows_none, rows_more, rows_room, rows_done, row_le}
use Rattle.place.specs.Near.{near, near_area}
use Rattle.place.proofs.tiles.clamped_area.Goals as goal

row_length : (xs : List ℕ) (s w : ℕ) → s + w ≤ length xs → length (between s (s + w) xs) ≡ w
row_length xs s w h = let e : s + w - s ≡ w = omega arith in length-between xs s (s + w) h ∙ e

-- the sample of a row that is nearest to a place
row_reads : (xs : List ℕ) (s w b x : ℕ) → s + w ≤ length xs → 0 < w → slice_index (between s (s + w) xs) (near b (length (between s (s + w) xs)) x) ≡ get_or xs (s + near b w x) 0
row_reads xs s w b x h p =
    ap (λ (n : ℕ). get_or (between s (s + w) xs) (near b n x) 0) (row_length xs s w h) ∙ get_or-between xs s (s + w) (near b w x) 0 (omega arith)

pub loop-r-init : goal.loop-r-init
loop-r-init c = rows_none _ _ _ _ (omega arith)

pub overflow_mul-r : goal.overflow_mul-r
overflow_mul-r c = let room = rows_room c.loop-r.invariant c.loop-r-test.true in omega arith

pub clamped_row-requires : goal.clamped_row-requires
clamped_row-requires c =
    let a = c.args.area in
    let room = rows_room c.loop-r.invariant c.loop-r-test.true in
    let ends : a.at + c.nearest.result * a.stride + a.w ≤ length a.samples.now = omega (arith, row_le a.stride _ _ c.nearest.ensures.1, a.inside) in
    omega (arith, row_length a.samples.now (a.at + c.nearest.result * a.stride) a.w ends)

pub loop-r-preserved : goal.loop-r-preserved
unfolding near_area
loop-r-preserved c =
    let a = c.args.area in
    let ends : a.at + c.nearest.result * a.stride + a.w ≤ length a.samples.now = omega (arith, row_le a.stride _ _ c.nearest.ensures.1, a.inside) in
    rows_more c.loop-r.invariant c.loop-r-test.true c.clamped_row.ensures
    (λ i h. row_reads a.samples.now (a.at + c.nearest.result * a.stride) a.w c.args.base (c.args.x + i) ends a.wide
    ∙ rw c.nearest.ensures.0)

pub returns : goal.returns
returns c = rows_done c.loop-r.invariant (omega arith)
