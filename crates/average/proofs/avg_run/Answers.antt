-- `average::avg_run`: runs of 128, of 64, of 32 and of what is left, one after the other. Assumes nothing.
use Rattle.std.proofs.Common.{◌∙◌, ◌+◌, ◌*◌, ◌/◌, ◌≡◌, ◌≤◌, length, arith}
use Rattle.grid.proofs.Fill.{put_long}
use Rattle.grid.proofs.Loop.{filled_none, filled_done}
use Rattle.average.proofs.Runs.{means, more, moved, after_once, after_rest, put_all}
use Rattle.average.proofs.avg_run.Goals as goal

pub loop-k-init : goal.loop-k-init
loop-k-init c = filled_none _ _ _ _ (omega arith)

pub loop-k-preserved : goal.loop-k-preserved
loop-k-preserved c =
    let x = c.args in
    let i = 128 * c.loop-k.k in
    let k = 128 * (c.loop-k.k + 1) in
    let upto : k ≤ length x.dst.now = omega arith in
    more x.dst.now x.a.now x.b.now c.loop-k.invariant (omega arith) upto (put_long c.loop-k.dst i (means x.a.now x.b.now i) c.avg_lanes.ensures (omega arith))

pub returns-then-j-n : goal.returns-then-j-n
returns-then-j-n c =
    let x = c.args in
    let d = x.dst.now in
    let e : 128 * c.loop-k.k ≡ length d / 128 * 128 = omega arith in
    let wide = moved d c.loop-k.invariant e in
    after_rest d x.a.now x.b.now (after_once d x.a.now x.b.now (after_once d x.a.now x.b.now wide c.avg_once-i.ensures) c.avg_once-j.ensures) c.avg_rest.ensures

pub returns-else-j-n : goal.returns-else-j-n
returns-else-j-n c =
    let x = c.args in
    let d = x.dst.now in
    let e : 128 * c.loop-k.k ≡ length d / 128 * 128 = omega arith in
    let wide = moved d c.loop-k.invariant e in
    filled_done (after_once d x.a.now x.b.now (after_once d x.a.now x.b.now wide c.avg_once-i.ensures) c.avg_once-j.ensures) (omega arith) ∙ put_all d _ _ (omega arith)
