-- Both ways to read give the samples nearest to the windows' places.
use Rattle.std.proofs.Common.{◌+◌, ◌^◌, length, arith}
use Rattle.samples.specs.Kernel.{window_at}
use Rattle.route.specs.Area.{Lies}
use Rattle.route.proofs.Inside.{in_tile, place_windows}
use Rattle.planes.proofs.Laws.{part}
use Rattle.planes.proofs.build_part.Goals as goal

pub returns-in-Some : goal.returns-in-Some
returns-in-Some c =
    let a = c.args in
    let f = a.f in
    let l : Lies (length f.samples.now) 0 f.w f.w f.h (a.x + 2 ^ 29) (a.y + 2 ^ 29) (2 ^ 29 + 2) (a.n + 5) 6 21 c.in-Some.at = rw c.base-base.ensures at c.in-Some.ensures in
    part f.samples.now f.w f.h a.x a.y a.n (λ i. window_at f.samples.now c.in-Some.at f.w i 0)
    (λ x i j b p q. place_windows f.samples.now l x 0 i j (omega arith) (omega arith))
    _ _ _ _ c.build_lanes.ensures

pub returns-in-None : goal.returns-in-None
returns-in-None c =
    let a = c.args in
    let f = a.f in
    part f.samples.now f.w f.h a.x a.y a.n (λ i. window_at c.tile_into.new.tile 0 (a.n + 5) i 0)
    (λ x i j b p q.
    in_tile f.samples.now _ 0 f.w f.w f.h (a.x + 2 ^ 29) (a.y + 2 ^ 29) (2 ^ 29 + 2) (a.n + 5) 6 (rw c.base-base.ensures at c.tile_into.ensures) x 0 i j (omega arith) (omega arith))
    _ _ _ _ c.build_lanes-in-None.ensures
