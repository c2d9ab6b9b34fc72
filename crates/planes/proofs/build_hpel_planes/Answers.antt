-- What an answer of 0 tells, the padded plane, then the others of it alone.
use Rattle.std.proofs.Common.{◌+◌, ◌*◌, ◌<◌, arith}
use Rattle.planes.specs.Planes.{padded_at, across_at, down_at, centre_at, padded_plane}
use Rattle.planes.proofs.Laws.{build_ok, built, across_alone, down_alone, centre_alone}
use Rattle.planes.proofs.build_hpel_planes.Goals as goal

pub draw_padded-requires : goal.draw_padded-requires
draw_padded-requires c = omega (arith, (build_ok _ _ _ _ _ _ _ _ c.in_ok-check_build.ensures).plane)

pub overflow_mul-padded : goal.overflow_mul-padded
overflow_mul-padded c = omega (arith, (build_ok _ _ _ _ _ _ _ _ c.in_ok-check_build.ensures).plane)

pub overflow_add-padded : goal.overflow_add-padded
overflow_add-padded c = omega (arith, (build_ok _ _ _ _ _ _ _ _ c.in_ok-check_build.ensures).plane)

pub overflow_mul-padded-2 : goal.overflow_mul-padded-2
overflow_mul-padded-2 c = omega (arith, (build_ok _ _ _ _ _ _ _ _ c.in_ok-check_build.ensures).plane)

pub overflow_add-padded-2 : goal.overflow_add-padded-2
overflow_add-padded-2 c = omega (arith, (build_ok _ _ _ _ _ _ _ _ c.in_ok-check_build.ensures).plane)

pub invariant_of-padded : goal.invariant_of-padded
invariant_of-padded c =
    let ok = (build_ok _ _ _ _ _ _ _ _ c.in_ok-check_build.ensures).plane in
    record { wide = omega (arith, ok); high = omega (arith, ok); whole = omega (arith, ok) }

pub build_hpel_rows-requires : goal.build_hpel_rows-requires
build_hpel_rows-requires c =
    let ok = build_ok _ _ _ _ _ _ _ _ c.in_ok-check_build.ensures in
    omega (arith, ok, ok.plane)

pub returns : goal.returns
unfolding padded_plane
returns c =
    let a = c.args in
    let p = a.plane in
    let ok = (build_ok _ _ _ _ _ _ _ _ c.in_ok-check_build.ensures).plane in
    let pw = p.w + 2 * a.pad in
    let ph = p.h + 2 * a.pad in
    let g = padded_at p.samples.now p.w p.h a.pad in
    let w : 0 < pw = omega (arith, ok) in
    let h : 0 < ph = omega (arith, ok) in
    let f = c.draw_padded.ensures in
    let e = c.build_hpel_rows.ensures in (
      c.in_ok-check_build.ensures,
      f,
      built across_at a.h.now a.f.now pw ph g e.0 f (across_alone a.f.now pw ph g w h),
      built down_at a.v.now a.f.now pw ph g e.1 f (down_alone a.f.now pw ph g w h),
      built centre_at a.c.now a.f.now pw ph g e.2 f (centre_alone a.f.now pw ph g w h),
    )
