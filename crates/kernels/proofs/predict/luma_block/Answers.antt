-- `kernels::predict::luma_block` meets its contract: the table's anchors, one or two of them. Assumes nothing.
use mathlib.Core.Path.{◌≡◌, refl, sym, ap, ap₂, ◌∙◌}
use mathlib.Core.Bool.{false≢true}
use Prim.Native.Nat.{◌+◌}
use native.Mathlib.Omega.{arith}
use lib.ListN.{length}
use Rattle.grid.proofs.Fill.{drawn_ext}
use Rattle.samples.specs.declared.phases.Kind.TheVariants.{Centre}
use Rattle.samples.specs.declared.phases.Anchor.{Anchor}
use Rattle.samples.specs.Tap.{mean}
use Rattle.samples.proofs.Reach.{at_full_lem, luma_one, luma_two}
use Rattle.kernels.proofs.Phases.{near_of, fit_of, same_anchor, centres, mean_swap, full_at, full_in}
use Rattle.kernels.proofs.predict.luma_block.Goals as goal

pub anchor_block-requires : goal.anchor_block-requires
anchor_block-requires c =
    let f = c.phase_at-f.result in
    let n = near_of f c.args.fx c.args.fy c.phase_at-f.ensures in
    let t = fit_of f c.args.fx c.args.fy c.phase_at-f.ensures (omega arith) (omega arith) (omega arith) in
    let e = ap (λ (a : Anchor). a.kind) (same_anchor f.p f.q (sym c.if-eq.ensures)) in
    (λ k. t.not_full (sym e ∙ k), n.0.0, n.0.1, omega arith, omega arith, omega arith, omega arith)

pub returns-then-eq : goal.returns-then-eq
returns-then-eq c =
    c.anchor_block.ensures
    ∙ drawn_ext _ _ _ _ _ (λ x r _ _. luma_one 255 c.args.fx c.args.fy _ c.phase_at-f.result c.phase_at-f.ensures (same_anchor _ _ (sym c.if-eq.ensures)))

pub overflow_mul-at : goal.overflow_mul-at
overflow_mul-at c =
    let v = c.args.v in
    let f = c.phase_at-f.result in
    let n = near_of f c.args.fx c.args.fy c.phase_at-f.ensures in
    omega (arith, full_in v.at v.stride c.args.size.h (length v.samples.now) f.p.dx f.p.dy n.0.0 n.0.1 (omega arith) (omega arith))

pub overflow_add-at-in-Full-default : goal.overflow_add-at-in-Full-default
overflow_add-at-in-Full-default c =
    let v = c.args.v in
    let f = c.phase_at-f.result in
    let n = near_of f c.args.fx c.args.fy c.phase_at-f.ensures in
    omega (arith, full_in v.at v.stride c.args.size.h (length v.samples.now) f.p.dx f.p.dy n.0.0 n.0.1 (omega arith) (omega arith))

pub overflow_add-at-in-Full-default-2 : goal.overflow_add-at-in-Full-default-2
overflow_add-at-in-Full-default-2 c =
    let v = c.args.v in
    let f = c.phase_at-f.result in
    let n = near_of f c.args.fx c.args.fy c.phase_at-f.ensures in
    omega (arith, full_in v.at v.stride c.args.size.h (length v.samples.now) f.p.dx f.p.dy n.0.0 n.0.1 (omega arith) (omega arith))

pub overflow_add-at-in-Full-default-3 : goal.overflow_add-at-in-Full-default-3
overflow_add-at-in-Full-default-3 c =
    let v = c.args.v in
    let f = c.phase_at-f.result in
    let n = near_of f c.args.fx c.args.fy c.phase_at-f.ensures in
    omega (arith, full_in v.at v.stride c.args.size.h (length v.samples.now) f.p.dx f.p.dy n.0.0 n.0.1 (omega arith) (omega arith))

pub mixed_anchor-requires : goal.mixed_anchor-requires
mixed_anchor-requires c =
    let v = c.args.v in
    let f = c.phase_at-f.result in
    let n = near_of f c.args.fx c.args.fy c.phase_at-f.ensures in
    let t = fit_of f c.args.fx c.args.fy c.phase_at-f.ensures (omega arith) (omega arith) (omega arith) in
    let room = full_in v.at v.stride c.args.size.h (length v.samples.now) f.p.dx f.p.dy n.0.0 n.0.1 (omega arith) (omega arith) in
    (t.not_full, t.beside c.in-Full-default.is-0, n.1.0, n.1.1, omega arith, omega (arith, room), omega arith, omega arith, omega arith)

pub returns-in-Full-default : goal.returns-in-Full-default
returns-in-Full-default c =
    let v = c.args.v in
    let f = c.phase_at-f.result in
    c.mixed_anchor.ensures
    ∙ drawn_ext _ _ _ _ _ (λ u r _ _.
    ap₂ mean (full_at v.samples.now v.at v.stride _ (2 + f.p.dx) (2 + f.p.dy) (omega arith) u r ∙ sym (at_full_lem 255 _ f.p c.in-Full-default.is-0)) refl
    ∙ luma_two 255 c.args.fx c.args.fy _ f c.phase_at-f.ensures)

-- the first is no centre: the two would be one anchor
pub luma_between-requires : goal.luma_between-requires
luma_between-requires c =
    let f = c.phase_at-f.result in
    let n = near_of f c.args.fx c.args.fy c.phase_at-f.ensures in
    let t = fit_of f c.args.fx c.args.fy c.phase_at-f.ensures (omega arith) (omega arith) (omega arith) in
    let one : f.p.kind ≡ Centre → ⊥ = λ e. false≢true (c.if-eq.ensures ∙ centres f t e c.in_default-Centre.is-1) in
    (t.not_full, n.1.0, n.1.1, c.in_default-Centre.not-Full-0, one, n.0.0, n.0.1, omega arith, omega arith, omega arith, omega arith, omega arith)

pub returns-in_default-Centre : goal.returns-in_default-Centre
returns-in_default-Centre c =
    c.luma_between.ensures
    ∙ drawn_ext _ _ _ _ _ (λ u r _ _. mean_swap _ _ ∙ luma_two 255 c.args.fx c.args.fy _ c.phase_at-f.result c.phase_at-f.ensures)

pub luma_between-requires-in_default : goal.luma_between-requires-in_default
luma_between-requires-in_default c =
    let f = c.phase_at-f.result in
    let n = near_of f c.args.fx c.args.fy c.phase_at-f.ensures in
    let t = fit_of f c.args.fx c.args.fy c.phase_at-f.ensures (omega arith) (omega arith) (omega arith) in
    (c.in_default.not-Full-0, n.0.0, n.0.1, t.not_full, c.in_default.not-Centre-1, n.1.0, n.1.1, omega arith, omega arith, omega arith, omega arith, omega arith)

pub returns-in_default : goal.returns-in_default
returns-in_default c =
    c.luma_between-in_default.ensures
    ∙ drawn_ext _ _ _ _ _ (λ u r _ _. luma_two 255 c.args.fx c.args.fy _ c.phase_at-f.result c.phase_at-f.ensures)
