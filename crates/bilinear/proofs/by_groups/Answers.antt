-- `bilinear::by_groups`: each turn writes ROWS rows. Assumes nothing.
use Rattle.std.proofs.Common.{◌≡◌, ◌≤◌, ◌<◌, ◌+◌, ◌*◌, ◌/◌, ◌%◌, ◌∙◌, ℕ, List, length, replicate, ap, arith}
use native.Mathlib.Nat.{mul-le-mul_right, div-add-mod'}
use Rattle.std.proofs.lemmas.List.{length-replicate}
use Rattle.grid.specs.Block.{by_rows}
use Rattle.grid.specs.Run.{put}
use Rattle.grid.proofs.Group.{rows_group, stored_group}
use Rattle.grid.proofs.Loop.{Rows, rows_none, rows_done}
use Rattle.samples.specs.Bilinear.{chroma_sample}
use Rattle.samples.specs.Kernel.{window_at}
use Rattle.samples.proofs.Rows.{window_at_lem}
use Rattle.bilinear.proofs.by_groups.Goals as goal

-- the rows of turn k are there
room : (m k h : ℕ) → k < h / m → m * k + m ≤ h
room m k h b = omega (arith, mul-le-mul_right m b, div-add-mod' h m)

-- no row is left
all : (m k h : ℕ) → h % m ≡ 0 → h / m ≤ k → h ≤ m * k
all m k h e b = omega (arith, mul-le-mul_right m b, div-add-mod' h m)

moved : {d : List ℕ} {w h r s : ℕ} {f : ℕ → ℕ → ℕ} (d₀ : List ℕ) → Rows d₀ w h f r d → r ≡ s → Rows d₀ w h f s d
moved {d} {w} {h} {r} {s} {f} d₀ inv e =
    record { upto = omega (arith, inv.upto); room = inv.room; len = inv.len; is = inv.is ∙ ap (λ (k : ℕ). put d₀ 0 (k * w) (by_rows w f)) e }

pub loop-k-init : goal.loop-k-init
loop-k-init g c =
    let e : 0 ≡ g.row.ROWS * 0 = omega arith in
    moved c.args.dst.now (rows_none _ _ _ _ (omega arith)) e

pub fill-requires : goal.fill-requires
fill-requires g c =
    let v = c.args.v in
    let m = g.row.ROWS in
    let k = c.loop-k.k in
    let s = c.requires.within in
    let inside : v.at + m * k * v.stride + m * v.stride + 9 ≤ length v.samples.now =
    omega (arith, mul-le-mul_right v.stride (room m k c.args.size.h c.loop-k-test.true)) in
    let lanes : 8 * m ≤ length (replicate g.row.LANES 0) = omega (arith, length-replicate {A = ℕ} g.row.LANES 0, c.requires.grouped.0) in
    (lanes, s.0, s.1, inside)

pub overflow_mul-r-in-loop-k : goal.overflow_mul-r-in-loop-k
overflow_mul-r-in-loop-k g c = omega (arith, mul-le-mul_right c.args.size.w (room g.row.ROWS c.loop-k.k c.args.size.h c.loop-k-test.true))

pub store-requires : goal.store-requires
store-requires g c =
    let m = g.row.ROWS in
    let k = c.loop-k.k in
    let w = c.args.size.w in
    let inside : m * k * w + m * w ≤ length c.loop-k.dst =
    omega (arith, c.loop-k.invariant.len, c.loop-k.invariant.room, mul-le-mul_right w (room m k c.args.size.h c.loop-k-test.true)) in
    let lanes : 8 * m ≤ length c.fill.new.z = omega (arith, c.fill.auto.z, length-replicate {A = ℕ} g.row.LANES 0, c.requires.grouped.0) in
    (c.requires.grouped.2, c.requires.grouped.3, lanes, c.requires.within.3, inside)

pub loop-k-preserved : goal.loop-k-preserved
loop-k-preserved g c =
    let m = g.row.ROWS in
    let r = m * c.loop-k.k in
    let v = c.args.v in
    let t = v.samples.now in
    let f = c.args.f in
    let next : r + m ≡ m * (c.loop-k.k + 1) = omega arith in
    rows_group c.loop-k.invariant (room m c.loop-k.k c.args.size.h c.loop-k-test.true)
    (stored_group {m = m} {f = λ x y. chroma_sample f.x f.y (window_at t (v.at + r * v.stride) v.stride x y)} c.loop-k.dst c.fill.new.z (r * c.args.size.w) c.store.ensures
    (λ j i a b. c.fill.ensures j i a b) c.requires.within.3)
    (λ x j a b. ap (chroma_sample f.x f.y) (window_at_lem t v.stride (v.at + r * v.stride) x j v.at x (r + j) (omega arith))) next

pub returns : goal.returns
returns g c = rows_done c.loop-k.invariant (all g.row.ROWS c.loop-k.k c.args.size.h c.requires.grouped.4 (omega arith))
