-- Sixteen more samples are written at each turn, then the rest.
use Rattle.std.proofs.Common.{◌≡◌, ℕ, ◌+◌, ◌*◌, ◌-◌, ◌%◌, ◌≤◌, ◌<◌, List, refl, subst, arith}
use native.Mathlib.Nat.{mul-le-mul_right}
use Rattle.grid.specs.Run.{put}
use Rattle.grid.proofs.Loop.{Filled, filled_none, filled_done}
use Rattle.samples.proofs.Rows.{filled_by}
use Rattle.planes.proofs.build_row.Goals as goal

-- a row ends within the plane
row_fits : (w h y : ℕ) → y < h → y * w + w ≤ w * h
row_fits w h y b = omega (arith, mul-le-mul_right w b)

turn : (k : ℕ) {d₀ d e : List ℕ} {o n : ℕ} {g : ℕ → ℕ} → Filled d₀ o n g (16 * k) d → 16 * k + 16 ≤ n → e ≡ put d (o + 16 * k) 16 (λ j. g (16 * k + j))
    → Filled d₀ o n g (16 * (k + 1)) e
turn k {d₀} {d} {e} {o} {n} {g} inv b p =
    let next : 16 * k + 16 ≡ 16 * (k + 1) = omega arith in
    subst (λ (i : ℕ). Filled d₀ o n g i e) next (filled_by inv b p refl (λ j _. refl))

ended : (x m : ℕ) {d₀ d e : List ℕ} {o n i : ℕ} {g : ℕ → ℕ} → Filled d₀ o n g i d → i ≡ x → x + m ≡ n → e ≡ put d (o + x) m (λ j. g (x + j)) → e ≡ put d₀ o n g
ended x m {d₀} {d} {e} {o} {n} {i} {g} inv q b p =
    filled_done (filled_by (subst (λ (k : ℕ). Filled d₀ o n g k d) q inv) (omega arith) p refl (λ j _. refl)) (omega arith)

pub loop-k-init : goal.loop-k-init
loop-k-init c =
    let r = row_fits c.args.f.w c.args.f.h c.args.y c.requires.0 in
    (filled_none _ _ _ _ (omega arith), filled_none _ _ _ _ (omega arith), filled_none _ _ _ _ (omega arith))

pub loop-k-preserved : goal.loop-k-preserved
loop-k-preserved c =
    let i = c.loop-k.invariant in
    let e = c.build_part.ensures in
    (turn c.loop-k.k i.0 (omega arith) e.0, turn c.loop-k.k i.1 (omega arith) e.1, turn c.loop-k.k i.2 (omega arith) e.2)

pub returns-then-rest-gt0 : goal.returns-then-rest-gt0
returns-then-rest-gt0 c =
    let i = c.loop-k.invariant in
    let e = c.build_part-then-rest-gt0.ensures in (
      ended (c.args.f.w - c.args.f.w % 16) (c.args.f.w % 16) i.0 (omega arith) (omega arith) e.0,
      ended (c.args.f.w - c.args.f.w % 16) (c.args.f.w % 16) i.1 (omega arith) (omega arith) e.1,
      ended (c.args.f.w - c.args.f.w % 16) (c.args.f.w % 16) i.2 (omega arith) (omega arith) e.2,
    )
