-- `rows::average_row`: the first of sixteen lanes, loaded, averaged and stored. Assumes nothing.
use mathlib.Core.Path.{◌≡◌, ap, ap₂, ◌∙◌}
use mathlib.Core.List.{List}
use Prim.Native.Nat.{ℕ, ◌+◌, ◌≤◌}
use native.Mathlib.Nat.{zero-add}
use native.Mathlib.Omega.{arith}
use lib.ListN.{get_or, length-replicate}
use Rattle.grid.specs.Block.{tab}
use Rattle.grid.specs.Run.{put}
use Rattle.grid.proofs.Fill.{put_ext, front_at, tab_at}
use Rattle.samples.specs.Tap.{mean}
use Rattle.rows.proofs.average_row.Goals as goal

-- n of m lanes stored, which are the averages of two rows of lanes, into which n samples each were loaded
stored : {e z x y : List ℕ} {m : ℕ} (d x₀ y₀ : List ℕ) (o n p : ℕ) (a b : List ℕ)
    → e ≡ put d o n (λ i. get_or z (0 + i) 0)
    → z ≡ tab m (λ i. mean (get_or x i 0) (get_or y i 0))
    → x ≡ put x₀ 0 n (λ i. get_or a (p + i) 0)
    → y ≡ put y₀ 0 n (λ i. get_or b (p + i) 0)
    → n ≤ m
    → e ≡ put d o n (λ i. mean (get_or a (p + i) 0) (get_or b (p + i) 0))
stored {e} {z} {x} {y} {m} d x₀ y₀ o n p a b s q u v h =
    s
    ∙ put_ext d o n (λ i. get_or z (0 + i) 0) (λ i. mean (get_or a (p + i) 0) (get_or b (p + i) 0)) (λ i k.
    ap₂ (λ (l : List ℕ) (j : ℕ). get_or l j 0) q (zero-add i)
    ∙ tab_at m (λ j. mean (get_or x j 0) (get_or y j 0)) i (omega arith)
    ∙ ap₂ mean (ap (λ (l : List ℕ). get_or l i 0) u ∙ front_at x₀ n (λ j. get_or a (p + j) 0) i k) (ap (λ (l : List ℕ). get_or l i 0) v ∙ front_at y₀ n (λ j. get_or b (p + j) 0) i k))

pub returns : goal.returns
returns g c =
    let x = c.args in
    stored x.dst.now _ _ x.o g.row.N x.p x.a.now x.b.now c.copy_lanes-3.ensures c.mean_lanes.ensures c.copy_lanes.ensures c.copy_lanes-2.ensures (omega (arith, length-replicate {A = ℕ} 16 0))
