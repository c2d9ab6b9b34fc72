-- `bilinear::store`: what is not four rows is one. Assumes nothing.
use Rattle.std.proofs.Common.{◌≡◌, ◌+◌, ◌*◌, ◌∙◌, ℕ, List, get_or, refl, sym, ap, arith}
use Rattle.grid.specs.Block.{by_rows}
use Rattle.grid.specs.Run.{put}
use Rattle.grid.proofs.Fill.{put_ext, put_long, by_rows_at}
use Rattle.grid.proofs.Group.{of_lanes}
use Rattle.bilinear.proofs.store.Goals as goal

one_row : {x : List ℕ} {k : ℕ} (d z : List ℕ) (o n m : ℕ) → x ≡ put d o k (λ i. get_or z (0 + i) 0) → n ≡ k → m ≡ 1 → x ≡ put d o (m * n) (by_rows n (of_lanes z))
one_row {x} {k} d z o n m p e f =
    let s : m * n ≡ k = omega (arith, ap (λ (i : ℕ). i * n) f, e) in
    put_long d o (by_rows n (of_lanes z))
    (p ∙ put_ext d o k (λ i. get_or z (0 + i) 0) (by_rows n (of_lanes z)) (λ i h.
    let u : 0 + i ≡ 8 * 0 + i = omega arith in
    let v : 0 * n + i ≡ i = omega arith in
    ap (λ (j : ℕ). get_or z j 0) u ∙ sym (by_rows_at n (of_lanes z) i 0 (omega arith)) ∙ ap (by_rows n (of_lanes z)) v))
    s

pub returns-then-n-eq2 : goal.returns-then-n-eq2
returns-then-n-eq2 g c =
    let x = c.args in
    one_row x.dst.now x.z.now x.o x.n g.row.ROWS c.copy_run.ensures c.if-n-eq2.true (c.requires.1 c.if-this-eq4.false)

pub returns : goal.returns
returns g c =
    let x = c.args in
    one_row x.dst.now x.z.now x.o x.n g.row.ROWS c.copy_run-2.ensures refl (c.requires.1 c.if-this-eq4.false)
