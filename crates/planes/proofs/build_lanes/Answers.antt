-- A row of half samples at step 1, and a row of half samples and of centres over one row of sums.
use Rattle.std.proofs.Common.{◌≡◌, ℕ, ◌+◌, ◌*◌, List, get_or, ap, ◌∙◌, arith}
use Rattle.grid.specs.Run.{from}
use Rattle.grid.proofs.Fill.{put_ext}
use Rattle.samples.specs.Tap.{half}
use Rattle.samples.specs.Kernel.{window_at}
use Rattle.samples.proofs.Tap.{half_cong}
use Rattle.planes.proofs.build_lanes.Goals as goal

-- taps that are s apart, by the index of each
taps : (t : List ℕ) (q s : ℕ) (at : ℕ → ℕ) → ((k : ℕ) → q + k * s ≡ at k) → half 255 (from t q s) ≡ half 255 (λ k. get_or t (at k) 0)
unfolding from
taps t q s at e = half_cong 255 _ _ (λ k. ap (λ (i : ℕ). get_or t i 0) (e k))

pub returns : goal.returns
unfolding window_at
returns c =
    let a = c.args in
    let t = a.view in (
      c.half_row.ensures ∙ put_ext a.h.now a.o a.n _ _ (λ i _. taps t.samples.now _ _ (λ k. t.at + (0 + 2) * t.stride + (i + k)) (λ k. omega arith)),
      c.down_and_centre_row.ensures.0 ∙ put_ext a.v.now a.o a.n _ _ (λ i _. taps t.samples.now _ _ (λ k. t.at + (0 + k) * t.stride + (i + 2)) (λ k. omega arith)),
      c.down_and_centre_row.ensures.1,
    )
