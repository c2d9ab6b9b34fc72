-- The views, read with the stride, give what the block gives, whatever the planes hold: the tail of a full or half phase itself, the two tails of a quarter phase their mean. Assumes nothing.
use mathlib.Core.Path.{◌≡◌, refl, sym, ap, ap₂, ◌∙◌}
use mathlib.Core.Bool.{Bool, true, false, cond}
use Prim.Native.Nat.{ℕ, zero, suc, ◌+◌, ◌/◌, ◌<◌}
use mathlib.Core.List.{List}
use native.Mathlib.Nat.{mod-lt}
use native.Mathlib.Omega.{arith}
use lib.Dec.{ltb}
use lib.IntN.{ℤ, pos, negsuc}
use lib.ListN.{length}
use Rattle.grid.specs.Block.{sample}
use Rattle.place.specs.Place.{phase}
use Rattle.place.proofs.Refused.{passed}
use Rattle.planes.specs.Planes.{wide}
use Rattle.samples.specs.declared.phases.Anchor.{Anchor}
use Rattle.samples.specs.declared.phases.Phase.{Phase}
use Rattle.samples.specs.Tap.{mean}
use Rattle.samples.specs.Phase.{plane_number, pair}
use Rattle.samples.proofs.Reach.{mean_same}
use Rattle.served.specs.Served.{at_quarter, place_tests, ref_refusal, qpel_refusal}
use Rattle.hpel.specs.Lookup.{in_order, one_at, two_at, ref_at, qpel_at}
use Rattle.hpel.specs.Reading.{hpel_sample}
use Rattle.served.proofs.Laws.{ref_passes}
use Rattle.hpel.proofs.Laws.{one_anchor}
use Rattle.hpel.proofs.Tails.{one, two, anchors, view, view1, view2, read, view_reads, view1_reads, view2_reads}

-- ---- a lookup of numbers that did not refuse

one_done : (r : ℕ) (a : Anchor) (pw : ℕ) (px py : ℤ) → (one_at r a pw px py).refusal ≡ 0 → (0 ≡ r) × ((one_at r a pw px py).stride ≡ pw)
one_done zero a pw px py e = (refl, refl)
one_done (suc n) a pw px py e = absurd (omega arith)

two_done : (r : ℕ) (k : Phase) (pw : ℕ) (px py : ℤ) → (two_at r k pw px py).refusal ≡ 0 → (0 ≡ r) × ((two_at r k pw px py).stride ≡ pw)
two_done zero k pw px py e = (refl, refl)
two_done (suc n) k pw px py e = absurd (omega arith)

module _ (f h v c w ht pad x0 y0 bw bh : ℕ) (mvx mvy : ℤ) where
  pub ref_done : (ref_at f h v c w ht pad x0 y0 bw bh mvx mvy).refusal ≡ 0
      → (0 ≡ ref_refusal f h v c w ht pad x0 y0 bw bh mvx mvy) × ((ref_at f h v c w ht pad x0 y0 bw bh mvx mvy).stride ≡ wide w pad)
  unfolding ref_at
  ref_done z = one_done _ _ (wide w pad) _ _ z

  pub qpel_done : (qpel_at f h v c w ht pad x0 y0 bw bh mvx mvy).refusal ≡ 0
      → (0 ≡ qpel_refusal f h v c w ht pad x0 y0 bw bh mvx mvy) × ((qpel_at f h v c w ht pad x0 y0 bw bh mvx mvy).stride ≡ wide w pad)
  unfolding qpel_at
  qpel_done z = two_done _ _ (wide w pad) _ _ z

  -- the phase is full or half
  whole : 0 ≡ ref_refusal f h v c w ht pad x0 y0 bw bh mvx mvy → at_quarter (phase mvx 4) (phase mvy 4) ≡ false
  unfolding place_tests
  whole e = (passed _ _ _ (ref_passes f h v c w ht pad x0 y0 bw bh mvx mvy e).1).0

-- ---- THE VIEWS

phase_below : (z : ℤ) → phase z 4 < 4
phase_below (pos n) = mod-lt n (omega arith)
phase_below (negsuc n) = omega arith

-- the mean of two anchors does not depend on their order
either : (k : Phase) (g : Anchor → ℕ) → mean (g (in_order k).p) (g (in_order k).q) ≡ mean (g k.p) (g k.q)
unfolding in_order mean
either k g = go (ltb (plane_number k.q.kind) (plane_number k.p.kind))
  where
    go : (b : Bool) → let o = cond b (pair k.q k.p) k in (g o.p + g o.q + 1) / 2 ≡ (g k.p + g k.q + 1) / 2
    go true = ap (λ (n : ℕ). n / 2) (omega arith)
    go false = refl

module _ (f h v c : List ℕ) (w ht pad x0 y0 bw bh : ℕ) (mvx mvy : ℤ) (x y : ℕ) where
  abbrev at : Anchor → ℕ
  at a = read f h v c w ht pad x0 y0 bw bh mvx mvy a x y

  abbrev p : Anchor
  p = (anchors f h v c w ht pad x0 y0 bw bh mvx mvy).p

  pub ref_view : one f h v c w ht pad x0 y0 bw bh mvx mvy ≡ 0
      → sample (view f h v c w ht pad x0 y0 bw bh mvx mvy) (wide w pad) x y ≡ hpel_sample f h v c w pad x0 y0 mvx mvy x y
  unfolding hpel_sample
  ref_view z =
      let e = whole _ _ _ _ w ht pad x0 y0 bw bh mvx mvy (ref_done (length f) (length h) (length v) (length c) w ht pad x0 y0 bw bh mvx mvy z).0 in
      view_reads f h v c w ht pad x0 y0 bw bh mvx mvy z x y
      ∙ sym (mean_same (at p))
      ∙ ap (λ (a : Anchor). mean (at p) (at a)) (one_anchor _ _ (phase_below mvx) (phase_below mvy) e)

  pub qpel_view : two f h v c w ht pad x0 y0 bw bh mvx mvy ≡ 0
      → mean (sample (view1 f h v c w ht pad x0 y0 bw bh mvx mvy) (wide w pad) x y) (sample (view2 f h v c w ht pad x0 y0 bw bh mvx mvy) (wide w pad) x y)
      ≡ hpel_sample f h v c w pad x0 y0 mvx mvy x y
  unfolding hpel_sample
  qpel_view z =
      ap₂ mean (view1_reads f h v c w ht pad x0 y0 bw bh mvx mvy z x y) (view2_reads f h v c w ht pad x0 y0 bw bh mvx mvy z x y)
      ∙ either (anchors f h v c w ht pad x0 y0 bw bh mvx mvy) at
