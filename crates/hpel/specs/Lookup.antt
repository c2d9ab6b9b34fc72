-- The lookups of numbers, document 01: the refusal, the plane (0 f, 1 h, 2 v, 3 c), the offset of its first sample and the stride; zeros on a refusal. Assumes nothing.
use Rattle.std.specs.Prelude.{cond, ℕ, zero, suc, ◌+◌, ◌*◌, ltb, ℤ}
use Rattle.std.specs.Int.Signed.{mag}
use Rattle.place.specs.Place.{luma_place, phase}
use Rattle.planes.specs.Planes.{wide}
use Rattle.samples.specs.declared.phases.Anchor.{Anchor}
use Rattle.samples.specs.declared.phases.Phase.{Phase}
use Rattle.samples.specs.Phase.{plane_number, pair, phase_of}
use Rattle.hpel.specs.declared.HpelAt.{HpelAt}
use Rattle.hpel.specs.declared.HpelPair.{HpelPair}
use Rattle.served.specs.Served.{ref_refusal, qpel_refusal}

-- where an anchor's samples of the block at (px, py) begin in its plane, whose rows have pw samples
unfoldable pub first_at : Anchor → (pw : ℕ) (px py : ℤ) → ℕ
first_at a pw px py = (mag py + a.dy) * pw + (mag px + a.dx)

-- two anchors in the plane order f, h, v, c
unfoldable pub in_order : Phase → Phase
in_order k = cond (ltb (plane_number k.q.kind) (plane_number k.p.kind)) (pair k.q k.p) k

abbrev pub one_at : (refusal : ℕ) → Anchor → (pw : ℕ) (px py : ℤ) → HpelAt
one_at zero a pw px py = record { refusal = 0; plane = plane_number a.kind; offset = first_at a pw px py; stride = pw }
one_at (suc n) a pw px py = record { refusal = suc n; plane = 0; offset = 0; stride = 0 }

abbrev pub two_at : (refusal : ℕ) → Phase → (pw : ℕ) (px py : ℤ) → HpelPair
two_at zero k pw px py =
    record {
      refusal = 0;
      plane_a = plane_number k.p.kind;
      plane_b = plane_number k.q.kind;
      offset_a = first_at k.p pw px py;
      offset_b = first_at k.q pw px py;
      stride = pw;
    }
two_at (suc n) k pw px py = record { refusal = suc n; plane_a = 0; plane_b = 0; offset_a = 0; offset_b = 0; stride = 0 }

-- f, h, v and c are the lengths of the planes lent
module _ (f h v c w ht pad x0 y0 bw bh : ℕ) (mvx mvy : ℤ) where
  unfoldable pub ref_at : HpelAt
  ref_at =
      one_at (ref_refusal f h v c w ht pad x0 y0 bw bh mvx mvy) (phase_of (phase mvx 4) (phase mvy 4)).p (wide w pad) (luma_place x0 mvx pad) (luma_place y0 mvy pad)

  unfoldable pub qpel_at : HpelPair
  qpel_at =
      two_at (qpel_refusal f h v c w ht pad x0 y0 bw bh mvx mvy) (in_order (phase_of (phase mvx 4) (phase mvy 4))) (wide w pad) (luma_place x0 mvx pad)
      (luma_place y0 mvy pad)
