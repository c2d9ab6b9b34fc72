-- What the hpel calls give of four planes, whatever these hold: the tail of a plane, two tails, and the block. Assumes nothing.
use Rattle.std.specs.Prelude.{List, [], ◌∷◌, map, ℕ, zero, suc, ◌+◌, ◌*◌, ℤ, length, drop, get_or}
use Rattle.std.specs.Borrow.{Bor}
use Rattle.place.specs.Outcome.{after}
use Rattle.place.specs.Place.{luma_place, phase}
use Rattle.planes.specs.Planes.{wide}
use Rattle.samples.specs.declared.phases.Anchor.{Anchor}
use Rattle.samples.specs.Phase.{plane_number, phase_of}
use Rattle.samples.specs.Tap.{mean}
use Rattle.hpel.specs.Lookup.{first_at, ref_at, qpel_at}

-- a plane by its number
abbrev pub plane_of : (f h v c : List ℕ) → ℕ → List ℕ
plane_of f h v c zero = f
plane_of f h v c (suc zero) = h
plane_of f h v c (suc (suc zero)) = v
plane_of f h v c (suc (suc (suc n))) = c

-- the contents of views
abbrev pub contents : List (Bor (List ℕ)) → List (List ℕ)
contents = map (λ x. x.now)

module _ (f h v c : List ℕ) (w ht pad x0 y0 bw bh : ℕ) (mvx mvy : ℤ) where
  -- the tail from the block's first sample on; empty exactly when the lookup of numbers refuses
  unfoldable pub ref_tail : List ℕ
  ref_tail =
      let k = ref_at (length f) (length h) (length v) (length c) w ht pad x0 y0 bw bh mvx mvy in after k.refusal [] (drop k.offset (plane_of f h v c k.plane))

  unfoldable pub qpel_tails : List (List ℕ)
  qpel_tails =
      let k = qpel_at (length f) (length h) (length v) (length c) w ht pad x0 y0 bw bh mvx mvy in
      after k.refusal [] (drop k.offset_a (plane_of f h v c k.plane_a))
      ∷ after k.refusal [] (drop k.offset_b (plane_of f h v c k.plane_b))
      ∷ []

-- the sample of an anchor in column x and row y of the block at (px, py), read in the anchor's plane
unfoldable pub anchor_at : (f h v c : List ℕ) (pw : ℕ) (px py : ℤ) (a : Anchor) (x y : ℕ) → ℕ
anchor_at f h v c pw px py a x y = get_or (plane_of f h v c (plane_number a.kind)) (first_at a pw px py + y * pw + x) 0

-- the mean of the phase's two anchors
unfoldable pub hpel_sample : (f h v c : List ℕ) (w pad x0 y0 : ℕ) (mvx mvy : ℤ) (x y : ℕ) → ℕ
hpel_sample f h v c w pad x0 y0 mvx mvy x y =
    let read = anchor_at f h v c (wide w pad) (luma_place x0 mvx pad) (luma_place y0 mvy pad) in
    mean (read (phase_of (phase mvx 4) (phase mvy 4)).p x y) (read (phase_of (phase mvx 4) (phase mvy 4)).q x y)
