-- The views: a tail is empty exactly when the lookup of numbers refuses, and, read with the stride, a tail that is served gives its anchor's samples. Assumes nothing.
use mathlib.Core.Path.{◌≡◌, refl, sym, ap, ◌∙◌}
use mathlib.Core.List.{List, [], ◌∷◌}
use Prim.Native.Nat.{ℕ, zero, suc, ◌+◌, ◌*◌, ◌^◌, ◌<◌}
use native.Mathlib.Nat.{add_assoc}
use native.Mathlib.Omega.{arith}
use lib.IntN.{ℤ}
use lib.ListN.{length, drop, get_or, length-drop}
use lib.Seq.{get_or-drop}
use lib.Signed.{mag}
use Rattle.grid.specs.Block.{sample}
use Rattle.place.specs.Outcome.{after}
use Rattle.place.specs.Place.{luma_place, phase}
use Rattle.planes.specs.Planes.{wide}
use Rattle.samples.specs.declared.phases.Anchor.{Anchor}
use Rattle.samples.specs.declared.phases.Phase.{Phase}
use Rattle.samples.specs.Phase.{plane_number, phase_of}
use Rattle.samples.proofs.Reach.{Near, phase_near}
use Rattle.served.specs.Served.{ref_refusal, qpel_refusal}
use Rattle.hpel.specs.Lookup.{first_at, in_order, one_at, two_at, ref_at, qpel_at}
use Rattle.hpel.specs.Reading.{plane_of, ref_tail, qpel_tails, anchor_at}
use Rattle.served.proofs.Laws.{Ok, ref_ok, qpel_ok}
use Rattle.hpel.proofs.Laws.{order_near, rows_room, no_tail, no_tails}

-- what a lookup answers with is the refusal
one_answers : (n : ℕ) (a : Anchor) (pw : ℕ) (px py : ℤ) → (one_at n a pw px py).refusal ≡ n
one_answers zero a pw px py = refl
one_answers (suc n) a pw px py = refl

two_answers : (n : ℕ) (k : Phase) (pw : ℕ) (px py : ℤ) → (two_at n k pw px py).refusal ≡ n
two_answers zero k pw px py = refl
two_answers (suc n) k pw px py = refl

module _ (f h v c : List ℕ) (w ht pad x0 y0 bw bh : ℕ) (mvx mvy : ℤ) where
  -- the lookups of numbers, and the anchors of the phase, as they stand and in the plane order
  abbrev pub one : ℕ
  one = (ref_at (length f) (length h) (length v) (length c) w ht pad x0 y0 bw bh mvx mvy).refusal

  abbrev pub two : ℕ
  two = (qpel_at (length f) (length h) (length v) (length c) w ht pad x0 y0 bw bh mvx mvy).refusal

  abbrev pub anchors : Phase
  anchors = phase_of (phase mvx 4) (phase mvy 4)

  abbrev pub view : List ℕ
  view = ref_tail f h v c w ht pad x0 y0 bw bh mvx mvy

  abbrev pub view1 : List ℕ
  view1 = get_or (qpel_tails f h v c w ht pad x0 y0 bw bh mvx mvy) 0 []

  abbrev pub view2 : List ℕ
  view2 = get_or (qpel_tails f h v c w ht pad x0 y0 bw bh mvx mvy) 1 []

  -- where an anchor's samples begin, and its plane from there on
  abbrev first : Anchor → ℕ
  first a = first_at a (wide w pad) (luma_place x0 mvx pad) (luma_place y0 mvy pad)

  abbrev from : Anchor → List ℕ
  from a = drop (first a) (plane_of f h v c (plane_number a.kind))

  -- the samples that the block reads
  abbrev pub read : Anchor → (x y : ℕ) → ℕ
  read = anchor_at f h v c (wide w pad) (luma_place x0 mvx pad) (luma_place y0 mvy pad)

  reads : (a : Anchor) {t : List ℕ} → t ≡ from a → (x y : ℕ) → sample t (wide w pad) x y ≡ read a x y
  unfolding sample anchor_at
  reads a e x y =
      let t = plane_of f h v c (plane_number a.kind) in
      let i = y * wide w pad + x in
      ap (λ (l : List ℕ). get_or l i 0) e ∙ get_or-drop (first a) t i 0 ∙ ap (λ (n : ℕ). get_or t n 0) (sym (add_assoc (first a) (y * wide w pad) x))

  -- what a lookup that serves gives
  one_zero : one ≡ 0 → ref_refusal (length f) (length h) (length v) (length c) w ht pad x0 y0 bw bh mvx mvy ≡ 0
  unfolding ref_at
  one_zero z = sym (one_answers _ _ _ _ _) ∙ z

  two_zero : two ≡ 0 → qpel_refusal (length f) (length h) (length v) (length c) w ht pad x0 y0 bw bh mvx mvy ≡ 0
  unfolding qpel_at
  two_zero z = sym (two_answers _ _ _ _ _) ∙ z

  served : one ≡ 0 → view ≡ from anchors.p
  unfolding ref_tail ref_at
  served z =
      ap (λ (n : ℕ).
      let k = one_at n anchors.p (wide w pad) (luma_place x0 mvx pad) (luma_place y0 mvy pad) in after k.refusal [] (drop k.offset (plane_of f h v c k.plane)))
      (one_zero z)

  served_two : two ≡ 0 → qpel_tails f h v c w ht pad x0 y0 bw bh mvx mvy ≡ from (in_order anchors).p ∷ from (in_order anchors).q ∷ []
  unfolding qpel_tails qpel_at
  served_two z =
      ap (λ (n : ℕ).
      let k = two_at n (in_order anchors) (wide w pad) (luma_place x0 mvx pad) (luma_place y0 mvy pad) in
      after k.refusal [] (drop k.offset_a (plane_of f h v c k.plane_a)) ∷ after k.refusal [] (drop k.offset_b (plane_of f h v c k.plane_b)) ∷ [])
      (two_zero z)

  -- THE SAMPLES
  pub view_reads : one ≡ 0 → (x y : ℕ) → sample view (wide w pad) x y ≡ read anchors.p x y
  view_reads z = reads anchors.p (served z)

  pub view1_reads : two ≡ 0 → (x y : ℕ) → sample view1 (wide w pad) x y ≡ read (in_order anchors).p x y
  view1_reads z = reads (in_order anchors).p (ap (λ (l : List (List ℕ)). get_or l 0 []) (served_two z))

  pub view2_reads : two ≡ 0 → (x y : ℕ) → sample view2 (wide w pad) x y ≡ read (in_order anchors).q x y
  view2_reads z = reads (in_order anchors).q (ap (λ (l : List (List ℕ)). get_or l 1 []) (served_two z))

  -- EMPTY EXACTLY WHEN REFUSED
  abbrev pub EmptyWhen : (refusal : ℕ) → List ℕ → Type 0
  EmptyWhen n t = ((n ≡ 0 → ⊥) → t ≡ []) × (t ≡ [] → n ≡ 0 → ⊥)

  module _ (p : mag mvx < 2 ^ 31) (q : mag mvy < 2 ^ 31) where
    some_left : Ok (length f) (length h) (length v) (length c) w ht pad x0 y0 bw bh mvx mvy → (a : Anchor) → Near a → {t : List ℕ} → t ≡ from a → t ≡ [] → ⊥
    some_left ok a near e z =
        omega (arith, ok, ap length (sym e ∙ z), length-drop (first a) (plane_of f h v c (plane_number a.kind)), rows_room f h v c w pad x0 y0 mvx mvy refl refl ht bw bh p q ok a near (refl, refl))

    pub view_empty : EmptyWhen one view
    view_empty = (
      λ n. sym (no_tail f h v c w ht pad x0 y0 bw bh mvx mvy refl n),
      λ e z. some_left (ref_ok _ _ _ _ _ _ _ _ _ _ _ _ _ p q (sym (one_zero z))) anchors.p (phase_near _ _).0 (served z) e,
    )

    pub view1_empty : EmptyWhen two view1
    view1_empty = (
      λ n. sym (ap (λ (l : List (List ℕ)). get_or l 0 []) (no_tails f h v c w ht pad x0 y0 bw bh mvx mvy refl n)),
      λ e z. some_left (qpel_ok _ _ _ _ _ _ _ _ _ _ _ _ _ p q (sym (two_zero z))) (in_order anchors).p (order_near _ (phase_near _ _)).0
          (ap (λ (l : List (List ℕ)). get_or l 0 []) (served_two z)) e,
    )

    pub view2_empty : EmptyWhen two view2
    view2_empty = (
      λ n. sym (ap (λ (l : List (List ℕ)). get_or l 1 []) (no_tails f h v c w ht pad x0 y0 bw bh mvx mvy refl n)),
      λ e z. some_left (qpel_ok _ _ _ _ _ _ _ _ _ _ _ _ _ p q (sym (two_zero z))) (in_order anchors).q (order_near _ (phase_near _ _)).1
          (ap (λ (l : List (List ℕ)). get_or l 1 []) (served_two z)) e,
    )
